-- The meaning of single expressions: each operator, each trap, and what is evaluated of `&&` and `||`.
use Rattle.std.proofs.Common.{codes, ◌≡◌, ◌<◌, ◌-◌, ◌^◌, ℕ, ℤ, pos, negsuc, Bool, List, [], ◌∷◌, ◌++◌, length, map, true, false, refl, ap}
use Rattle.std.proofs.lemmas.Bool.{lt-leb}
use Rattle.std.specs.Prelude.{nat_le, if◌then◌else◌}
use Rattle.std.specs.Fmt.{digits}
use Rattle.wy_types.specs.declared.code.BinaryOperator.{BinaryOperator}
use Rattle.wy_types.specs.declared.code.BinaryOperator.TheVariants as binary
use Rattle.wy_types.specs.declared.code.UnaryOperator.TheVariants as unary
use Rattle.wy_types.specs.declared.code.TextOperator.{TextOperator}
use Rattle.wy_types.specs.declared.code.TextOperator.TheVariants as text
use Rattle.wy_types.specs.declared.types.TypeRef.TheVariants.{Unit as UnitType}
use Rattle.wy_types.specs.Code.{Expr, Unary, Binary, TextCall, New, Ascribe, Plain, If, none}
use Rattle.wy_device.specs.Operators.{Bytes, Join, Builds, Traps, operate, operate_within}
use Rattle.wy_device.specs.RunEnds.{Trap}
use Rattle.wy_device.specs.Traps.{TrapKind, Overflow, ZeroDivisor, BadPart, LongText, BadName, Crowded, text_limit}
use Rattle.wy_meaning.specs.Values.{Value, Int, Truth, Text, World, Outcome, Gives, Stops}
use Rattle.wy_meaning.specs.Eval.{eval, eval_value, eval_all, eval_block, open_calls}
use Rattle.wy_meaning.specs.Performing.{perform}
use Rattle.wy_meaning.specs.Results.{Result, give, stop, node, tick, told, settle, added, bind, whole}
use Rattle.wy_meaning.specs.Start.{outside}
use Rattle.wy_meaning.specs.Starts.{Starts, starts_of}
use Rattle.wy_meaning.proofs.Programs.{at, somewhere, number, quoted, truth, nothing, own, values, call_at, last, bare, main, grant, program, no_tapes}
use Rattle.wy_types.specs.Program.{Program}

-- the words in which an expression is tried: a console and a folder are granted, and there is one literal
abbrev setting : Program
setting = program (main (grant (codes "console") 0 ∷ grant (codes "disk") 1 ∷ []) (bare ∷ bare ∷ []) (last nothing) [] ∷ [])

abbrev setting_starts : Starts
setting_starts = starts_of setting []

-- a world in which so many objects are made and texts built
abbrev with_made : ℕ → ℕ → World
with_made objects texts = record { objects = []; made = objects; built = texts; tapes = no_tapes }

abbrev evaluated_in : World → Expr → Result Value
evaluated_in w e = eval setting setting_starts (open_calls setting setting_starts 3) (outside 0) e w

abbrev evaluated : Expr → Result Value
evaluated e = evaluated_in (with_made 0 0) e

-- what an expression comes to, its nodes and its instructions
abbrev answer_of : Result Value → Outcome Value × ℕ × ℕ
answer_of r = (r.out, r.nodes, r.steps)

abbrev gives : Value → ℕ → ℕ → Outcome Value × ℕ × ℕ
gives v c q = (Gives v, c, q)

abbrev traps : TrapKind → ℕ → ℕ → Outcome Value × ℕ × ℕ
traps kind c q = (Stops (Trap kind (at 4 9)), c, q)

-- an operator at line 4, column 9
abbrev of_two : BinaryOperator → Expr → Expr → Expr
of_two o x y = Binary (at 4 9) o x y

abbrev of_text : TextOperator → List Expr → Expr
of_text o es = TextCall (at 4 9) o (values es)

abbrev n : ℤ → Expr
n k = number k

abbrev minus : ℕ → ℤ
minus k = negsuc (k - 1)

abbrev least : ℤ
least = negsuc (2 ^ 63 - 1)

abbrev greatest : ℤ
greatest = pos (2 ^ 63 - 1)

-- what each of a list of expressions comes to
abbrev answers_of : List Expr → List (Outcome Value × ℕ × ℕ)
answers_of es = map (λ e. answer_of (evaluated e)) es

sums_are : answers_of (
    of_two binary.Add (n (pos 2)) (n (pos 3)) ∷ of_two binary.Add (n greatest) (n (pos 1)) ∷ of_two binary.Add (n least) (n greatest) ∷
    of_two binary.Subtract (n (pos 2)) (n (pos 3)) ∷ of_two binary.Subtract (n least) (n (pos 1)) ∷
    of_two binary.Multiply (n (minus 4)) (n (pos 3)) ∷ of_two binary.Multiply (n greatest) (n (pos 2)) ∷ [])
    ≡ gives (Int (pos 5)) 3 3 ∷ traps Overflow 3 3 ∷ gives (Int (minus 1)) 3 3 ∷
    gives (Int (minus 1)) 3 3 ∷ traps Overflow 3 3 ∷
    gives (Int (minus 12)) 3 3 ∷ traps Overflow 3 3 ∷ []
unfolding give stop node tick told settle added bind whole eval eval_value eval_all eval_block open_calls perform operate_within
sums_are = refl

-- division goes toward zero, the remainder has the dividend's sign
quotients_are : answers_of (
    of_two binary.Divide (n (minus 7)) (n (pos 2)) ∷ of_two binary.Divide (n (pos 7)) (n (pos 0)) ∷ of_two binary.Divide (n least) (n (minus 1)) ∷
    of_two binary.Remainder (n (minus 7)) (n (pos 2)) ∷ of_two binary.Remainder (n (pos 7)) (n (minus 2)) ∷ of_two binary.Remainder (n (pos 7)) (n (pos 0)) ∷
    of_two binary.Remainder (n least) (n (minus 1)) ∷ [])
    ≡ gives (Int (minus 3)) 3 3 ∷ traps ZeroDivisor 3 3 ∷ traps Overflow 3 3 ∷
    gives (Int (minus 1)) 3 3 ∷ gives (Int (pos 1)) 3 3 ∷ traps ZeroDivisor 3 3 ∷ gives (Int (pos 0)) 3 3 ∷ []
unfolding give stop node tick told settle added bind whole eval eval_value eval_all eval_block open_calls perform operate_within
quotients_are = refl

negations_are : answers_of (Unary (at 4 9) unary.Negate (n (pos 5)) ∷ Unary (at 4 9) unary.Negate (n least) ∷ Unary (at 4 9) unary.Not (truth true) ∷ [])
    ≡ gives (Int (minus 5)) 2 2 ∷ traps Overflow 2 2 ∷ gives (Truth false) 2 2 ∷ []
unfolding give stop node tick told settle added bind whole eval eval_value eval_all eval_block open_calls perform operate_within
negations_are = refl

comparisons_are : answers_of (
    of_two binary.Less (n (minus 1)) (n (pos 0)) ∷ of_two binary.LessOrEqual (n (pos 0)) (n (pos 0)) ∷ of_two binary.Greater (n (minus 1)) (n (minus 2)) ∷
    of_two binary.GreaterOrEqual (n (minus 2)) (n (minus 1)) ∷ of_two binary.Equal (quoted (codes "a")) (quoted (codes "a")) ∷
    of_two binary.NotEqual (truth true) (truth false) ∷ of_two binary.Equal (n (pos 1)) (n (minus 1)) ∷ [])
    ≡ gives (Truth true) 3 3 ∷ gives (Truth true) 3 3 ∷ gives (Truth true) 3 3 ∷
    gives (Truth false) 3 3 ∷ gives (Truth true) 3 3 ∷
    gives (Truth true) 3 3 ∷ gives (Truth false) 3 3 ∷ []
unfolding give stop node tick told settle added bind whole eval eval_value eval_all eval_block open_calls perform operate_within
comparisons_are = refl

-- the right side is evaluated only where it is needed: a zero divisor there does no harm
abbrev bad : Expr
bad = of_two binary.Equal (n (pos 1)) (of_two binary.Divide (n (pos 1)) (n (pos 0)))

and_or_are : answers_of (
    of_two binary.And (truth false) bad ∷ of_two binary.And (truth true) bad ∷ of_two binary.And (truth true) (truth false) ∷
    of_two binary.Or (truth true) bad ∷ of_two binary.Or (truth false) bad ∷ of_two binary.Or (truth false) (truth true) ∷ [])
    ≡ gives (Truth false) 2 3 ∷ traps ZeroDivisor 7 6 ∷ gives (Truth false) 3 4 ∷
    gives (Truth true) 2 4 ∷ traps ZeroDivisor 7 6 ∷ gives (Truth true) 3 3 ∷ []
unfolding give stop node tick told settle added bind whole eval eval_value eval_all eval_block open_calls perform operate_within
and_or_are = refl

-- a choice counts one node, an ascription one and no instruction
choices_are : map (λ v. answer_of (eval_value setting setting_starts (open_calls setting setting_starts 3) (outside 0) v (with_made 0 0))) (
    If somewhere (truth true) (last (n (pos 1))) (last (n (pos 2))) ∷ If somewhere (truth false) (last (n (pos 1))) (last (n (pos 2))) ∷
    Plain (Ascribe somewhere (Plain (n (pos 1))) UnitType) ∷ [])
    ≡ gives (Int (pos 1)) 3 4 ∷ gives (Int (pos 2)) 3 3 ∷ gives (Int (pos 1)) 2 1 ∷ []
unfolding give stop node tick told settle added bind whole eval eval_value eval_all eval_block open_calls perform operate_within
choices_are = refl

texts_are : answers_of (
    of_two binary.Join (quoted (codes "ab")) (quoted (codes "c")) ∷ of_text text.Size (quoted (codes "abc") ∷ []) ∷
    of_text text.Part (quoted (codes "abcd") ∷ n (pos 1) ∷ n (pos 3) ∷ []) ∷ of_text text.Part (quoted (codes "ab") ∷ n (pos 2) ∷ n (pos 2) ∷ []) ∷
    of_text text.Code (quoted (codes "ab") ∷ n (pos 1) ∷ []) ∷ of_text text.Byte (n (pos 65) ∷ []) ∷
    of_text text.Show (n (minus 120) ∷ []) ∷ of_text text.Show (n (pos 0) ∷ []) ∷ [])
    ≡ gives (Text (codes "abc")) 3 3 ∷ gives (Int (pos 3)) 2 2 ∷
    gives (Text (codes "bc")) 4 4 ∷ gives (Text []) 4 4 ∷
    gives (Int (pos 98)) 3 3 ∷ gives (Text (codes "A")) 2 2 ∷
    gives (Text (codes "-120")) 2 2 ∷ gives (Text (codes "0")) 2 2 ∷ []
unfolding digits give stop node tick told settle added bind whole eval eval_value eval_all eval_block open_calls perform operate_within
texts_are = refl

-- places outside a text, and bytes outside 0 to 255
bad_parts_are : answers_of (
    of_text text.Part (quoted (codes "ab") ∷ n (pos 2) ∷ n (pos 1) ∷ []) ∷ of_text text.Part (quoted (codes "ab") ∷ n (pos 0) ∷ n (pos 3) ∷ []) ∷
    of_text text.Part (quoted (codes "ab") ∷ n (minus 1) ∷ n (pos 1) ∷ []) ∷
    of_text text.Code (quoted (codes "ab") ∷ n (pos 2) ∷ []) ∷ of_text text.Code (quoted (codes "ab") ∷ n (minus 1) ∷ []) ∷
    of_text text.Byte (n (pos 256) ∷ []) ∷ of_text text.Byte (n (minus 1) ∷ []) ∷ [])
    ≡ traps BadPart 4 4 ∷ traps BadPart 4 4 ∷ traps BadPart 4 4 ∷
    traps BadPart 3 3 ∷ traps BadPart 3 3 ∷
    traps BadPart 2 2 ∷ traps BadPart 2 2 ∷ []
unfolding give stop node tick told settle added bind whole eval eval_value eval_all eval_block open_calls perform operate_within
bad_parts_are = refl

-- texts that are joined to more bytes than a text may have
long_texts_trap : (s t : List ℕ) → text_limit < length (s ++ t) → operate Join (Bytes s ∷ Bytes t ∷ []) ≡ Traps LongText
unfolding operate_within
long_texts_trap s t long = too_long (nat_le (length (s ++ t)) text_limit) (lt-leb _ _ long)
  where
    too_long : (b : Bool) → b ≡ false → (if b then Builds (s ++ t) else Traps LongText) ≡ Traps LongText
    too_long b e = ap (λ (b : Bool). if b then Builds (s ++ t) else Traps LongText) e

-- the 4,194,304th text is built and the next one is not; so with objects. Other traps of an operation come first
crowded_texts_are : map (λ e. answer_of (evaluated_in (with_made 0 4194304) e)) (
    of_two binary.Join (quoted (codes "ab")) (quoted (codes "c")) ∷ of_text text.Part (quoted (codes "ab") ∷ n (pos 0) ∷ n (pos 1) ∷ []) ∷
    of_text text.Byte (n (pos 65) ∷ []) ∷ of_text text.Show (n (pos 1) ∷ []) ∷ of_text text.Byte (n (pos 256) ∷ []) ∷
    call_at (at 4 9) (own 0) (codes "read") [] ∷ call_at (at 4 9) (own 1) (codes "read") (quoted (codes "a") ∷ []) ∷ [])
    ≡ traps Crowded 3 3 ∷ traps Crowded 4 4 ∷
    traps Crowded 2 2 ∷ traps Crowded 2 2 ∷ traps BadPart 2 2 ∷
    traps Crowded 2 2 ∷ traps Crowded 3 3 ∷ []
unfolding digits give stop node tick told settle added bind whole eval eval_value eval_all eval_block open_calls perform operate_within
crowded_texts_are = refl

last_text_is : answer_of (evaluated_in (with_made 0 4194303) (of_text text.Byte (n (pos 65) ∷ []))) ≡ gives (Text (codes "A")) 2 2
unfolding give stop node tick told settle added bind whole eval eval_value eval_all eval_block open_calls perform operate_within
last_text_is = refl

crowded_objects_are : answer_of (evaluated_in (with_made 4194304 0) (New (at 4 9) 1 none)) ≡ traps Crowded 1 1
unfolding give stop node tick told settle added bind whole eval eval_value eval_all eval_block open_calls perform operate_within
crowded_objects_are = refl

-- a name that is no file's traps before all else, and before the tape is asked
bad_names_are : map (λ name. answer_of (evaluated_in (with_made 0 4194304) (call_at (at 4 9) (own 1) (codes "read") (quoted name ∷ [])))) (
    codes "../x" ∷ codes ".a" ∷ codes "A" ∷ [] ∷ [])
    ≡ traps BadName 3 3 ∷ traps BadName 3 3 ∷ traps BadName 3 3 ∷ traps BadName 3 3 ∷ []
unfolding give stop node tick told settle added bind whole eval eval_value eval_all eval_block open_calls perform operate_within
bad_names_are = refl
