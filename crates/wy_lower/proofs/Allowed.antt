-- What is known of a form beforehand: its texts and the names of its calls have numbers, its literals are made here alone, and its `val`s are the
-- body's own and not yet in sight.
use Rattle.std.proofs.Common.{◌≡◌, inl, inr, ℕ, ◌<◌, Bool, true, false, List, [], ◌∷◌, ◌++◌, Option, Some, None, refl, sym, ◌∙◌, subst, arith}
use Rattle.std.specs.Prelude.{slice_get}
use Rattle.wy_text.specs.Members.{In, Apart}
use Rattle.wy_text.proofs.Lists.{In-left, In-right}
use Rattle.wy_types.specs.declared.code.TextOperator.{TextOperator}
use Rattle.wy_types.specs.declared.code.TextOperator.TheVariants.{Size, Part, Code, Byte, Show}
use Rattle.wy_types.specs.declared.code.Variable.{Variable}
use Rattle.wy_types.specs.declared.code.Variable.TheVariants.{Local}
use Rattle.wy_types.specs.declared.code.BinaryOperator.{BinaryOperator}
use Rattle.wy_types.specs.declared.code.BinaryOperator.TheVariants as binary
use Rattle.wy_types.specs.Code as code
use Rattle.wy_types.specs.Code.{Expr, Number, Quoted, Truth, Nothing, This, Name, Unary, Binary, TextCall, Call, New, Ascribe, Assign, Plain, If, Values, none, more, Block, Last, Then, Val}
use Rattle.wy_types.specs.Core.{text_arity, ExprFits, ValueFits, ValuesFit}
use Rattle.wy_types.specs.Vals.{value_count}
use Rattle.wy_types.specs.Program.{Program, Scope}
use Rattle.wy_meaning.specs.Values.{Value, same_variable, value_named}
use Rattle.wy_meaning.specs.Starts.{Starts}
use Rattle.wy_meaning.specs.Eval.{Sight, with_local}
use Rattle.wy_lower.specs.Inside.{Inside, is_val}
use Rattle.wy_lower.specs.Lowering.{text_table, inside_maker, lowered}
use Rattle.wy_lower.specs.Operands.{two_operands, operands, value_operands, values_operands}
use Rattle.wy_lower.specs.Parts.{number_in}
use Rattle.wy_lower.proofs.Slots.{not_picked, variable_is}

------------------------------------------------------------
-- Lists whose elements differ

pub apart_first : {X : Type 0} (xs ys : List X) → Apart (xs ++ ys) → Apart xs
apart_first [] ys h = tt
apart_first (x ∷ xs) ys h = ((λ j. h.0 (In-left x xs ys j)), apart_first xs ys h.1)

pub apart_rest : {X : Type 0} (xs ys : List X) → Apart (xs ++ ys) → Apart ys
apart_rest [] ys h = h
apart_rest (x ∷ xs) ys h = apart_rest xs ys h.1

pub apart_between : {X : Type 0} (xs ys : List X) → Apart (xs ++ ys) → (x : X) → In x xs → In x ys → ⊥
apart_between [] ys h x j k = absurd j
apart_between (z ∷ xs) ys h x (inl e) k = h.0 (subst (λ y. In y (xs ++ ys)) (sym e) (In-right x xs ys k))
apart_between (z ∷ xs) ys h x (inr j) k = apart_between xs ys h.1 x j k

------------------------------------------------------------
-- Forms

-- a literal is made in one body
abbrev pub IsGood : Program → Starts → Scope → Inside → Expr → Type 0
IsGood p s sc i (Quoted place bytes) = slice_get (text_table p) (number_in i.texts bytes) ≡ Some bytes
IsGood p s sc i (Call place x name xs) = slice_get (lowered p s).methods (number_in i.methods name) ≡ Some name
IsGood p s sc i (New place l xs) = inside_maker p s sc l 0 sc.bodies ≡ i
IsGood p s sc i _ = Unit {0}

module _ (p : Program) (s : Starts) (sc : Scope) (i : Inside) where
  pub record Allowed (sight : Sight) (parts : List Expr) (vals : List ℕ) : Type 0 where
    pub good : (e : Expr) → In e parts → IsGood p s sc i e
    pub own : (n : ℕ) → In n vals → is_val n i.vals ≡ true
    pub apart : Apart vals
    pub fresh : (n : ℕ) → In n vals → value_named sight.variables (Local n) ≡ None

  module _ (sight : Sight) (es fs : List Expr) where
    pub first_allowed : (ns ms : List ℕ) → Allowed sight (es ++ fs) (ns ++ ms) → Allowed sight es ns
    first_allowed ns ms h = record {
      good = λ e j. h.good e (In-left e es fs j);
      own = λ n j. h.own n (In-left n ns ms j);
      apart = apart_first ns ms h.apart;
      fresh = λ n j. h.fresh n (In-left n ns ms j);
    }

    pub rest_allowed : (ns ms : List ℕ) → Allowed sight (es ++ fs) (ns ++ ms) → Allowed sight fs ms
    rest_allowed ns ms h = record {
      good = λ e j. h.good e (In-right e es fs j);
      own = λ n j. h.own n (In-right n ns ms j);
      apart = apart_rest ns ms h.apart;
      fresh = λ n j. h.fresh n (In-right n ns ms j);
    }

    pub val_allowed : (n : ℕ) (ns ms : List ℕ) → Allowed sight (es ++ fs) (n ∷ (ns ++ ms)) → Allowed sight es ns
    val_allowed n ns ms h = record {
      good = λ e j. h.good e (In-left e es fs j);
      own = λ k j. h.own k (inr (In-left k ns ms j));
      apart = apart_first ns ms h.apart.1;
      fresh = λ k j. h.fresh k (inr (In-left k ns ms j));
    }

    -- behind a `val` it is in sight
    pub behind_allowed : (n : ℕ) (v : Value) (ns ms : List ℕ) → Allowed sight (es ++ fs) (n ∷ (ns ++ ms)) → Allowed (with_local sight n v) fs ms
    behind_allowed n v ns ms h = record {
      good = λ e j. h.good e (In-right e es fs j);
      own = λ k j. h.own k (inr (In-right k ns ms j));
      apart = apart_rest ns ms h.apart.1;
      fresh = λ k j. not_picked (same_variable (Local n) (Local k)) (Some v) (value_named sight.variables (Local k)) (other k j)
          ∙ h.fresh k (inr (In-right k ns ms j));
    }
      where
        other : (k : ℕ) → In k ms → same_variable (Local n) (Local k) ≡ false
        other k j = of (same_variable (Local n) (Local k)) refl
          where
            of : (b : Bool) → same_variable (Local n) (Local k) ≡ b → same_variable (Local n) (Local k) ≡ false
            of true e =
                let z : Local n ≡ Local k = variable_is (Local n) (Local k) e in
                let y : k ≡ n = cc in
                absurd (h.apart.0 (subst (λ (m : ℕ). In m (ns ++ ms)) y (In-right k ns ms j)))
            of false e = e

  -- what stands before an expression
  pub before_allowed : (sight : Sight) (es fs : List Expr) (ns : List ℕ) → Allowed sight (es ++ fs) ns → Allowed sight es ns
  before_allowed sight es fs ns h = record { good = λ e j. h.good e (In-left e es fs j); own = h.own; apart = h.apart; fresh = h.fresh }

  pub inner_allowed : (sight : Sight) (e : Expr) (es : List Expr) (ns : List ℕ) → Allowed sight (e ∷ es) ns → Allowed sight es ns
  inner_allowed sight e es ns h = record { good = λ f j. h.good f (inr j); own = h.own; apart = h.apart; fresh = h.fresh }

------------------------------------------------------------
-- An expression needs an operand at least

some_arity : (o : TextOperator) (k : ℕ) → k ≡ text_arity o → 0 < k
some_arity Size k e = omega arith
some_arity Part k e = omega arith
some_arity Code k e = omega arith
some_arity Byte k e = omega arith
some_arity Show k e = omega arith

two_some : (o : BinaryOperator) (x y : ℕ) → 0 < x → 0 < two_operands o x y
two_some binary.And x y h = omega arith
two_some binary.Or x y h = omega arith
two_some o x y h = omega arith

module _ (p : Program) (s : Scope) (owner : Option ℕ) where
  mutual
    unfolding operands

    pub some_operands : (e : Expr) (seen : List Variable) → ExprFits p s owner seen e → 0 < operands e
    some_operands (Number place n) seen f = omega arith
    some_operands (Quoted place bytes) seen f = omega arith
    some_operands (Truth place b) seen f = omega arith
    some_operands (Nothing place) seen f = omega arith
    some_operands (This place) seen f = omega arith
    some_operands (Name place name) seen f = omega arith
    some_operands (Unary place o x) seen f = some_operands x seen f
    some_operands (Binary place o x y) seen f = two_some o (operands x) (operands y) (some_operands x seen f.0)
    some_operands (TextCall place o xs) seen f = some_values xs seen f.1 (some_arity o (value_count xs) f.0)
    some_operands (Call place x method xs) seen f = let h = some_operands x seen f.0 in omega arith
    some_operands (New place l xs) seen f = omega arith
    some_operands (Ascribe place x t) seen f = some_value_operands x seen f.0
    some_operands (Assign place name x) seen f = some_value_operands x seen f.1

    pub some_value_operands : (x : code.Value) (seen : List Variable) → ValueFits p s owner seen x → 0 < value_operands x
    some_value_operands (Plain x) seen f = some_operands x seen f
    some_value_operands (If place test first second) seen f = let h = some_operands test seen f.0 in omega arith

    some_values : (xs : Values) (seen : List Variable) → ValuesFit p s owner seen xs → 0 < value_count xs → 0 < values_operands xs
    some_values none seen f h = absurd (omega arith)
    some_values (more x xs) seen f h = omega arith
