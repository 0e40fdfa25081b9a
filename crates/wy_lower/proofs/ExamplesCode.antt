-- The code of whole programs, written out.
use Rattle.std.proofs.Common.{codes, ◌≡◌, ℕ, zero, suc, pos, List, [], ◌∷◌, map, Option, Some, None, true, refl}
use Rattle.std.specs.Prelude.{slice_get}
use Rattle.std.specs.Fmt.{digits}
use Rattle.wy_types.specs.Program.{Program}
use Rattle.wy_device.specs.declared.primitive.Primitive.TheVariants as primitive
use Rattle.wy_code.specs.declared.instruction.Constant.TheVariants as constant
use Rattle.wy_code.specs.declared.instruction.Operator.TheVariants as operator
use Rattle.wy_code.specs.declared.instruction.Instruction.{Instruction}
use Rattle.wy_code.specs.declared.instruction.Instruction.TheVariants.{Push, Load, Store, Get, Set, Drop, Op, Jump, JumpFalse, New, Call, Return, Finish}
use Rattle.wy_code.specs.declared.instruction.Placed.{Placed}
use Rattle.wy_code.specs.declared.code.Argument.TheVariants as argument
use Rattle.wy_code.specs.declared.code.Body.{Body}
use Rattle.wy_code.specs.declared.code.Code.{Code}
use Rattle.wy_code.specs.declared.code.Source.TheVariants.{Slot, Value}
use Rattle.wy_code.specs.declared.code.Literal.{Literal}
use Rattle.wy_code.specs.declared.code.Scope.{Scope}
use Rattle.wy_meaning.specs.Starts.{Started, starts_of}
use Rattle.wy_meaning.proofs.Programs.{somewhere, number, nothing, then, last, main, bare, program}
use Rattle.wy_meaning.proofs.Rows.{logger, logger_started, kept_callback, kept_callback_started, nested, nested_started, readonly, readonly_started, three_files, three_files_started, samples}
use Rattle.wy_lower.specs.Listing.{listing, value_listing, values_listing, block_listing, fields_listing}
use Rattle.wy_lower.specs.Operands.{operands, value_operands, values_operands, block_operands, fields_operands}
use Rattle.wy_lower.specs.Counts.{lowering_limit}
use Rattle.wy_lower.specs.Laws.{scopes_numbers}
use Rattle.wy_lower.specs.Lowering.{lowered}
use Rattle.wy_text.specs.declared.limit.LimitName.{LimitName}
use Rattle.wy_text.specs.declared.limit.LimitName.TheVariants.{Slots}
use Rattle.wy_types.specs.Code.{Expr, Binary}
use Rattle.wy_types.specs.declared.code.BinaryOperator.TheVariants.{Add}

abbrev placed : List Instruction → List Placed
placed is = map (λ i. record { instruction = i; place = somewhere }) is

abbrev body : List ℕ → ℕ → ℕ → ℕ → List Instruction → Body
body name parameters vals slots is = record { name = name; parameters = parameters; vals = vals; slots = slots; instructions = placed is }

abbrev code_of : Program → List Started → Code
code_of p started = lowered p (starts_of p started)

-- `def log(t) = disk.append("log", t)` and `lg.log("a")`. The calls have the names: 0 is `append`, and 1 is `log`
logger_code : code_of logger logger_started
    ≡ record {
      grants = record { name = codes "disk"; primitive = primitive.Folder } ∷ [];
      methods = codes "append" ∷ codes "log" ∷ [];
      texts = codes "log" ∷ codes "a" ∷ [];
      bodies =
          body (codes "init") 0 0 1 (Finish ∷ []) ∷
          body (codes "log") 1 0 5 (Get 0 ∷ Push (constant.Text 0) ∷ Load 1 ∷ Call 0 2 ∷ Return ∷ []) ∷
          body (codes "run") 0 0 3 (Push (constant.Instance 0) ∷ Push (constant.Text 1) ∷ Call 1 1 ∷ Finish ∷ []) ∷ [];
      scopes =
          record { arguments = 1; start = 0; literals = record { captures = []; fields = 0; methods = record { method = 1; body = 1 } ∷ [] } ∷ [] } ∷
          record { arguments = 0; start = 2; literals = record { captures = []; fields = 0; methods = [] } ∷ [] } ∷ [];
      instances = record { name = codes "lg"; scope = 0; arguments = argument.Grant 0 ∷ [] } ∷ [];
      main = record { name = codes "main"; scope = 1; arguments = [] };
    }
unfolding digits listing value_listing values_listing block_listing fields_listing operands value_operands values_operands block_operands fields_operands lowered
logger_code = refl

-- a field's initialiser, an assignment, and a `val` whose literal's object is passed on
kept_callback_code : (code_of kept_callback kept_callback_started).bodies
    ≡ body (codes "init") 0 0 1 (Finish ∷ []) ∷
    body (codes "fire") 1 0 5 (Get 0 ∷ Push (constant.Text 0) ∷ Load 1 ∷ Call 0 2 ∷ Return ∷ []) ∷
    body (codes "init") 0 0 2 (Get 0 ∷ Set 1 ∷ Finish ∷ []) ∷
    body (codes "keep") 1 0 3 (Load 1 ∷ Set 1 ∷ Push constant.Unit ∷ Return ∷ []) ∷
    body (codes "go") 0 0 3 (Get 1 ∷ Push (constant.Text 1) ∷ Call 1 1 ∷ Return ∷ []) ∷
    body (codes "run") 0 1 4 (
    Push (constant.Instance 1) ∷ Call 2 0 ∷ Drop ∷ New 1 ∷ Store 1 ∷
    Push (constant.Instance 1) ∷ Load 1 ∷ Call 3 1 ∷ Drop ∷ Push (constant.Instance 1) ∷ Call 2 0 ∷ Finish ∷ []) ∷
    body (codes "new1.fire") 1 0 5 (Push (constant.Grant 0) ∷ Push (constant.Text 2) ∷ Load 1 ∷ Call 0 2 ∷ Return ∷ []) ∷ []
unfolding digits listing value_listing values_listing block_listing fields_listing operands value_operands values_operands block_operands fields_operands lowered
kept_callback_code = refl

abbrev literals_of : Option Scope → List Literal
literals_of None = []
literals_of (Some s) = s.literals

-- the objects of a module's literals have the module's own name first, and then the variables that they captured: the
-- inner literal finds the outer parameter among the values of the outer object
nested_literals : literals_of (slice_get (code_of nested nested_started).scopes 0)
    ≡ record { captures = []; fields = 0; methods = record { method = 1; body = 1 } ∷ [] } ∷
    record { captures = Value 0 ∷ Slot 1 ∷ []; fields = 0; methods = record { method = 2; body = 2 } ∷ [] } ∷
    record { captures = Value 0 ∷ Value 1 ∷ Slot 1 ∷ []; fields = 0; methods = record { method = 3; body = 3 } ∷ [] } ∷ []
unfolding digits listing value_listing values_listing block_listing fields_listing operands value_operands values_operands block_operands fields_operands lowered
nested_literals = refl

-- so each body stands once among the scopes
nested_numbers : scopes_numbers (code_of nested nested_started).scopes ≡ 0 ∷ 1 ∷ 2 ∷ 3 ∷ 4 ∷ []
unfolding digits listing value_listing values_listing block_listing fields_listing operands value_operands values_operands block_operands fields_operands lowered
nested_numbers = refl

-- two sides: `if text_size(t) == 0` gives one text, or else `t`
safe_code : slice_get (code_of three_files three_files_started).bodies 1
    ≡ Some (body (codes "safe") 1 0 4 (
    Load 1 ∷ Op operator.Size ∷ Push (constant.Int (pos 0)) ∷ Op operator.Equal ∷ JumpFalse 7 ∷ Push (constant.Text 0) ∷ Jump 8 ∷ Load 1 ∷ Return ∷ []))
unfolding digits listing value_listing values_listing block_listing fields_listing operands value_operands values_operands block_operands fields_operands lowered
safe_code = refl

-- the pure module that a module uses is an own name too, and `main` has the instance as a constant
three_files_bodies : map (λ (b : Body). b.name) (code_of three_files three_files_started).bodies
    ≡ codes "init" ∷ codes "safe" ∷ codes "init" ∷ codes "log" ∷ codes "init" ∷ codes "each" ∷ codes "run" ∷ codes "new1.got" ∷ []
unfolding digits listing value_listing values_listing block_listing fields_listing operands value_operands values_operands block_operands fields_operands lowered
three_files_bodies = refl

three_files_instances : (code_of three_files three_files_started).instances
    ≡ record { name = codes "pure clean"; scope = 0; arguments = [] } ∷
    record { name = codes "lg"; scope = 1; arguments = argument.Grant 2 ∷ argument.Instance 0 ∷ [] } ∷
    record { name = codes "rep"; scope = 2; arguments = argument.Instance 1 ∷ argument.Grant 1 ∷ [] } ∷ []
unfolding digits listing value_listing values_listing block_listing fields_listing operands value_operands values_operands block_operands fields_operands lowered
three_files_instances = refl

-- the names of calls come first, in the order of their instructions, and then `append`, a method that nothing calls;
-- the names of the other declared types are not listed
readonly_methods : (code_of readonly readonly_started).methods ≡ codes "read" ∷ codes "has" ∷ codes "names" ∷ codes "write" ∷ codes "append" ∷ []
unfolding lowered
readonly_methods = refl

------------------------------------------------------------
-- Limits

abbrev limit_of : Program → List Started → Option LimitName
limit_of p started = lowering_limit p (starts_of p started)

within_limits : limit_of three_files three_files_started ∷ limit_of (samples true) [] ∷ [] ≡ None ∷ None ∷ []
unfolding digits listing value_listing values_listing block_listing fields_listing operands value_operands values_operands block_operands fields_operands
within_limits = refl

-- a sum of so many numbers, each of which waits for the ones after it
abbrev waiting_sum : ℕ → Expr
waiting_sum zero = number (pos 0)
waiting_sum (suc n) = Binary somewhere Add (number (pos 0)) (waiting_sum n)

abbrev summing : ℕ → Program
summing n = program (main [] (bare ∷ []) (then (waiting_sum n) (last nothing)) [] ∷ [])

-- 256 slots are one for the current object and 255 operands
most_slots : limit_of (summing 254) [] ∷ limit_of (summing 255) [] ∷ [] ≡ None ∷ Some Slots ∷ []
unfolding digits listing value_listing values_listing block_listing fields_listing operands value_operands values_operands block_operands fields_operands
most_slots = refl
