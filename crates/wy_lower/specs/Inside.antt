-- Where a body stands, and where it finds what names stand for: in slots, or among the values of the current
-- object. (docs/LANGUAGE.md, "Code of programs")
use Rattle.std.specs.Prelude.{ℕ, ◌+◌, Bool, false, ◌||◌, List, [], ◌∷◌, ◌++◌, length, Option, Some, None, nat_eq, slice_get, if◌then◌else◌}
use Rattle.wy_types.specs.declared.code.Variable.{Variable}
use Rattle.wy_types.specs.declared.code.Variable.TheVariants.{Parameter, Local}
use Rattle.wy_types.specs.declared.code.Binding.{Binding}
use Rattle.wy_types.specs.declared.code.Binding.TheVariants as to
use Rattle.wy_types.specs.declared.linked.Actual.{Actual}
use Rattle.wy_types.specs.declared.linked.Actual.TheVariants as actual
use Rattle.wy_code.specs.declared.instruction.Constant.{Constant}
use Rattle.wy_code.specs.declared.instruction.Constant.TheVariants as constant
use Rattle.wy_code.specs.declared.instruction.Instruction.{Instruction}
use Rattle.wy_code.specs.declared.instruction.Instruction.TheVariants.{Push, Load, Get}
use Rattle.wy_code.specs.declared.code.Source.{Source}
use Rattle.wy_code.specs.declared.code.Source.TheVariants.{Slot, Value}
use Rattle.wy_meaning.specs.Values.{same_variable}

-- a body: what the program's own names stand for, where it is one of the program's, and how many own names its
-- module has else; its number, where it is a method, with the parameters that it has; its `val`s; what the current
-- object captured; and the tables of texts and method names
pub record Inside : Type 0 where
  pub program : Bool
  pub actuals : List Actual
  pub owns : ℕ
  pub number : Option ℕ
  pub parameters : ℕ
  pub vals : List ℕ
  pub captures : List Variable
  pub texts : List (List ℕ)
  pub methods : List (List ℕ)

------------------------------------------------------------
-- Slots: the current object, the parameters, and one for each `val`

abbrev pub place_from : ℕ → ℕ → List ℕ → ℕ
place_from k n [] = k
place_from k n (m ∷ ms) = if nat_eq m n then k else place_from (k + 1) n ms

abbrev pub is_val : ℕ → List ℕ → Bool
is_val n [] = false
is_val n (m ∷ ms) = nat_eq m n || is_val n ms

abbrev pub is_number : ℕ → Option ℕ → Bool
is_number k None = false
is_number k (Some m) = nat_eq k m

-- the variable is a parameter or a `val` of the body itself
abbrev pub is_own : Inside → Variable → Bool
is_own i (Parameter k j) = is_number k i.number
is_own i (Local n) = is_val n i.vals

abbrev pub val_slot : Inside → ℕ → ℕ
val_slot i n = 1 + i.parameters + place_from 0 n i.vals

abbrev pub slot_of : Inside → Variable → ℕ
slot_of i (Parameter k j) = 1 + j
slot_of i (Local n) = val_slot i n

------------------------------------------------------------
-- The values of the current object: the module's own names, what was captured, and the fields

abbrev pub capture_from : ℕ → Variable → List Variable → ℕ
capture_from k x [] = k
capture_from k x (y ∷ ys) = if same_variable y x then k else capture_from (k + 1) x ys

-- in a module each object has the values of the own names first
abbrev pub own_values : Inside → ℕ
own_values i = if i.program then 0 else i.owns

abbrev pub capture_value : Inside → Variable → ℕ
capture_value i x = own_values i + capture_from 0 x i.captures

abbrev pub field_value : Inside → ℕ → ℕ
field_value i k = own_values i + length i.captures + k

------------------------------------------------------------
-- Names

abbrev pub handed_constant : Option Actual → Constant
handed_constant None = constant.Unit
handed_constant (Some (actual.Grant g)) = constant.Grant g
handed_constant (Some (actual.Instance x)) = constant.Instance x

-- what pushes the value of a name
abbrev pub name_code : Inside → Binding → Instruction
name_code i (to.Variable x) = if is_own i x then Load (slot_of i x) else Get (capture_value i x)
name_code i (to.Field k) = Get (field_value i k)
name_code i (to.Own k) = if i.program then Push (handed_constant (slice_get i.actuals k)) else Get k

-- the value of the current object that an assignment sets; only a field can be assigned
abbrev pub assigned_value : Inside → Binding → ℕ
assigned_value i (to.Field k) = field_value i k
assigned_value i (to.Variable x) = capture_value i x
assigned_value i (to.Own k) = k

------------------------------------------------------------
-- Captures: the own names of the module, where it is one, and the variables of the literal

abbrev pub source_of : Inside → Variable → Source
source_of i x = if is_own i x then Slot (slot_of i x) else Value (capture_value i x)

abbrev pub own_sources : ℕ → ℕ → List Source
own_sources k ℕ.zero = []
own_sources k (ℕ.suc n) = Value k ∷ own_sources (k + 1) n

abbrev pub sources_of : Inside → List Variable → List Source
sources_of i [] = []
sources_of i (x ∷ xs) = source_of i x ∷ sources_of i xs

-- where `new`, standing inside this body, finds what a literal captures
abbrev pub capture_sources : Inside → List Variable → List Source
capture_sources i xs = own_sources 0 (own_values i) ++ sources_of i xs
