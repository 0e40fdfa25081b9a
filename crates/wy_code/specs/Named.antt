-- What the instructions of code name, in the order of bodies and instructions: constant texts, methods, and the slots
-- that are stored into. (docs/LANGUAGE.md, "Code")
use Rattle.std.specs.Prelude.{◌≡◌, ℕ, ◌-◌, max, List, [], ◌∷◌, ◌++◌, map, Option, Some, None, slice_get}
use Rattle.wy_code.specs.declared.instruction.Constant.TheVariants as constant
use Rattle.wy_code.specs.declared.instruction.Instruction.{Instruction}
use Rattle.wy_code.specs.declared.instruction.Instruction.TheVariants.{Push, Store, Call}
use Rattle.wy_code.specs.declared.instruction.Placed.{Placed}
use Rattle.wy_code.specs.declared.code.Body.{Body}
use Rattle.wy_code.specs.declared.code.Code.{Code}
use Rattle.wy_code.specs.declared.code.Literal.{Literal}
use Rattle.wy_code.specs.declared.code.Method.{Method}
use Rattle.wy_code.specs.declared.code.Scope.{Scope}
use Rattle.wy_code.specs.EachOnce.{each_once}

------------------------------------------------------------
-- Lists of names and texts, each once

abbrev pub text_at : Option (List ℕ) → List (List ℕ)
text_at None = []
text_at (Some x) = x ∷ []

-- what stands in a table at these numbers
abbrev pub numbered : List (List ℕ) → List ℕ → List (List ℕ)
numbered table [] = []
numbered table (k ∷ ks) = text_at (slice_get table k) ++ numbered table ks

------------------------------------------------------------
-- Instructions

abbrev pub text_pushed : Instruction → List ℕ
text_pushed (Push (constant.Text t)) = t ∷ []
text_pushed _ = []

abbrev pub method_called : Instruction → List ℕ
method_called (Call m k) = m ∷ []
method_called _ = []

abbrev pub slot_stored : Instruction → List ℕ
slot_stored (Store i) = i ∷ []
slot_stored _ = []

-- what instructions name, in order
abbrev pub named_in : (Instruction → List ℕ) → List Placed → List ℕ
named_in f [] = []
named_in f (i ∷ is) = f i.instruction ++ named_in f is

-- what those of bodies name
abbrev pub named_by : (Instruction → List ℕ) → List Body → List ℕ
named_by f [] = []
named_by f (b ∷ bs) = named_in f b.instructions ++ named_by f bs

-- the texts of the code are those that its instructions push, each once, in the order of bodies and instructions
abbrev pub HasPushedTexts : Code → Type 0
HasPushedTexts code = code.texts ≡ each_once (numbered code.texts (named_by text_pushed code.bodies))

-- what the methods of kinds of objects are called
abbrev pub kinds_entries : List Literal → List ℕ
kinds_entries [] = []
kinds_entries (l ∷ ls) = map (λ (m : Method). m.method) l.methods ++ kinds_entries ls

abbrev pub scopes_entries : List Scope → List ℕ
scopes_entries [] = []
scopes_entries (s ∷ ss) = kinds_entries s.literals ++ scopes_entries ss

-- the method names of the code are those of its calls, in the order of bodies and instructions, and then those of the
-- methods of kinds of objects, in the order of scopes and kinds, each once
abbrev pub HasCalledMethods : Code → Type 0
HasCalledMethods code = code.methods ≡ each_once (numbered code.methods (named_by method_called code.bodies ++ scopes_entries code.scopes))

------------------------------------------------------------
-- Slots

-- the greatest of these numbers, or 0
abbrev pub greatest : List ℕ → ℕ
greatest [] = 0
greatest (n ∷ ns) = max n (greatest ns)

-- the slots of a body's `val`s are those behind its parameters, up to the last one that is stored into. Slot 0 is the
-- current object, so there are as many as that slot's number is greater than the number of parameters
abbrev pub stored_vals : Body → ℕ
stored_vals b = greatest (named_in slot_stored b.instructions) - b.parameters

abbrev pub HasStoredVals : Body → Type 0
HasStoredVals b = b.vals ≡ stored_vals b
