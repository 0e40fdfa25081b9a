-- What is in sight as two lists: the variables in the order in which they came into sight, and the fields of
-- the current object, which stand before those of its own methods (docs/LANGUAGE.md, "Names").
use Rattle.std.specs.Prelude.{◌≡◌, ℕ, suc, ◌+◌, Bool, List, [], ◌∷◌, ◌++◌, map, take, drop, Option, Some, None, if◌then◌else◌}
use Rattle.wy_syntax.specs.declared.types.Param.{Param}
use Rattle.wy_types.specs.declared.code.Variable.{Variable}
use Rattle.wy_types.specs.declared.code.Variable.TheVariants.{Parameter}
use Rattle.wy_types.specs.declared.code.Binding.{Binding}
use Rattle.wy_types.specs.declared.code.Binding.TheVariants as to
use Rattle.wy_bodies.specs.declared.sight.Entry.{Entry}
use Rattle.wy_bodies.specs.declared.sight.Latest.{Latest}
use Rattle.wy_bodies.specs.declared.sight.Known as code
use Rattle.wy_symbols.specs.Declarations.{same_name}
use Rattle.wy_bodies.specs.Sight.{Sight, entry}

-- a variable with its name
pub record Known : Type 0 where
  pub name : List ℕ
  pub variable : Variable

abbrev pub known : List ℕ → Variable → Known
known name variable = record { name = name; variable = variable }

abbrev pub known_of : code.Known → Known
known_of k = record { name = k.name; variable = k.variable }

abbrev pub known_entry : Known → Entry
known_entry k = entry k.name (to.Variable k.variable)

abbrev pub entries : List Known → List Entry
entries ks = map known_entry ks

abbrev pub numbered : ℕ → Variable → Latest
numbered number variable = record { number = number; variable = variable }

-- the last variable of a name, with its number among them
abbrev pub later : Option Latest → Known → List ℕ → Option Latest
later (Some l) k x = Some (numbered (suc l.number) l.variable)
later None k x = if same_name k.name x then Some (numbered 0 k.variable) else None

abbrev pub latest : List Known → List ℕ → Option Latest
latest [] x = None
latest (k ∷ ks) x = later (latest ks x) k x

-- what a table holds for a name that it may lack
abbrev pub held : Option (Option Latest) → Option Latest
held None = None
held (Some o) = o

-- each keeps the last one of its name before it
abbrev pub KeepsHidden : List Known → List code.Known → Type 0
KeepsHidden before [] = Unit
KeepsHidden before (k ∷ ks) = (k.hides ≡ latest before k.name) × KeepsHidden (before ++ known_of k ∷ []) ks

------------------------------------------------------------
-- Frames

-- how many variables were in sight when the methods of the current object began, its fields, and whether there
-- is a current object
pub record Frame : Type 0 where
  pub start : ℕ
  pub fields : List (List ℕ)
  pub in_method : Bool

abbrev pub frame : ℕ → List (List ℕ) → Bool → Frame
frame start fields in_method = record { start = start; fields = fields; in_method = in_method }

abbrev pub field_entries : ℕ → List (List ℕ) → List Entry
field_entries k [] = []
field_entries k (x ∷ xs) = entry x (to.Field k) ∷ field_entries (k + 1) xs

-- the fields come into sight after the variables round the object
abbrev pub sight_of : Frame → List Known → Sight
sight_of f ks = record {
  entries = entries (take f.start ks) ++ (field_entries 0 f.fields ++ entries (drop f.start ks));
  in_method = f.in_method;
}

-- the first, or else the second
abbrev pub or_else : Option Binding → Option Binding → Option Binding
or_else (Some a) b = Some a
or_else None b = b

abbrev pub known_params : ℕ → ℕ → List Param → List Known
known_params body k [] = []
known_params body k (p ∷ ps) = known p.name.text (Parameter body k) ∷ known_params body (k + 1) ps

-- the second has those of the first, and maybe more behind them
pub record IsLonger (old new : List Known) : Type 0 where
  pub more : List Known
  pub is : new ≡ old ++ more
