-- What trying a premise for one argument after the other comes to, and the first premises of a line.
use Rattle.std.specs.Prelude.{◌≡◌, ℕ, List, Option, Some, None, length, slice_get}
use Rattle.std.specs.Option.{option_map}
use Rattle.wy_text.specs.Members.{In}
use Rattle.wy_effects.specs.declared.atom.Atom.{Atom}
use Rattle.wy_types.specs.declared.types.TypeRef.{TypeRef}
use Rattle.wy_types.specs.declared.resolved.OwnName.{OwnName}
use Rattle.wy_types.specs.declared.resolved.ScopeKind.{ScopeKind}
use Rattle.wy_types.specs.Program.{Program}
use Rattle.wy_types.specs.Fitting.{FitsType}
use Rattle.wy_types.specs.Ground.{member_set, type_of}
use Rattle.wy_rules.specs.Acceptance.{Handed, opened, parameters_of, IsOfKind}
use Rattle.wy_rules.specs.Failing.{FirstFalse, FirstOf}

------------------------------------------------------------
-- Arguments

-- a parameter with its argument
abbrev pub handed_pair : OwnName → ℕ → Handed
handed_pair n a = record { parameter = n; argument = a }

-- something holds of each
abbrev pub OfEach : {X : Type 0} → (X → Type 0) → List X → Type 0
OfEach {X} Holds xs = (x : X) → In x xs → Holds x

-- each parameter's type is one that can be written
abbrev pub AreWritten : Program → List OwnName → Type 0
AreWritten p ns = (n : OwnName) → In n ns → FitsType p 512 0 n.typ

-- a type has the members of these names
abbrev pub HasAll : Program → TypeRef → List (List ℕ) → Type 0
HasAll p t members = (member : List ℕ) → In member members → (set : List ℕ) × (member_set p t member ≡ Some set)

-- the argument's type has those that the parameter opens
abbrev pub HasOpened : Program → List OwnName → Handed → Type 0
HasOpened p outer h = HasAll p (type_of (slice_get outer h.argument)) (opened p h.parameter h.parameter.origin)

-- something holds, or an atom is missing
abbrev pub OrLacks : Type 0 → (Option ℕ → Type 0) → Option ℕ → Type 0
OrLacks holds lacks None = holds
OrLacks holds lacks (Some a) = (holds → ⊥) × lacks (Some a)

-- .. of several things: of each, or the first of which it does not hold has the atom missing
abbrev pub FirstLack : {X : Type 0} → (X → Type 0) → (X → Option ℕ → Type 0) → List X → Option ℕ → Type 0
FirstLack Holds Lacks xs None = OfEach Holds xs
FirstLack Holds Lacks xs (Some a) = FirstOf Holds Lacks xs (Some a)

abbrev pub missing_atom : Option Atom → Option ℕ
missing_atom o = option_map (λ (a : Atom). a.0) o

------------------------------------------------------------
-- Premises

-- a rule holds, or fails by its first false premise
abbrev pub OrFails : Type 0 → (ℕ → Type 0) → Option ℕ → Type 0
OrFails holds fails None = holds
OrFails holds fails (Some n) = (holds → ⊥) × fails n

-- the module is of the kind, and has as many parameters as there are arguments
module _ (p : Program) (kind : ScopeKind) (m : ℕ) (arguments : List ℕ) where
  abbrev pub Agrees : Type 0
  Agrees = IsOfKind p kind m × (length arguments ≡ length (parameters_of p m))

  abbrev pub Disagrees : ℕ → Type 0
  Disagrees n = FirstFalse 1 (IsOfKind p kind m) (FirstFalse 2 (length arguments ≡ length (parameters_of p m)) ⊥ n) n
