-- The types of `val`s that are known so far, by their numbers, and which parts of a scope can be judged over them.
use Rattle.std.specs.Prelude.{◌≡◌, ℕ, suc, ◌<◌, ◌↔◌, List, ◌⊎◌, Option, Some, None, length, slice_get}
use Rattle.wy_text.specs.Members.{In, Apart}
use Rattle.wy_types.specs.declared.types.TypeRef.{TypeRef}
use Rattle.wy_types.specs.declared.code.Variable.{Variable}
use Rattle.wy_types.specs.declared.code.Variable.TheVariants.{Parameter, Local}
use Rattle.wy_types.specs.Code.{Expr, Value, Values, Block}
use Rattle.wy_types.specs.Program.{Program, Scope}
use Rattle.wy_types.specs.Fitting.{IsTypeOf}
use Rattle.wy_types.specs.Core.{IsCore, ExprFits, ValueFits, ValuesFit, BlockFits, HasParameter}
use Rattle.wy_types.specs.Vals.{expr_vals, value_vals, values_vals, block_vals}
use Rattle.wy_rules.specs.Readings.{Reading}

abbrev pub Table : Type 0
Table = List (Option TypeRef)

abbrev pub IsKnown : Table → ℕ → Type 0
IsKnown table n = (t : TypeRef) × (slice_get table n ≡ Some (Some t))

-- a table goes no further than the types that are known
abbrev pub EndsKnown : Table → Type 0
EndsKnown table = (n : ℕ) → length table ≡ suc n → IsKnown table n

-- the same types are known
abbrev pub IsKept : Table → Table → Type 0
IsKept old new = (n : ℕ) (t : TypeRef) → slice_get new n ≡ Some (Some t) ↔ (slice_get old n ≡ Some (Some t))

-- the type of one `val` is put in, and the others stay as they were
pub record IsPut (old new : Table) (n : ℕ) (t : TypeRef) : Type 0 where
  pub here : slice_get new n ≡ Some (Some t)
  pub others : (m : ℕ) (u : TypeRef) → (m ≡ n → ⊥) → slice_get new m ≡ Some (Some u) ↔ (slice_get old m ≡ Some (Some u))
  pub ends : EndsKnown old → EndsKnown new

-- types of all `val`s that go on from those that are known
abbrev pub Agrees : (y : Reading) → List y.Kind → Table → Type 0
Agrees y locals table = (n : ℕ) (t : TypeRef) → slice_get table n ≡ Some (Some t) → slice_get locals n ≡ Some (y.read t)

-- the scope of a number of a core
pub record IsScopeOf (p : Program) (k : ℕ) (s : Scope) : Type 0 where
  pub core : IsCore p
  pub there : slice_get p.scopes k ≡ Some s

-- the current object, where there is one, is that of a literal of the scope
abbrev pub HasOwner : Scope → Option ℕ → Type 0
HasOwner s None = Unit {0}
HasOwner s (Some l) = l < length s.literals

module _ (p : Program) (k : ℕ) (s : Scope) where
  -- the types that are known are in range
  abbrev pub AllInRange : Table → Type 0
  AllInRange table = (n : ℕ) (t : TypeRef) → slice_get table n ≡ Some (Some t) → IsTypeOf p k t

  -- what was known stays so, and of the others these alone become known: all of them where the part passes
  pub record Moves (old new : Table) (vals : List ℕ) (Passes : Type 0) : Type 0 where
    pub keeps : (n : ℕ) (t : TypeRef) → slice_get old n ≡ Some (Some t) → slice_get new n ≡ Some (Some t)
    pub only : (n : ℕ) → IsKnown new n → IsKnown old n ⊎ In n vals
    pub range : AllInRange new
    pub settled : Passes → (n : ℕ) → In n vals → IsKnown new n
    pub ends : EndsKnown old → EndsKnown new

  -- what is in sight is known, and the `val`s of the part, which differ, are not
  pub record IsReady (table : Table) (seen : List Variable) (vals : List ℕ) : Type 0 where
    pub range : AllInRange table
    pub locals : (n : ℕ) → In (Local n) seen → IsKnown table n
    pub parameters : (j i : ℕ) → In (Parameter j i) seen → HasParameter s j i
    pub fresh : (n : ℕ) → In n vals → IsKnown table n → ⊥
    pub apart : Apart vals

  -- parts that can be judged
  module _ (owner : Option ℕ) (table : Table) where
    abbrev pub ExprReady : Expr → Type 0
    ExprReady x = (seen : List Variable) × ExprFits p s owner seen x × IsReady table seen (expr_vals x)

    abbrev pub ValueReady : Value → Type 0
    ValueReady x = (seen : List Variable) × ValueFits p s owner seen x × IsReady table seen (value_vals x)

    abbrev pub ValuesReady : Values → Type 0
    ValuesReady xs = (seen : List Variable) × ValuesFit p s owner seen xs × IsReady table seen (values_vals xs)

    abbrev pub BlockReady : Block → Type 0
    BlockReady b = (seen : List Variable) × BlockFits p s owner seen b × IsReady table seen (block_vals b)
