-- What trying the premises of I-Import for an argument comes to, and a rule's premises in their order.
use Rattle.std.specs.Prelude.{ℕ, ◌≤◌, List, Option, Some, None, true, false, slice_get}
use Rattle.wy_effects.specs.Bounds.{IsUnder, IsLeastOutside}
use Rattle.wy_types.specs.declared.types.TypeRef.{TypeRef}
use Rattle.wy_types.specs.declared.resolved.OwnName.{OwnName}
use Rattle.wy_types.specs.Program.{Program}
use Rattle.wy_types.specs.Bounds.{bounds_of}
use Rattle.wy_types.specs.Types.{methods_of}
use Rattle.wy_types.specs.Paths.{IsEffect, EffectsWithin, IsSafe}
use Rattle.wy_types.specs.Ground.{type_of}
use Rattle.wy_rules.specs.Acceptance.{InstanceHolds, ImportHolds}
use Rattle.wy_rules.specs.Failing.{InstanceFails, BoundFails}
use Rattle.wy_bounds.specs.Safety.{IsMissing}
use Rattle.wy_premises.specs.Tried.{missing_atom}
use Rattle.wy_link.specs.declared.misfit.Misfit.{Misfit}

------------------------------------------------------------
-- Arguments

-- in the scope of a number, for a bound: the effects of a type are within it, and else the least that is not
module _ (p : Program) (k : ℕ) (bound : List ℕ) where
  abbrev pub BoundedAt : TypeRef → Type 0
  BoundedAt t = EffectsWithin TypeRef (methods_of p k) (IsUnder (bounds_of p k)) t true bound

  abbrev pub ExceedsAt : TypeRef → Option ℕ → Type 0
  ExceedsAt t None = ⊥
  ExceedsAt t (Some a) = IsLeastOutside (IsUnder (bounds_of p k)) (IsEffect TypeRef (methods_of p k) t true) a bound

  -- the bound is higher-order safe for it, and else the least atom that a method lacks
  abbrev pub SafeAt : TypeRef → Type 0
  SafeAt t = IsSafe TypeRef (methods_of p k) (IsUnder (bounds_of p k)) t false bound

  abbrev pub UnsafeAt : TypeRef → Option ℕ → Type 0
  UnsafeAt t None = ⊥
  UnsafeAt t (Some a) = IsMissing p k t false bound a × ((b : ℕ) → IsMissing p k t false bound b → a ≤ b)

-- .. of the type of an argument, by its number among the scope's own names
module _ (p : Program) (k : ℕ) (outer : List OwnName) (bound : List ℕ) where
  abbrev pub Bounded : ℕ → Type 0
  Bounded a = BoundedAt p k bound (type_of (slice_get outer a))

  abbrev pub Exceeds : ℕ → Option ℕ → Type 0
  Exceeds a o = ExceedsAt p k bound (type_of (slice_get outer a)) o

  abbrev pub Safe : ℕ → Type 0
  Safe a = SafeAt p k bound (type_of (slice_get outer a))

  abbrev pub Unsafe : ℕ → Option ℕ → Type 0
  Unsafe a o = UnsafeAt p k bound (type_of (slice_get outer a)) o

------------------------------------------------------------
-- Premises

-- what M-Inst and I-Import come to in the scope of a number, whose own names these are
module _ (p : Program) (k : ℕ) (outer : List OwnName) where
  abbrev pub InstanceComesTo : ℕ → List ℕ → Option Misfit → Type 0
  InstanceComesTo m arguments None = InstanceHolds p k outer m arguments
  InstanceComesTo m arguments (Some x) = (InstanceHolds p k outer m arguments → ⊥) × InstanceFails p k outer m arguments x.premise (missing_atom x.missing)

  abbrev pub BoundComesTo : ℕ → List ℕ → List ℕ → Option Misfit → Type 0
  BoundComesTo m arguments bound None = ImportHolds p k outer m arguments bound
  BoundComesTo m arguments bound (Some x) = (ImportHolds p k outer m arguments bound → ⊥) × BoundFails p k outer m arguments bound x.premise (missing_atom x.missing)
