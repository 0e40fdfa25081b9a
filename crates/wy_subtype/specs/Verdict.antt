-- What the test of subtyping answers: yes, or a path to a pair that fails by itself, with the cause.
use Rattle.std.specs.Prelude.{◌≡◌, ℕ, List, Bool, true, false, Option, Some, None, length}
use Rattle.wy_text.specs.Members.{In}
use Rattle.wy_effects.specs.Bounds.{IsLeastMissing, IsUnder}
use Rattle.wy_types.specs.declared.types.TypeRef.{TypeRef}
use Rattle.wy_types.specs.declared.path.Step.{Step}
use Rattle.wy_types.specs.Program.{Program}
use Rattle.wy_types.specs.Signature.{Signature, find_method}
use Rattle.wy_types.specs.Types.{IsObject, methods_of}
use Rattle.wy_types.specs.Subtyping.{IsClosed, Leads, IsAnnotatedSubtype, IsPlainSubtype}
use Rattle.wy_types.specs.Bounds.{bounds_of}
use Rattle.wy_subtype.specs.declared.verdict.Mode.{Mode}
use Rattle.wy_subtype.specs.declared.verdict.Mode.TheVariants.{Annotated, Plain}
use Rattle.wy_subtype.specs.declared.verdict.Cause.{Cause}
use Rattle.wy_subtype.specs.declared.verdict.Cause.TheVariants.{MissingMethod, Arity, Base, Effect}
use Rattle.wy_subtype.specs.declared.verdict.Verdict.{Verdict}
use Rattle.wy_subtype.specs.declared.verdict.Verdict.TheVariants.{Yes, No}
use Rattle.wy_subtype.specs.Steps.{Allows, Pair}

-- subtyping in a mode
abbrev pub IsSubtypeIn : Program → ℕ → Mode → TypeRef → TypeRef → Type 0
IsSubtypeIn p scope Annotated s t = IsAnnotatedSubtype p scope s t
IsSubtypeIn p scope Plain s t = IsPlainSubtype p scope s t

-- the list closes the pair
abbrev pub Closes : Program → ℕ → Mode → List Pair → Pair → Type 0
Closes p scope mode pairs q = IsClosed TypeRef (methods_of p scope) IsObject (Allows p scope mode) pairs q

-- the path leads from a pair to another, with the sides exchanged at each parameter
abbrev pub LeadsTo : Program → ℕ → Mode → Pair → List Step → Pair → Type 0
LeadsTo p scope mode q path r = Leads TypeRef (methods_of p scope) IsObject (Allows p scope mode) q path r

abbrev pub AreSameBase : Pair → Type 0
AreSameBase q = (q.0 ≡ q.1) × (IsObject q.0 → ⊥)

abbrev pub AreObjects : Pair → Type 0
AreObjects q = IsObject q.0 × IsObject q.1

-- the right side has a method of the name that the left side does not stand up to
abbrev pub HasFault : Program → ℕ → Pair → List ℕ → (Option (Signature TypeRef) → Signature TypeRef → Type 0) → Type 0
HasFault p scope q name Fault =
    AreObjects q × ((n : Signature TypeRef) × In n (methods_of p scope q.1) × (n.name ≡ name) × Fault (find_method n.name (methods_of p scope q.0)) n)

-- there is no method of the name
abbrev pub IsMissing : Option (Signature TypeRef) → Signature TypeRef → Type 0
IsMissing found n = found ≡ None

-- the method of the name has another number of parameters
abbrev pub HasOtherArity : Option (Signature TypeRef) → Signature TypeRef → Type 0
HasOtherArity found n = (m : Signature TypeRef) × (found ≡ Some m) × (length m.params ≡ length n.params → ⊥)

-- the atom is the least one in the effect of the method of the name that is not within the other's
abbrev pub HasAtom : Program → ℕ → ℕ → Option (Signature TypeRef) → Signature TypeRef → Type 0
HasAtom p scope a found n = (m : Signature TypeRef) × (found ≡ Some m) × IsLeastMissing (IsUnder (bounds_of p scope)) a m.effect n.effect

-- the pair's own test fails by the cause; by an effect in annotated subtyping alone
abbrev pub FailsBy : Program → ℕ → Mode → Pair → Cause → Type 0
FailsBy p scope mode q Base = (AreSameBase q → ⊥) × (AreObjects q → ⊥)
FailsBy p scope mode q (MissingMethod name) = HasFault p scope q name IsMissing
FailsBy p scope mode q (Arity name) = HasFault p scope q name HasOtherArity
FailsBy p scope mode q (Effect name atom) = (mode ≡ Annotated) × HasFault p scope q name (HasAtom p scope atom.0)

-- the path leads to a pair whose own test fails by the cause
abbrev pub FailsAt : Program → ℕ → Mode → Pair → List Step → Cause → Type 0
FailsAt p scope mode q path cause = (r : Pair) × LeadsTo p scope mode q path r × FailsBy p scope mode r cause

-- what a verdict says of a pair: subtyping, or a path that refutes it
abbrev pub IsVerdict : Program → ℕ → Mode → Pair → Verdict → Type 0
IsVerdict p scope mode q Yes = IsSubtypeIn p scope mode q.0 q.1
IsVerdict p scope mode q (No path cause) = FailsAt p scope mode q path cause

abbrev pub IsYes : Verdict → Type 0
IsYes Yes = Unit {0}
IsYes (No path cause) = ⊥

abbrev pub is_yes : Verdict → Bool
is_yes Yes = true
is_yes (No path cause) = false
