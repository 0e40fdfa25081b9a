-- One pair's own test: the cause by which it fails, or the pairs that it asks for.
use Rattle.std.specs.Prelude.{◌≡◌, ℕ, ◌+◌, List, [], ◌∷◌, ◌++◌, Option, Some, None, map, length}
use Rattle.wy_text.specs.Members.{In, Within}
use Rattle.wy_effects.specs.Bounds.{IsUnder, IsLeastMissing}
use Rattle.wy_types.specs.declared.types.TypeRef.{TypeRef}
use Rattle.wy_types.specs.declared.path.Part.TheVariants.{Parameter, Result}
use Rattle.wy_types.specs.Program.{Program}
use Rattle.wy_types.specs.Signature.{Signature, find_method}
use Rattle.wy_types.specs.Bounds.{bounds_of}
use Rattle.wy_subtype.specs.declared.verdict.Mode.{Mode}
use Rattle.wy_subtype.specs.declared.verdict.Mode.TheVariants.{Annotated}
use Rattle.wy_subtype.specs.declared.verdict.Cause.{Cause}
use Rattle.wy_subtype.specs.declared.verdict.Cause.TheVariants.{MissingMethod, Arity, Base, Effect}
use Rattle.wy_subtype.specs.declared.unfolding.UnfoldedPair.{UnfoldedPair}
use Rattle.wy_subtype.specs.declared.unfolding.Unfolding.{Unfolding}
use Rattle.wy_subtype.specs.declared.unfolding.Unfolding.TheVariants.{Fails, Closed}
use Rattle.wy_subtype.specs.Verdict.{Closes, FailsBy}
use Rattle.wy_subtype.specs.Steps.{Pair, Allows, StepsTo}

abbrev pub sides : UnfoldedPair → Pair
sides c = (c.left, c.right)

-- each asked pair is a step away, and a list that has all of them closes the pair
pub record Asks (p : Program) (scope : ℕ) (mode : Mode) (q : Pair) (asked : List UnfoldedPair) : Type 0 where
  pub steps : (c : UnfoldedPair) → In c asked → StepsTo p scope mode q c.step (sides c)
  pub closes : (pairs : List Pair) → Within (map sides asked) pairs → Closes p scope mode pairs q

-- what the pair's own test says
abbrev pub IsUnfolded : Program → ℕ → Mode → Pair → Unfolding → Type 0
IsUnfolded p scope mode q (Fails cause) = FailsBy p scope mode q cause
IsUnfolded p scope mode q (Closed asked) = Asks p scope mode q asked

------------------------------------------------------------
-- By the methods of both sides

-- the pairs of two methods' parameters from number k on, with their sides exchanged
abbrev pub param_pairs : List ℕ → ℕ → List TypeRef → List TypeRef → List UnfoldedPair
param_pairs name k [] bs = []
param_pairs name k (a ∷ as') [] = []
param_pairs name k (a ∷ as') (b ∷ bs) =
    record { step = record { method = name; part = Parameter k }; left = b; right = a } ∷ param_pairs name (k + 1) as' bs

-- the pairs that two methods ask for
abbrev pub method_pairs : Signature TypeRef → Signature TypeRef → List UnfoldedPair
method_pairs m n =
    param_pairs n.name 0 m.params n.params ++
    record { step = record { method = n.name; part = Result }; left = m.result; right = n.result } ∷ []

abbrev pub found_pairs : Option (Signature TypeRef) → Signature TypeRef → List UnfoldedPair
found_pairs None n = []
found_pairs (Some m) n = method_pairs m n

-- the pairs that all methods of the right side ask for
abbrev pub all_pairs : List (Signature TypeRef) → List (Signature TypeRef) → List UnfoldedPair
all_pairs lefts [] = []
all_pairs lefts (n ∷ ns) = found_pairs (find_method n.name lefts) n ++ all_pairs lefts ns

-- a method of the name is found and has the number of parameters and an effect as wanted
abbrev pub IsMet : Program → ℕ → Mode → Option (Signature TypeRef) → Signature TypeRef → Type 0
IsMet p scope mode None n = ⊥
IsMet p scope mode (Some m) n = (length m.params ≡ length n.params) × Allows p scope mode m.effect n.effect

-- the least atom of an effect that is not allowed by another, in annotated subtyping alone
abbrev pub LacksAtom : Program → ℕ → Mode → ℕ → List ℕ → List ℕ → Type 0
LacksAtom p scope mode a e f = (mode ≡ Annotated) × IsLeastMissing (IsUnder (bounds_of p scope)) a e f

-- what is at fault with a method that has the name
abbrev pub CauseOf : Program → ℕ → Mode → Signature TypeRef → Signature TypeRef → Cause → Type 0
CauseOf p scope mode m n Base = ⊥
CauseOf p scope mode m n (MissingMethod name) = ⊥
CauseOf p scope mode m n (Arity name) = (n.name ≡ name) × (length m.params ≡ length n.params → ⊥)
CauseOf p scope mode m n (Effect name a) = (n.name ≡ name) × LacksAtom p scope mode a.0 m.effect n.effect

-- what is at fault with what is found by the name
abbrev pub FaultOf : Program → ℕ → Mode → Option (Signature TypeRef) → Signature TypeRef → Cause → Type 0
FaultOf p scope mode None n Base = ⊥
FaultOf p scope mode None n (MissingMethod name) = n.name ≡ name
FaultOf p scope mode None n (Arity name) = ⊥
FaultOf p scope mode None n (Effect name a) = ⊥
FaultOf p scope mode (Some m) n cause = CauseOf p scope mode m n cause

-- the test of all methods of the right side
abbrev pub AreMet : Program → ℕ → Mode → List (Signature TypeRef) → List (Signature TypeRef) → Unfolding → Type 0
AreMet p scope mode lefts rights (Fails cause) = (n : Signature TypeRef) × In n rights × FaultOf p scope mode (find_method n.name lefts) n cause
AreMet p scope mode lefts rights (Closed asked) =
    (asked ≡ all_pairs lefts rights) × ((n : Signature TypeRef) → In n rights → IsMet p scope mode (find_method n.name lefts) n)
