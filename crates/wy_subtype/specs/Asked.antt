-- The step from a pair to one that it asks for, by the methods of its two sides.
use Rattle.std.specs.Prelude.{◌≡◌, ℕ, List, Option, Some, None, slice_get}
use Rattle.wy_text.specs.Members.{In}
use Rattle.wy_types.specs.declared.types.TypeRef.{TypeRef}
use Rattle.wy_types.specs.declared.path.Part.{Part}
use Rattle.wy_types.specs.declared.path.Part.TheVariants.{Parameter, Result}
use Rattle.wy_types.specs.declared.path.Step.{Step}
use Rattle.wy_types.specs.Signature.{Signature, find_method}
use Rattle.wy_subtype.specs.Steps.{Pair}

-- the parameters of a number are the two types, with the sides exchanged
abbrev pub AreExchanged : List TypeRef → List TypeRef → ℕ → Pair → Type 0
AreExchanged left right i q = (slice_get right i ≡ Some q.0) × (slice_get left i ≡ Some q.1)

-- the part of two methods asks for the pair, of which a parameter has its sides exchanged
abbrev pub AsksBy : Signature TypeRef → Signature TypeRef → Part → Pair → Type 0
AsksBy left right Result q = (q.0 ≡ left.result) × (q.1 ≡ right.result)
AsksBy left right (Parameter i) q = AreExchanged left.params right.params i q

-- a method is found, and its part asks for the pair
abbrev pub IsAskedOf : Option (Signature TypeRef) → Signature TypeRef → Part → Pair → Type 0
IsAskedOf None right part q = ⊥
IsAskedOf (Some left) right part q = AsksBy left right part q

-- the methods ask for the pair by the step
pub record IsAskedBy (lefts rights : List (Signature TypeRef)) (q : Pair) (s : Step) : Type 0 where
  pub right : Signature TypeRef
  pub asked : In right rights
  pub named : right.name ≡ s.method
  pub by : IsAskedOf (find_method right.name lefts) right s.part q
