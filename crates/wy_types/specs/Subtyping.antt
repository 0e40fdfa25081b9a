-- When a type is a subtype of another, over any types, their methods and any test of effects.
use Rattle.std.specs.Prelude.{◌≡◌, ℕ, List, [], ◌∷◌, ◌⊎◌, Option, Some, None, slice_get}
use Rattle.wy_text.specs.Members.{In}
use Rattle.wy_effects.specs.Bounds.{IsWithin}
use Rattle.wy_types.specs.declared.types.TypeRef.{TypeRef}
use Rattle.wy_types.specs.declared.path.Part.{Part}
use Rattle.wy_types.specs.declared.path.Part.TheVariants.{Parameter, Result}
use Rattle.wy_types.specs.declared.path.Step.{Step}
use Rattle.wy_types.specs.Program.{Program}
use Rattle.wy_types.specs.Bounds.{bounds_of}
use Rattle.wy_types.specs.Signature.{Signature, find_method}
use Rattle.wy_types.specs.Types.{IsObject as IsObjectType, methods_of}

-- the pairs have each parameter pair, with its sides exchanged, and there are as many parameters
abbrev pub ParamsIn : {K : Type 0} → List (K × K) → List K → List K → Type 0
ParamsIn ps [] [] = Unit {0}
ParamsIn ps [] (b ∷ right) = ⊥
ParamsIn ps (a ∷ left) [] = ⊥
ParamsIn {K} ps (a ∷ left) (b ∷ right) = In {X = K × K} (b, a) ps × ParamsIn ps left right

module _ (K : Type 0) (methods : K → List (Signature K)) (IsObject : K → Type 0) (Includes : List ℕ → List ℕ → Type 0) where
  -- the left side's method stands for the right side's: its effect is in the other's, and the pairs have what is asked of its types
  pub record Covers (ps : List (K × K)) (left right : Signature K) : Type 0 where
    pub params : ParamsIn ps left.params right.params
    pub effect : Includes left.effect right.effect
    pub result : In {X = K × K} (left.result, right.result) ps

  abbrev pub HasCover : List (K × K) → Option (Signature K) → Signature K → Type 0
  HasCover ps None right = ⊥
  HasCover ps (Some left) right = Covers ps left right

  -- a pair is closed where both sides are the same base type, or both are object types and each method of the right side has one of the left that stands for it
  abbrev pub IsClosed : List (K × K) → K × K → Type 0
  IsClosed ps p =
      ((p.0 ≡ p.1) × (IsObject p.0 → ⊥)) ⊎
      (IsObject p.0 × IsObject p.1 × ((m : Signature K) → In m (methods p.1) → HasCover ps (find_method m.name (methods p.0)) m))

  -- a list of pairs that has this one, each of them closed
  pub record IsSubtype (s t : K) : Type 0 where
    pub pairs : List (K × K)
    pub first : In {X = K × K} (s, t) pairs
    pub closed : (p : K × K) → In p pairs → IsClosed pairs p

  -- where a part of two methods leads: to the parameter pair with its sides exchanged, or to the result pair
  abbrev pub LeadsBy : Signature K → Signature K → Part → K × K → Type 0
  LeadsBy left right Result q = (q.0 ≡ left.result) × (q.1 ≡ right.result)
  LeadsBy left right (Parameter i) q = (slice_get right.params i ≡ Some q.0) × (slice_get left.params i ≡ Some q.1)

  -- one step from a pair
  pub record IsStep (p : K × K) (s : Step) (q : K × K) : Type 0 where
    pub left : Signature K
    pub right : Signature K
    pub found : find_method right.name (methods p.0) ≡ Some left
    pub asked : In right (methods p.1)
    pub named : right.name ≡ s.method
    pub leads : LeadsBy left right s.part q

  -- the path leads from a pair to another
  abbrev pub Leads : K × K → List Step → K × K → Type 0
  Leads p [] q = (p.0 ≡ q.0) × (p.1 ≡ q.1)
  Leads p (s ∷ path) q = (r : K × K) × IsStep p s r × Leads r path q

-- the test of effects of plain subtyping, which looks at none
abbrev pub AnyEffect : List ℕ → List ℕ → Type 0
AnyEffect e f = Unit {0}

-- annotated and plain subtyping of a scope's types
abbrev pub IsAnnotatedSubtype : Program → ℕ → TypeRef → TypeRef → Type 0
IsAnnotatedSubtype p scope s t = IsSubtype TypeRef (methods_of p scope) IsObjectType (IsWithin (bounds_of p scope)) s t

abbrev pub IsPlainSubtype : Program → ℕ → TypeRef → TypeRef → Type 0
IsPlainSubtype p scope s t = IsSubtype TypeRef (methods_of p scope) IsObjectType AnyEffect s t
