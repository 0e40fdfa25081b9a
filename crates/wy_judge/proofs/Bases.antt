-- A base type is a subtype of itself.
use Rattle.std.proofs.Common.{ℕ, [], ◌∷◌, inl, inr, refl, subst, Bool as Truth}
use Rattle.wy_types.specs.declared.types.TypeRef.{TypeRef}
use Rattle.wy_types.specs.Program.{Program}
use Rattle.wy_types.specs.Types.{IsObject}
use Rattle.wy_types.specs.Subtyping.{IsClosed}
use Rattle.wy_rules.specs.Readings.{Reading, IsBelow}
use Rattle.wy_rules.specs.Acceptance.{reading_of}
use Rattle.wy_judge.proofs.ReadTypes.{read_object}

pub below_itself : (y : Reading) (t : y.Kind) → (y.IsObject t → ⊥) → IsBelow y t t
below_itself y t o = record {
  pairs = (t, t) ∷ [];
  first = inl refl;
  closed = λ q i. elim i [
    | inl e ↦ subst (λ (v : y.Kind × y.Kind). IsClosed y.Kind y.methods y.IsObject y.Allows ((t, t) ∷ []) v) e (inl (refl, o))
    | inr z ↦ absurd z
  ];
}

pub base_below : (p : Program) (k : ℕ) (plain : Truth) (t : TypeRef) → (IsObject t → ⊥) → IsBelow (reading_of p k plain) ((reading_of p k plain).read t) ((reading_of p k plain).read t)
base_below p k plain t o = below_itself (reading_of p k plain) ((reading_of p k plain).read t) (λ h. o (read_object p k plain t h))
