-- The laws of annotated and of plain typing's subtyping and inclusion, and what follows for a body whose effect lacks an atom.
use Rattle.std.proofs.Common.{ℕ, ◌≤◌, List, [], ◌∷◌, Option, refl, subst, inl, inr, arith}
use Rattle.wy_effects.specs.Bounds.{IsLeastMissing, IsWithin, IsUnder, AreNone}
use Rattle.wy_text.specs.Members.{In}
use Rattle.wy_effects.proofs.SetLaws.{Within-unions}
use Rattle.wy_effects.proofs.Ordering.{same_within, onward_within, unions_within, under_onward, unbounded_under}
use Rattle.wy_types.specs.declared.types.TypeRef.{TypeRef}
use Rattle.wy_types.specs.Code.{Block}
use Rattle.wy_types.specs.Program.{Program, Scope}
use Rattle.wy_types.specs.Types.{IsObject, methods_of}
use Rattle.wy_types.specs.Bounds.{bounds_of}
use Rattle.wy_types.specs.Subtyping.{AnyEffect}
use Rattle.wy_types.proofs.Composing.{transitive}
use Rattle.wy_types.proofs.Deciding.{decide_type}
use Rattle.wy_rules.specs.Readings.{annotated_reading, plain_reading}
use Rattle.wy_rules.specs.Failing.{IsLeastAt, BodyStands}
use Rattle.wy_rules.proofs.Forms.{Lawful}

pub annotated_lawful : (p : Program) (k : ℕ) → Lawful (annotated_reading p k)
annotated_lawful p k = record {
  same = λ e a i. i;
  within = λ e f g v w a i. w a (v a i);
  unions = λ e f g h i j. Within-unions e f g h i j;
  allows = same_within (bounds_of p k);
  onward = onward_within (bounds_of p k);
  unite = unions_within (bounds_of p k);
  below = transitive TypeRef decide_type (methods_of p k) IsObject (IsWithin (bounds_of p k)) (onward_within (bounds_of p k));
}

pub plain_lawful : (p : Program) (k : ℕ) → Lawful (plain_reading p k)
plain_lawful p k = record {
  same = λ e. tt;
  within = λ e f g v w. tt;
  unions = λ e f g h i j. tt;
  allows = λ e f h. tt;
  onward = λ e f g v w. tt;
  unite = λ e f g h i j. tt;
  below = transitive TypeRef decide_type (methods_of p k) IsObject AnyEffect (λ e f g v w. tt);
}

-- a body whose least effect has an atom that the declared one lacks has no derivation
pub body_refused : (p : Program) (k : ℕ) (s : Scope) (locals : List TypeRef) (owner : Option ℕ) (b : Block) (t : TypeRef) (e f : List ℕ) (a : ℕ) →
    IsLeastAt (annotated_reading p k) s locals owner b t f → IsLeastMissing (IsUnder (bounds_of p k)) a f e → BodyStands (annotated_reading p k) s locals owner b t e → ⊥
body_refused p k s locals owner b t e f a l m h = m.1 (under_onward (bounds_of p k) h.0 e a (l.least h.0 h.1 a m.0) h.2)

-- the one atom of an effect, where the declared one lacks it and no atom of the scope has a bound
pub one_missing : (p : Program) (k : ℕ) → AreNone (bounds_of p k) → (a : ℕ) (e : List ℕ) → (In a e → ⊥) → IsLeastMissing (IsUnder (bounds_of p k)) a (a ∷ []) e
one_missing p k none a e n = (
  inl refl,
  λ h. n (unbounded_under (bounds_of p k) none e a h),
  λ b i m. elim i [
    | inl same ↦ subst (λ v. a ≤ v) same (omega arith)
    | inr z ↦ absurd z
  ],
)
