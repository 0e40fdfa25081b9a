-- Steps that are added to a list of the code's own.
use Rattle.std.proofs.Common.{◌≡◌, List, [], ◌∷◌, ◌++◌, map, ℕ, Bool as Truth, true, false, Some, refl, sym, ap, ◌∙◌}
use Rattle.std.proofs.lemmas.List.{map-append}
use Rattle.wy_text.specs.declared.fault.Place.{Place}
use Rattle.wy_types.specs.declared.types.TypeRef.{TypeRef}
use Rattle.wy_rules.specs.Canonical.{same_type}
use Rattle.wy_rules.proofs.SameTypes.{types_are_told_apart}
use Rattle.wy_cert.specs.declared.certificate.Rule.{Rule}
use Rattle.wy_proving.specs.Steps.{Step, step, sub_step}
use Rattle.wy_certify.specs.declared.step.Step as own
use Rattle.wy_certify.specs.Step.{step_of, steps_of, sub_unless, sub_steps}

-- one more step
pub added : (xs ys : List own.Step) (x : own.Step) → ys ≡ xs ++ x ∷ [] → steps_of ys ≡ steps_of xs ++ step_of x ∷ []
unfolding steps_of
added xs ys x e = ap (map step_of) e ∙ map-append step_of xs (x ∷ [])

-- no T-Sub where the type is the one that is asked for
pub sub_same : (q : Place) (k t : TypeRef) (e : List ℕ) → k ≡ t → sub_steps q k t e ≡ []
unfolding sub_steps
sub_same q k t e is = ap (λ (b : Truth). sub_unless b q k t e) ((types_are_told_apart k t).1 is)

other : (q : Place) (k t : TypeRef) (e : List ℕ) (b : Truth) → (k ≡ t → ⊥) → same_type k t ≡ b → sub_unless b q k t e ≡ sub_step q k t e ∷ []
other q k t e true differ is = absurd (differ ((types_are_told_apart k t).0 is))
other q k t e false differ is = refl

-- T-Sub where it is another
pub sub_other : (q : Place) (k t : TypeRef) (e : List ℕ) → (k ≡ t → ⊥) → sub_steps q k t e ≡ sub_step q k t e ∷ []
unfolding sub_steps
sub_other q k t e differ = other q k t e (same_type k t) differ refl

------------------------------------------------------------
-- What comes behind a part, said in other words

-- a node
pub node_as : (rule : Rule) (q : Place) {part other whole : List (Step TypeRef)} {n m : ℕ} {t u : TypeRef} {e f : List ℕ} →
    part ≡ other → n ≡ m → t ≡ u → e ≡ f → whole ≡ other ++ step rule q m (Some u) f ∷ [] → part ++ step rule q n (Some t) e ∷ [] ≡ whole
node_as rule q {part} {other} {n = n} {m} {t} {u} {e} {f} at number typ effect is =
    ap (λ v. part ++ step rule q v (Some t) e ∷ []) number ∙ ap (λ v. part ++ step rule q m (Some v) e ∷ []) typ ∙ ap (λ v. part ++ step rule q m (Some u) v ∷ []) effect ∙
    ap (λ v. v ++ step rule q m (Some u) f ∷ []) at ∙ sym is

-- a T-Sub, or none
pub sub_as : (part : List (Step TypeRef)) (u : TypeRef) {whole : List (Step TypeRef)} {q r : Place} {k t : TypeRef} {e f : List ℕ} →
    q ≡ r → k ≡ t → e ≡ f → whole ≡ part ++ sub_steps r t u f → part ++ sub_steps q k u e ≡ whole
sub_as part u {q = q} {r} {k} {t} {e} {f} place typ effect is =
    ap (λ v. part ++ sub_steps v k u e) place ∙ ap (λ v. part ++ sub_steps r v u e) typ ∙ ap (λ v. part ++ sub_steps r t u v) effect ∙ sym is
