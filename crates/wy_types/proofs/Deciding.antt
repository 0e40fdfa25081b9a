-- Types are equal or not, and object types or not.
use Rattle.std.proofs.Common.{◌≡◌, List, [], ◌∷◌, ◌⊎◌, inl, inr, refl, ap, ◌∙◌, Bool as Truth, true, false}
use Rattle.wy_effects.proofs.Closure.{Decided}
use Rattle.wy_effects.proofs.SetLaws.{cases_equal}
use Rattle.wy_types.specs.declared.types.TypeRef.{TypeRef}
use Rattle.wy_types.specs.declared.types.TypeRef.TheVariants.{Int, Bool, Text, Unit as Nothing, Named, At, Own}
use Rattle.wy_types.specs.Types.{IsObject}

pub decide_list : {X : Type 0} → ((x y : X) → Decided (x ≡ y)) → (xs ys : List X) → Decided (xs ≡ ys)
decide_list d [] [] = inl refl
decide_list d [] (y ∷ ys) = inr (λ e. cc)
decide_list d (x ∷ xs) [] = inr (λ e. cc)
decide_list d (x ∷ xs) (y ∷ ys) =
    elim (d x y) [
      | inl e ↦ elim (decide_list d xs ys) [ inl f ↦ inl (cc) | inr n ↦ inr (λ f. n (cc)) ]
      | inr n ↦ inr (λ f. n (cc))
    ]

pub decide_type : (s t : TypeRef) → Decided (s ≡ t)
decide_type Int Int = inl refl
decide_type Bool Bool = inl refl
decide_type Text Text = inl refl
decide_type Nothing Nothing = inl refl
decide_type (Named d ms) (Named e ns) =
    elim (cases_equal d e) [
      | inl f ↦ elim (decide_list (decide_list cases_equal) ms ns) [ inl g ↦ inl (cc) | inr n ↦ inr (λ h. n (cc)) ]
      | inr n ↦ inr (λ h. n (cc))
    ]
decide_type (At d b) (At e c) =
    elim (cases_equal d e) [
      | inl f ↦ elim (decide_list cases_equal b c) [ inl g ↦ inl (cc) | inr n ↦ inr (λ h. n (cc)) ]
      | inr n ↦ inr (λ h. n (cc))
    ]
decide_type (Own l) (Own k) = elim (cases_equal l k) [ inl e ↦ inl (cc) | inr n ↦ inr (λ h. n (cc)) ]
decide_type s t = inr (λ e. cc)

-- a type is an object type or not
pub object_cases : (t : TypeRef) → IsObject t ⊎ (IsObject t → ⊥)
object_cases Int = inr (λ h. h)
object_cases Bool = inr (λ h. h)
object_cases Text = inr (λ h. h)
object_cases Nothing = inr (λ h. h)
object_cases (Named d ms) = inl tt
object_cases (At d e) = inl tt
object_cases (Own l) = inl tt

pub decide_truth : (a b : Truth) → Decided (a ≡ b)
decide_truth true true = inl refl
decide_truth false false = inl refl
decide_truth true false = inr (λ e. cc)
decide_truth false true = inr (λ e. cc)

pub decide_pair : {A B : Type 0} → ((x y : A) → Decided (x ≡ y)) → ((x y : B) → Decided (x ≡ y)) → (p q : A × B) → Decided (p ≡ q)
decide_pair {A} {B} d e p q =
    elim (d p.0 q.0) [
      | inl f ↦ elim (e p.1 q.1) [ inl g ↦ inl (ap (λ (a : A). let r : A × B = (a, p.1) in r) f ∙ ap (λ (b : B). let r : A × B = (q.0, b) in r) g) | inr n ↦ inr (λ h. n (ap (λ (v : A × B). v.1) h)) ]
      | inr n ↦ inr (λ h. n (ap (λ (v : A × B). v.0) h))
    ]
