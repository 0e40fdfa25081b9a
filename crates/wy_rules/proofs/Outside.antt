-- Sets that are to respect bounds: the first that does not, and its least atom that is outside, are one.
use Rattle.std.proofs.Common.{◌≡◌, ℕ, ◌<◌, List, [], inl, inr, sym, ◌∙◌, ap, subst, Option, Some, None, le_antisymm}
use Rattle.std.specs.Prelude.{slice_get, slice_index_or}
use Rattle.std.proofs.lemmas.Bool.{cases_lt}
use Rattle.wy_effects.specs.EffSet.{replace}
use Rattle.wy_effects.specs.Bounds.{Bounds, IsUnder, Respects, IsLeastMissing}
use Rattle.wy_types.specs.Program.{Program, Scope}
use Rattle.wy_types.specs.Bounds.{bounds_of, declared_bounds}
use Rattle.wy_rules.specs.Failing.{FirstOutside, LacksOutside, MembersFail, SealFails}

module _ (bounds there : Bounds) (by : List (List ℕ)) where
  -- where one is outside the bounds are not respected
  pub outside_disrespects : (a : ℕ) → FirstOutside bounds there by a → Respects bounds there by → ⊥
  outside_disrespects a f r = f.lacks.1 (r f.member f.bound f.bounded a f.lacks.0)

  not_before : (a b : ℕ) (f : FirstOutside bounds there by a) (g : FirstOutside bounds there by b) → f.member < g.member → ⊥
  not_before a b f g less = f.lacks.1 (g.first f.member f.bound less f.bounded a f.lacks.0)

  same_member : (a b : ℕ) (f : FirstOutside bounds there by a) (g : FirstOutside bounds there by b) → f.member ≡ g.member
  same_member a b f g = elim (cases_lt f.member g.member) [
    | inl less ↦ absurd (not_before a b f g less)
    | inr least ↦ elim (cases_lt g.member f.member) [ inl more ↦ absurd (not_before b a g f more) | inr most ↦ le_antisymm most least ]
  ]

  one_atom : (a b m n : ℕ) (c d : List ℕ) → slice_get bounds m ≡ Some (Some c) → slice_get bounds n ≡ Some (Some d) → m ≡ n →
      IsLeastMissing (IsUnder there) a (slice_index_or by m []) (replace by c) → IsLeastMissing (IsUnder there) b (slice_index_or by n []) (replace by d) → a ≡ b
  one_atom a b m n c d e f same h k =
      let bound : c ≡ d = (let g : slice_get bounds m ≡ Some (Some d) = subst (λ v. slice_get bounds v ≡ Some (Some d)) (sym same) f in cc) in
      let set = subst (λ v. IsLeastMissing (IsUnder there) b (slice_index_or by v []) (replace by d)) (sym same) k in
      let both = subst (λ v. IsLeastMissing (IsUnder there) b (slice_index_or by m []) (replace by v)) (sym bound) set in
      le_antisymm (h.2 b both.0 both.1) (both.2 a h.0 h.1)

  pub one_outside : (a b : ℕ) → FirstOutside bounds there by a → FirstOutside bounds there by b → a ≡ b
  one_outside a b f g = one_atom a b f.member g.member f.bound g.bound f.bounded g.bounded (same_member a b f g) f.lacks g.lacks

  pub outside_same : (a b : Option ℕ) → LacksOutside bounds there by a → LacksOutside bounds there by b → a ≡ b
  outside_same None b f g = absurd f
  outside_same (Some a) None f g = absurd g
  outside_same (Some a) (Some b) f g = ap (λ v. Some v) (one_outside a b f g)

-- what fails of a seal is one
module _ (p : Program) (k : ℕ) (s : Scope) where
  members_same : (o : Option ℕ) (a b : Option ℕ) → MembersFail p k s o a → MembersFail p k s o b → a ≡ b
  members_same None a b f g = absurd f
  members_same (Some d) a b f g = outside_same (declared_bounds p d) (bounds_of p k) s.definitions a b f g

  pub seal_same : (i j : ℕ) (a b : Option ℕ) → SealFails p k s i a → SealFails p k s j b → (i ≡ j) × (a ≡ b)
  seal_same i j a b (inl f) (inl g) = (f.1 ∙ sym g.1, f.2 ∙ sym g.2)
  seal_same i j a b (inl f) (inr g) = absurd (f.0 g.0)
  seal_same i j a b (inr f) (inl g) = absurd (g.0 f.0)
  seal_same i j a b (inr f) (inr g) = (f.2 ∙ sym g.2, members_same s.ascribed a b f.3 g.3)
