-- Sets respect bounds, or there is a first that does not, with its least atom that is outside.
use Rattle.std.proofs.Common.{◌≡◌, ℕ, zero, suc, ◌+◌, List, [], ◌⊎◌, inl, inr, length, refl, sym, subst, Option, Some, None, arith}
use Rattle.std.specs.Prelude.{slice_get, slice_index_or}
use Rattle.wy_effects.specs.EffSet.{replace}
use Rattle.wy_effects.specs.Bounds.{Bounds, IsWithin, Respects, GoDown}
use Rattle.wy_effects.proofs.SetLaws.{cases_equal}
use Rattle.wy_rules.specs.Failing.{FirstOutside}
use Rattle.wy_premises.specs.Outside.{RespectsOne, OutsideOne, RespectsBefore}
use Rattle.wy_judge.proofs.LacksDecided.{within_or_missing}
use Rattle.wy_premises.proofs.RespectedBounds.{none_before, one_more, respects_all, first_is_outside}

module _ (bounds there : Bounds) (down : GoDown there) (by : List (List ℕ)) where
  abbrev AnyOutside : Type 0
  AnyOutside = (a : ℕ) × FirstOutside bounds there by a

  one_decided : (n : ℕ) (o : Option (List ℕ)) → RespectsOne there by n o ⊎ ((a : ℕ) × OutsideOne there by n o a)
  one_decided n None = inl (λ b e. absurd (cc))
  one_decided n (Some s) = elim (within_or_missing there down (slice_index_or by n []) (replace by s)) [
    | inl within ↦ inl (λ b e. (let same : s ≡ b = cc in subst (λ v. IsWithin there (slice_index_or by n []) (replace by v)) same within))
    | inr m ↦ inr (m.0, (s, refl, m.1))
  ]

  next : (n : ℕ) (o : Option (Option (List ℕ))) → slice_get bounds n ≡ o → RespectsBefore bounds there by n → RespectsBefore bounds there by (n + 1) ⊎ AnyOutside
  next n None e before = inl (λ j c less at. elim (cases_equal j n) [
    | inl same ↦ absurd (let none : slice_get bounds j ≡ None = subst (λ v. slice_get bounds v ≡ None) (sym same) e in cc)
    | inr other ↦ before j c (omega arith) at
  ])
  next n (Some o) e before = elim (one_decided n o) [
    | inl here ↦ inl (one_more bounds there by n o e before here)
    | inr one ↦ inr (one.0, first_is_outside bounds there by n o one.0 e before one.1)
  ]

  so_far : (n : ℕ) → RespectsBefore bounds there by n ⊎ AnyOutside
  so_far zero = inl (none_before bounds there by)
  so_far (suc n) = elim (so_far n) [
    | inr one ↦ inr one
    | inl before ↦ (let same : n + 1 ≡ suc n = omega arith in subst (λ v. RespectsBefore bounds there by v ⊎ AnyOutside) same (next n (slice_get bounds n) refl before))
  ]

  pub outside_decided : Respects bounds there by ⊎ AnyOutside
  outside_decided = elim (so_far (length bounds)) [
    | inl all ↦ inl (respects_all bounds there by (length bounds) (omega arith) all)
    | inr one ↦ inr one
  ]
