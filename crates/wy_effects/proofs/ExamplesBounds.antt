-- Worked examples of bounds. Atom 0 has none, 1 has {0}, 2 has {1}, 3 has the empty one, 4 has none.
use Rattle.std.proofs.Common.{◌≡◌, ℕ, zero, suc, List, [], ◌∷◌, inl, inr, refl, subst, Some, None, arith}
use Rattle.wy_text.specs.Members.{In}
use Rattle.wy_effects.specs.EffSet.{replace}
use Rattle.wy_effects.specs.Bounds.{Bounds, IsUnder, by_member, by_bound, IsWithin, Respects, IsLeastMissing}
use Rattle.wy_effects.proofs.Ordering.{one_within}

chain : Bounds
chain = None ∷ Some (0 ∷ []) ∷ Some (1 ∷ []) ∷ Some [] ∷ None ∷ []

-- a bound is followed through two atoms: 2 has {1}, which has {0}
under_1 : IsUnder chain (0 ∷ []) 1
unfolding chain
under_1 = by_bound 1 (0 ∷ []) refl ((one_within chain (0 ∷ []) 0).1 (by_member 0 (inl refl)))

through_two : IsWithin chain (2 ∷ []) (0 ∷ [])
unfolding chain
through_two = (one_within chain (0 ∷ []) 2).1 (by_bound 2 (1 ∷ []) refl ((one_within chain (0 ∷ []) 1).1 under_1))

-- an atom with the empty bound is within every set
within_nothing : IsWithin chain (3 ∷ []) []
unfolding chain
within_nothing = (one_within chain [] 3).1 (by_bound 3 [] refl (λ c i. absurd i))

-- an atom with no bound is within a set only as a member of it
no_bound_of_4 : (f : List ℕ) (a : ℕ) → a ≡ 4 → IsUnder chain f a → In 4 f
unfolding chain
no_bound_of_4 f _ e (by_member a i) = subst (λ v. In v f) e i
no_bound_of_4 f _ e (by_bound a b g h) = absurd (cc)

not_within : IsWithin chain (4 ∷ []) (0 ∷ []) → ⊥
not_within h = elim (no_bound_of_4 (0 ∷ []) 4 refl ((one_within chain (0 ∷ []) 4).0 h)) [ inl e ↦ omega arith | inr n ↦ n ]

-- of {3, 4} the least atom missing in {0} is 4: 3 is within it
missing : IsLeastMissing (IsUnder chain) 4 (3 ∷ 4 ∷ []) (0 ∷ [])
unfolding chain
missing = (
  inr (inl refl),
  λ h. not_within ((one_within chain (0 ∷ []) 4).1 h),
  λ b i n. elim i [
    | inl e ↦ absurd (n (subst (λ v. IsUnder chain (0 ∷ []) v) e (by_bound 3 [] refl (λ c j. absurd j))))
    | inr j ↦ elim j [ inl e ↦ omega arith | inr k ↦ absurd k ]
  ],
)

-- sets for the five atoms, in a scope with no bounds: those for 1 and 2 are in the one for 0, and that for 3 is empty
sets : List (List ℕ)
sets = (7 ∷ 8 ∷ []) ∷ (7 ∷ []) ∷ (7 ∷ []) ∷ [] ∷ (9 ∷ []) ∷ []

respected : Respects chain [] sets
unfolding chain sets
respected zero b e = absurd (cc)
respected (suc zero) b e = λ a i. by_member a (subst (λ v. In a (replace sets v)) of_1 (elim i [ inl f ↦ inl f | inr n ↦ absurd n ]))
  where
    of_1 : 0 ∷ [] ≡ b
    of_1 = cc
respected (suc (suc zero)) b e = λ a i. by_member a (subst (λ v. In a (replace sets v)) of_2 (elim i [ inl f ↦ inl f | inr n ↦ absurd n ]))
  where
    of_2 : 1 ∷ [] ≡ b
    of_2 = cc
respected (suc (suc (suc zero))) b e = λ a i. absurd i
respected (suc (suc (suc (suc zero)))) b e = absurd (cc)
respected (suc (suc (suc (suc (suc a))))) b e = absurd (cc)

-- with an atom in the set for 3 they do not
other_sets : List (List ℕ)
other_sets = (7 ∷ 8 ∷ []) ∷ (7 ∷ []) ∷ (7 ∷ []) ∷ (8 ∷ []) ∷ (9 ∷ []) ∷ []

none_under : (a : ℕ) → IsUnder [] [] a → ⊥
none_under _ (by_member a i) = i
none_under _ (by_bound a b e h) = absurd (cc)

disregarded : Respects chain [] other_sets → ⊥
unfolding chain other_sets
disregarded r = none_under 8 (r 3 [] refl 8 (inl refl))
