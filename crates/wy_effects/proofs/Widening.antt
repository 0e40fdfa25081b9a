-- A set widened by one atom after the other: the atoms below a number that are under it.
use Rattle.std.proofs.Common.{◌≡◌, ℕ, suc, ◌+◌, Bool, true, false, [], ◌∷◌, ◌∙◌, ap, ◌<◌, ◌≤◌, ◌↔◌, List, ◌⊎◌, inl, inr, length, refl, sym, subst, Option, Some, None, arith}
use Rattle.std.specs.Prelude.{slice_get, IsTrue, ◌&&◌, if◌then◌else◌}
use Rattle.std.proofs.lemmas.Option.{slice_get_within}
use Rattle.wy_text.specs.Members.{In, Within}
use Rattle.wy_effects.specs.EffSet.{has, insert_atom}
use Rattle.wy_effects.specs.Bounds.{Bounds, IsUnder, by_member, by_bound, GoDown, IsWidened}
use Rattle.wy_effects.specs.Widened.{includes, with_bounded, widened_from, widened_set}
use Rattle.wy_effects.proofs.SetLaws.{has-In, In-has, insert_atom-cases, In-insert_atom-new, In-insert_atom-old, cases_equal}

module _ (bounds : Bounds) (f : List ℕ) where
  -- the set's own atoms, and those below the number that are under it
  abbrev pub IsSoFar : ℕ → List ℕ → Type 0
  IsSoFar n wide = (a : ℕ) → In a wide ↔ (In a f ⊎ ((a < n) × IsUnder bounds f a))

  pub begins : IsSoFar 0 f
  begins a = (λ i. inl i, λ h. elim h [ inl i ↦ i | inr l ↦ absurd (let b = l.0 in omega (arith, b)) ])

  -- an atom that has no bound is under a set as a member of it
  unbounded_member : (a : ℕ) (o : Option (Option (List ℕ))) → slice_get bounds a ≡ o → ((b : List ℕ) → o ≡ Some (Some b) → ⊥) → IsUnder bounds f a → In a f
  unbounded_member _ o e n (by_member a i) = i
  unbounded_member _ o e n (by_bound a b g h) = absurd (n b (cc))

  -- .. and so is one whose bound is not within what there is so far
  outside_member : (n : ℕ) (wide b : List ℕ) → GoDown bounds → IsSoFar n wide → slice_get bounds n ≡ Some (Some b) → (Within b wide → ⊥) → (a : ℕ) → a ≡ n → IsUnder bounds f a → In a f
  outside_member n wide b down so_far e outside _ same (by_member a i) = i
  outside_member n wide b down so_far e outside _ same (by_bound a c g h) =
      absurd (outside (λ x i.
      let j : In x c = subst (λ l. In x l) (cc) i in
      let d = down a c g x j in
      (so_far x).1 (inr ((omega (arith, d, same)), h x j))))

  -- one more number, where its atom is in or is no more than a member
  kept : (n : ℕ) (wide : List ℕ) → IsSoFar n wide → (IsUnder bounds f n → In n f) → IsSoFar (n + 1) wide
  kept n wide so_far member a = (
    λ i. elim ((so_far a).0 i) [ inl j ↦ inl j | inr h ↦ inr ((let b = h.0 in omega (arith, b)), h.1) ],
    λ h. elim h [
      | inl j ↦ (so_far a).1 (inl j)
      | inr u ↦ elim (cases_equal a n) [
        | inl e ↦ (so_far a).1 (inl (subst (λ v. In v f) (sym e) (member (subst (λ v. IsUnder bounds f v) e u.1))))
        | inr e ↦ (so_far a).1 (inr ((let b = u.0 in omega (arith, b, e)), u.1))
      ]
    ],
  )

  pub none_more : (n : ℕ) (wide : List ℕ) → IsSoFar n wide → slice_get bounds n ≡ Some None → IsSoFar (n + 1) wide
  none_more n wide so_far e = kept n wide so_far (unbounded_member n (Some None) e (λ b g. cc))

  pub outside_more : (n : ℕ) (wide b : List ℕ) → GoDown bounds → IsSoFar n wide → slice_get bounds n ≡ Some (Some b) → (Within b wide → ⊥) → IsSoFar (n + 1) wide
  outside_more n wide b down so_far e outside = kept n wide so_far (outside_member n wide b down so_far e outside n refl)

  pub inside_more : (n : ℕ) (wide b : List ℕ) → IsSoFar n wide → slice_get bounds n ≡ Some (Some b) → Within b wide → IsSoFar (n + 1) (insert_atom n wide)
  inside_more n wide b so_far e inside a = (
    λ i. elim (insert_atom-cases n a wide i) [
      | inl same ↦ inr ((omega (arith, same)), subst (λ v. IsUnder bounds f v) same under)
      | inr j ↦ elim ((so_far a).0 j) [ inl k ↦ inl k | inr h ↦ inr ((let l = h.0 in omega (arith, l)), h.1) ]
    ],
    λ h. elim h [
      | inl j ↦ In-insert_atom-old n a wide ((so_far a).1 (inl j))
      | inr u ↦ elim (cases_equal a n) [
        | inl same ↦ subst (λ v. In v (insert_atom n wide)) (sym same) (In-insert_atom-new n wide)
        | inr other ↦ In-insert_atom-old n a wide ((so_far a).1 (inr ((let l = u.0 in omega (arith, l, other)), u.1)))
      ]
    ],
  )
    where
      member_under : (c : ℕ) → (In c f ⊎ ((c < n) × IsUnder bounds f c)) → IsUnder bounds f c
      member_under c (inl i) = by_member c i
      member_under c (inr h) = h.1

      under : IsUnder bounds f n
      under = by_bound n b e (λ c i. member_under c ((so_far c).0 (inside c i)))

  -- past the last bound
  pub ends : (n : ℕ) (wide : List ℕ) → length bounds ≤ n → IsSoFar n wide → IsWidened bounds f wide
  ends n wide past so_far a = (
    λ i. elim ((so_far a).0 i) [ inl j ↦ by_member a j | inr h ↦ h.1 ],
    λ u. in_it a u,
  )
    where
      in_it : (c : ℕ) → IsUnder bounds f c → In c wide
      in_it _ (by_member c i) = (so_far c).1 (inl i)
      in_it _ (by_bound c b e h) = (so_far c).1 (inr ((let l = slice_get_within bounds c (Some b) e in omega (arith, l, past)), by_bound c b e h))

------------------------------------------------------------
-- The set that is made from the first bound to the last

includes_within : (e f : List ℕ) → includes e f ≡ true → Within e f
includes_within [] f h a i = absurd i
includes_within (x ∷ e) f h a i =
    elim (has x f) as (λ b. has x f ≡ b → (b && includes e f) ≡ true → In a f) [
      | true ↦ λ t r. elim i [ inl same ↦ subst (λ v. In v f) same (In-has x f t) | inr j ↦ includes_within e f r a j ]
      | false ↦ λ t r. absurd (cc)
    ] refl h

within_includes : (e f : List ℕ) → Within e f → includes e f ≡ true
within_includes [] f h = refl
within_includes (x ∷ e) f h = rw (has-In x f (h x (inl refl))) (within_includes e f (λ a i. h a (inr i)))

-- whether an inclusion holds is told by a truth that is equivalent to it
pub told : (e f : List ℕ) (b : Bool) → (IsTrue b ↔ Within e f) → includes e f ≡ b
told e f true t = within_includes e f (t.0 refl)
told e f false t = elim (includes e f) as (λ v. includes e f ≡ v → v ≡ false) [
  | true ↦ λ h. absurd (let n : IsTrue false = t.1 (includes_within e f h) in cc)
  | false ↦ λ h. refl
] refl

pub with_inside : (a : ℕ) (b f : List ℕ) (t : Bool) → (IsTrue t ↔ Within b f) → t ≡ true → insert_atom a f ≡ with_bounded a (Some b) f
with_inside a b f t h e = sym (ap (λ v. if v then insert_atom a f else f) (told b f t h ∙ e))

pub with_outside : (a : ℕ) (b f : List ℕ) (t : Bool) → (IsTrue t ↔ Within b f) → t ≡ false → f ≡ with_bounded a (Some b) f
with_outside a b f t h e = sym (ap (λ v. if v then insert_atom a f else f) (told b f t h ∙ e))

module _ (bounds : Bounds) (down : GoDown bounds) (f : List ℕ) where
  -- the bounds from a number on
  abbrev AreFrom : ℕ → Bounds → Type 0
  AreFrom n rest = ((i : ℕ) → slice_get bounds (n + i) ≡ slice_get rest i) × (length bounds ≡ n + length rest)

  first_of : (n : ℕ) (o : Option (List ℕ)) (rest : Bounds) → AreFrom n (o ∷ rest) → slice_get bounds n ≡ Some o
  first_of n o rest h = (let same : n + 0 ≡ n = omega arith in subst (λ v. slice_get bounds v ≡ Some o) same (h.0 0))

  rest_of : (n : ℕ) (o : Option (List ℕ)) (rest : Bounds) → AreFrom n (o ∷ rest) → AreFrom (n + 1) rest
  rest_of n o rest h = (
    λ i. (let same : n + suc i ≡ n + 1 + i = omega arith in subst (λ v. slice_get bounds v ≡ slice_get rest i) same (h.0 (suc i))),
    (let l = h.1 in omega (arith, l)),
  )

  more : (n : ℕ) (o : Option (List ℕ)) (wide : List ℕ) → slice_get bounds n ≡ Some o → IsSoFar bounds f n wide → IsSoFar bounds f (n + 1) (with_bounded n o wide)
  more n None wide here so_far = none_more bounds f n wide so_far here
  more n (Some b) wide here so_far =
      elim (includes b wide) as (λ v. includes b wide ≡ v → IsSoFar bounds f (n + 1) (if v then insert_atom n wide else wide)) [
        | true ↦ λ t. inside_more bounds f n wide b so_far here (includes_within b wide t)
        | false ↦ λ t. outside_more bounds f n wide b down so_far here (λ w. let u = within_includes b wide w in cc)
      ] refl

  goes_on : (n : ℕ) (rest : Bounds) (wide : List ℕ) → AreFrom n rest → IsSoFar bounds f n wide → IsWidened bounds f (widened_from n rest wide)
  goes_on n [] wide h so_far = ends bounds f n wide (let l = h.1 in omega (arith, l)) so_far
  goes_on n (o ∷ rest) wide h so_far = goes_on (n + 1) rest (with_bounded n o wide) (rest_of n o rest h) (more n o wide (first_of n o rest h) so_far)

  pub widened_is : IsWidened bounds f (widened_set bounds f)
  widened_is = goes_on 0 bounds f ((λ i. ap (slice_get bounds) (omega arith)), omega arith) (begins bounds f)
