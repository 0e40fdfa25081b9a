-- The laws of the order on effect sets over bounds.
use Rattle.std.proofs.Common.{◌≡◌, ℕ, zero, suc, ◌<◌, ◌≤◌, List, [], ◌∷◌, ◌⊎◌, inl, inr, get_or, map, replicate, refl, sym, subst, Option, Some, None, arith}
use Rattle.std.specs.Prelude.{slice_get, slice_index_or}
use Rattle.wy_text.specs.Members.{In, Within}
use Rattle.wy_effects.specs.EffSet.{replace, union}
use Rattle.wy_effects.specs.Bounds.{Bounds, IsUnder, by_member, by_bound, IsWithin, Respects, BoundsFit, GoDown, AreNone}
use Rattle.wy_effects.specs.Order.{SameWithin, OnwardWithin, UnionsWithin, OneWithin, UnboundedWithin, ReplacedWithin, RespectsOnward, WidenedExactly, MissingExactly, OneMissing}
use Rattle.wy_effects.proofs.Closure.{in_decided}
use Rattle.wy_effects.proofs.SetLaws.{In-union-left, In-union-right, union-cases, below_end, cases_equal}
use Rattle.wy_effects.proofs.Replacing.{replace-from, replace-some, get-map-replace, replace-replace}

pub same_within : SameWithin
same_within bounds e f w a i = by_member a (w a i)

pub under_onward : (bounds : Bounds) (f g : List ℕ) (a : ℕ) → IsUnder bounds f a → IsWithin bounds f g → IsUnder bounds g a
under_onward bounds f g _ (by_member a i) w = w a i
under_onward bounds f g _ (by_bound a b e h) w = by_bound a b e (λ c i. under_onward bounds f g c (h c i) w)

pub onward_within : OnwardWithin
onward_within bounds e f g v w a i = under_onward bounds f g a (v a i) w

pub unions_within : UnionsWithin
unions_within bounds e f g h v w a i =
    elim (union-cases a e f i) [
      | inl j ↦ under_onward bounds g (union g h) a (v a j) (λ c k. by_member c (In-union-left c g h k))
      | inr j ↦ under_onward bounds h (union g h) a (w a j) (λ c k. by_member c (In-union-right c g h k))
    ]

replaced_under : (bounds there : Bounds) (by : List (List ℕ)) → Respects bounds there by → (f : List ℕ) (a : ℕ) → IsUnder bounds f a → IsWithin there (slice_index_or by a []) (replace by f)
replaced_under bounds there by r f _ (by_member a i) = λ x j. by_member x (replace-some x by f (a, i, j))
replaced_under bounds there by r f _ (by_bound a b e h) =
    onward_within there (slice_index_or by a []) (replace by b) (replace by f) (r a b e)
    (λ x j. let s = replace-from x by b j in replaced_under bounds there by r f s.0 (h s.0 s.1) x s.2)

pub replaced_within : ReplacedWithin
replaced_within bounds there by r e f w x j = let s = replace-from x by e j in replaced_under bounds there by r f s.0 (w s.0 s.1) x s.2

-- an atom that has no bound, nor any other, is under a set as a member of it
pub unbounded_under : (bounds : Bounds) → AreNone bounds → (f : List ℕ) (a : ℕ) → IsUnder bounds f a → In a f
unbounded_under bounds n f _ (by_member a i) = i
unbounded_under bounds n f _ (by_bound a b e h) = absurd (n a b e)

pub unbounded_within : UnboundedWithin
unbounded_within bounds n e f w a i = unbounded_under bounds n f a (w a i)

pub none_bounded : (n : ℕ) → AreNone (replicate n None)
none_bounded zero a b e = absurd (cc)
none_bounded (suc n) zero b e = absurd (cc)
none_bounded (suc n) (suc a) b e = none_bounded n a b e

-- what has no bound is respected by all sets
pub none_respected : (bounds there : Bounds) (by : List (List ℕ)) → AreNone bounds → Respects bounds there by
none_respected bounds there by n a b e = absurd (n a b e)

pub none_within : (e f : List ℕ) → IsWithin [] e f → Within e f
none_within = unbounded_within [] (λ a b e. absurd (cc))

-- a set is within another exactly where it is in the widened one
pub widened_exactly : WidenedExactly
widened_exactly bounds e f w is = (λ v a i. (is a).1 (v a i), λ v a i. (is a).0 (v a i))

-- respecting bounds, and then other ones
pub respects_onward : RespectsOnward
respects_onward bounds b1 b2 by by1 n sets r r1 a s e =
    let step : IsWithin b2 (replace by1 (get_or by a [])) (replace by1 (replace by s)) = replaced_within b1 b2 by1 r1 (get_or by a []) (replace by s) (r a s e) in
    let P : List ℕ → Type 0 = λ l. IsWithin b2 l (replace (map (replace by1) by) s) in
    let Q : List ℕ → Type 0 = λ l. IsWithin b2 (replace by1 (get_or by a [])) l in
    subst P (sym (get-map-replace by1 by a)) (subst Q (replace-replace n by1 by s sets) step)

-- a single atom
pub one_within : OneWithin
one_within bounds f a = (λ h. h a (inl refl), λ h b i. elim i [ inl e ↦ subst (IsUnder bounds f) e h | inr z ↦ absurd z ])

-- bounds that fit name earlier atoms
pub fit_down : (n : ℕ) (bounds : Bounds) → BoundsFit n bounds → GoDown bounds
fit_down n bounds fit a b e c i = below_end 0 a b c (fit.1 a b e) i

-- whether an atom is under a set is decided, where bounds name earlier atoms
module _ (bounds : Bounds) (down : GoDown bounds) (f : List ℕ) where
  abbrev IsDecided : ℕ → Type 0
  IsDecided a = IsUnder bounds f a ⊎ (IsUnder bounds f a → ⊥)

  -- an atom of the list is not under the set, or none is
  some_missing : (t : List ℕ) → ((c : ℕ) → In c t → IsDecided c) → ((c : ℕ) × In c t × (IsUnder bounds f c → ⊥)) ⊎ ((c : ℕ) → In c t → IsUnder bounds f c)
  some_missing [] decide = inr (λ c i. absurd i)
  some_missing (x ∷ t) decide =
      elim (decide x (inl refl)) [
        | inr m ↦ inl (x, inl refl, m)
        | inl u ↦ elim (some_missing t (λ c i. decide c (inr i))) [
          | inl r ↦ inl (r.0, inr r.1, r.2)
          | inr all ↦ inr (λ c i. elim i [ inl same ↦ subst (IsUnder bounds f) same u | inr j ↦ all c j ])
        ]
      ]

  -- .. of an atom that is not in the set, by its bound
  refuted : (a : ℕ) → (In a f → ⊥) → ((b : List ℕ) → slice_get bounds a ≡ Some (Some b) → (c : ℕ) × In c b × (IsUnder bounds f c → ⊥)) → IsUnder bounds f a → ⊥
  refuted _ n m (by_member a i) = n i
  refuted _ n m (by_bound a b e h) = let r = m b e in r.2 (h r.0 r.1)

  by_its_bound : (a : ℕ) → (In a f → ⊥) → (o : Option (Option (List ℕ))) → slice_get bounds a ≡ o → ((b : List ℕ) → o ≡ Some (Some b) → (c : ℕ) → In c b → IsDecided c) → IsDecided a
  by_its_bound a n None e decide = inr (refuted a n (λ b g. absurd (cc)))
  by_its_bound a n (Some None) e decide = inr (refuted a n (λ b g. absurd (cc)))
  by_its_bound a n (Some (Some s)) e decide =
      elim (some_missing s (decide s refl)) [
        | inr all ↦ inl (by_bound a s e all)
        | inl r ↦ inr (refuted a n (λ b g. let same : s ≡ b = cc in (r.0, subst (λ v. In r.0 v) same r.1, r.2)))
      ]

  decided_below : (n a : ℕ) → a < n → IsDecided a
  decided_below zero a h = absurd (omega arith)
  decided_below (suc n) a h =
      elim (in_decided cases_equal a f) [
        | inl i ↦ inl (by_member a i)
        | inr m ↦ by_its_bound a m (slice_get bounds a) refl (λ b e c i. decided_below n c (let l = down a b e c i in omega (arith, l)))
      ]

  pub under_decided : (a : ℕ) → IsUnder bounds f a ⊎ (IsUnder bounds f a → ⊥)
  under_decided a = decided_below (suc a) a (omega arith)

-- an atom that is not under a third set but is under the second: one of the second that is no greater is not under the third
least_below : (bounds : Bounds) → GoDown bounds → (f g : List ℕ) (b : ℕ) → ((c : ℕ) → In c f → (IsUnder bounds g c → ⊥) → b ≤ c) → (a : ℕ) → IsUnder bounds f a → (IsUnder bounds g a → ⊥) → b ≤ a
least_below bounds down f g b least _ (by_member a i) n = least a i n
least_below bounds down f g b least _ (by_bound a s e h) n =
    elim (some_missing bounds down g s (λ c i. under_decided bounds down g c)) [
      | inl r ↦ (let k = least_below bounds down f g b least r.0 (h r.0 r.1) r.2 in let d = down a s e r.0 r.1 in omega (arith, k, d))
      | inr all ↦ absurd (n (by_bound a s e all))
    ]

pub one_missing : OneMissing
one_missing bounds down e f g a b v w h k =
    let one = least_below bounds down f g b (λ c i n. k.2 c i n) a (v a h.0) h.1 in
    let other = least_below bounds down e g a (λ c i n. h.2 c i n) b (w b k.0) k.1 in
    omega (arith, one, other)

-- what a set lacks of another over bounds is what the widened one lacks
pub missing_exactly : MissingExactly
missing_exactly bounds e f w a is = (
  λ h. (h.0, λ i. h.1 ((is a).0 i), λ b i n. h.2 b i (λ u. n ((is b).1 u))),
  λ h. (h.0, λ u. h.1 ((is a).1 u), λ b i n. h.2 b i (λ j. n ((is b).0 j))),
)
