-- Looking into lists that are joined, written to, or counted off.
use Rattle.std.proofs.Common.{◌≡◌, ◌≢◌, ℕ, zero, suc, ◌+◌, ◌<◌, List, [], ◌∷◌, ◌++◌, length, drop, Some, refl, sym, ap, ◌∙◌, ◌⊎◌, inl, inr, arith}
use Rattle.std.proofs.lemmas.List.{drop-drop, drop_at}
use Rattle.std.specs.Prelude.{slice_get, slice_set}

pub some_is : {A : Type 0} {x y : A} → Some x ≡ Some y → x ≡ y
some_is e = cc

module _ {A : Type 0} where
  pub get_front : (xs ys : List A) (k : ℕ) (x : A) → slice_get xs k ≡ Some x → slice_get (xs ++ ys) k ≡ Some x
  get_front [] ys k x e = absurd cc
  get_front (z ∷ xs) ys zero x e = e
  get_front (z ∷ xs) ys (suc k) x e = get_front xs ys k x e

  pub get_behind : (xs ys : List A) (k n : ℕ) → n ≡ length xs + k → slice_get (xs ++ ys) n ≡ slice_get ys k
  get_behind [] ys k n e = let z : n ≡ k = omega arith in ap (slice_get ys) z
  get_behind (x ∷ xs) ys k zero e = absurd (omega arith)
  get_behind (x ∷ xs) ys k (suc n) e = get_behind xs ys k n (omega arith)

  pub get_last : (xs : List A) (y : A) → slice_get (xs ++ y ∷ []) (length xs) ≡ Some y
  get_last [] y = refl
  get_last (z ∷ xs) y = get_last xs y

  pub get_within : (xs : List A) (k : ℕ) (x : A) → slice_get xs k ≡ Some x → k < length xs
  get_within [] k x e = absurd cc
  get_within (z ∷ xs) zero x e = omega arith
  get_within (z ∷ xs) (suc k) x e = let h = get_within xs k x e in omega arith

  pub there : (xs : List A) (k : ℕ) → k < length xs → (x : A) × (slice_get xs k ≡ Some x)
  there [] k h = absurd (omega arith)
  there (z ∷ xs) zero h = (z, refl)
  there (z ∷ xs) (suc k) h = there xs k (omega arith)

  -- of a list with one more element: one of the list, or the new one
  pub get_joined : (xs : List A) (y : A) (k : ℕ) (x : A) → slice_get (xs ++ y ∷ []) k ≡ Some x →
      (slice_get xs k ≡ Some x) ⊎ ((k ≡ length xs) × (y ≡ x))
  get_joined [] y zero x e = inr (refl, some_is e)
  get_joined [] y (suc k) x e = absurd cc
  get_joined (z ∷ xs) y zero x e = inl e
  get_joined (z ∷ xs) y (suc k) x e = later (get_joined xs y k x e)
    where
      later : (slice_get xs k ≡ Some x) ⊎ ((k ≡ length xs) × (y ≡ x)) → (slice_get xs k ≡ Some x) ⊎ ((suc k ≡ suc (length xs)) × (y ≡ x))
      later (inl h) = inl h
      later (inr h) = inr (ap suc h.0, h.1)

  pub get_set_same : (xs : List A) (i : ℕ) (v : A) → i < length xs → slice_get (slice_set xs i v) i ≡ Some v
  get_set_same [] i v h = absurd (omega arith)
  get_set_same (x ∷ xs) zero v h = refl
  get_set_same (x ∷ xs) (suc i) v h = get_set_same xs i v (omega arith)

  pub get_set_other : (xs : List A) (i j : ℕ) (v : A) → i ≢ j → slice_get (slice_set xs i v) j ≡ slice_get xs j
  get_set_other [] i j v h = refl
  get_set_other (x ∷ xs) zero zero v h = absurd (h refl)
  get_set_other (x ∷ xs) zero (suc j) v h = refl
  get_set_other (x ∷ xs) (suc i) zero v h = refl
  get_set_other (x ∷ xs) (suc i) (suc j) v h = get_set_other xs i j v (λ e. h (ap suc e))

  pub length_set : (xs : List A) (i : ℕ) (v : A) → length (slice_set xs i v) ≡ length xs
  length_set [] i v = refl
  length_set (x ∷ xs) zero v = refl
  length_set (x ∷ xs) (suc i) v = ap suc (length_set xs i v)

  -- behind a list
  pub drop_past : (k : ℕ) (whole xs ys : List A) → drop k whole ≡ xs ++ ys → drop (k + length xs) whole ≡ ys
  drop_past k whole xs ys e = sym (drop-drop (length xs) k whole) ∙ ap (drop (length xs)) e ∙ drop_at xs ys (length xs) refl

  pub get_drop : (xs : List A) (k : ℕ) (x : A) (rest : List A) → drop k xs ≡ x ∷ rest → (slice_get xs k ≡ Some x) × (drop (suc k) xs ≡ rest)
  get_drop [] zero x rest e = absurd cc
  get_drop [] (suc k) x rest e = absurd cc
  get_drop (z ∷ xs) zero x rest e = (cc, cc)
  get_drop (z ∷ xs) (suc k) x rest e = get_drop xs k x rest e
