-- A test of each element of a list, by a loop that stops at the first element that fails.
use Rattle.std.proofs.Common.{◌≡◌, ◌↔◌, IsTrue, ℕ, ◌+◌, ◌<◌, ◌≤◌, Bool, true, false, List, length, map, get_or, take, refl, sym, ap, subst, arith, ◌⊎◌, inl, inr, zero, suc, [], ◌∷◌, Some}
use Rattle.std.specs.Prelude.{slice_get}
use Rattle.std.proofs.lemmas.Bool.{cases_lt}
use Rattle.wy_text.specs.Members.{In}
use Rattle.wy_text.proofs.Lists.{In-get, In-read, In-map, In-unmap, each_more, each_all}

-- what fails is false
pub refuted : {P Q : Type 0} (b : Bool) → b ≡ false → (IsTrue b ↔ P) → (Q → P) → IsTrue false ↔ Q
refuted b e h f = (λ t. absurd cc, λ q. absurd (let t : b ≡ true = h.1 (f q) in cc))

-- what can't be is false
pub denied : {Q : Type 0} → (Q → ⊥) → IsTrue false ↔ Q
denied f = (λ t. absurd cc, λ q. absurd (f q))

-- what is there is true
pub granted : {Q : Type 0} → Q → IsTrue true ↔ Q
granted q = (λ t. q, λ q. refl)

-- the same by other words
pub reworded : {P Q : Type 0} (b : Bool) → (IsTrue b ↔ P) → (P → Q) → (Q → P) → IsTrue b ↔ Q
reworded b h f g = (λ t. f (h.0 t), λ q. h.1 (g q))

module _ {X : Type 0} (P : X → Type 0) (xs : List X) where
  -- one element fails
  pub one_fails : (i : ℕ) (d : X) (b : Bool) → i < length xs → b ≡ false → (IsTrue b ↔ P (get_or xs i d)) →
      IsTrue false ↔ ((x : X) → In x xs → P x)
  one_fails i d b lt e h = refuted b e h (λ all. all (get_or xs i d) (In-get xs i d lt))

  -- one more passes
  pub one_more : (i : ℕ) (d : X) (b : Bool) → i < length xs → ((x : X) → In x (take i xs) → P x) → b ≡ true →
      (IsTrue b ↔ P (get_or xs i d)) → (x : X) → In x (take (i + 1) xs) → P x
  one_more i d b lt h e t = each_more P xs i d lt h (t.0 e)

  -- an element that is lent fails
  pub item_fails : (i : ℕ) (x : X) (b : Bool) → i < length xs → x ≡ get_or xs i x → b ≡ false → (IsTrue b ↔ P x) →
      IsTrue false ↔ ((x : X) → In x xs → P x)
  item_fails i x b lt at e h = refuted b e h (λ all. all x (In-read xs i x x lt at))

  -- .. or passes
  pub item_more : (i : ℕ) (x : X) (b : Bool) → i < length xs → x ≡ get_or xs i x →
      ((x : X) → In x (take i xs) → P x) → b ≡ true → (IsTrue b ↔ P x) → (x : X) → In x (take (i + 1) xs) → P x
  item_more i x b lt at h e t = each_more P xs i x lt h (subst P at (t.0 e))

  -- none fails
  pub none_fails : (n : ℕ) → length xs ≤ n → ((x : X) → In x (take n xs) → P x) →
      IsTrue true ↔ ((x : X) → In x xs → P x)
  none_fails n le h = (λ t. each_all P xs n le h, λ all. refl)

-- what holds of each image of an element holds of each element's image
pub on_map : {X Y : Type 0} (f : X → Y) (P : Y → Type 0) (xs : List X) → ((x : X) → In x xs → P (f x)) → (y : Y) →
    In y (map f xs) → P y
on_map f P xs h y i = let r = In-unmap f y xs i in subst P r.2 (h r.0 r.1)

pub of_map : {X Y : Type 0} (f : X → Y) (P : Y → Type 0) (xs : List X) → ((y : Y) → In y (map f xs) → P y) → (x : X) →
    In x xs → P (f x)
of_map f P xs h x i = h (f x) (In-map f x xs i)

------------------------------------------------------------
-- A test of each element with its place

pub read_there : {X : Type 0} (xs : List X) (i : ℕ) (x : X) → i < length xs → x ≡ get_or xs i x → slice_get xs i ≡ Some x
read_there [] i x lt at = absurd (omega arith)
read_there (y ∷ xs) zero x lt at = ap (λ z. Some z) (sym at)
read_there (y ∷ xs) (suc i) x lt at = read_there xs i x (omega arith) at

there_below : {X : Type 0} (xs : List X) (i : ℕ) (x : X) → slice_get xs i ≡ Some x → i < length xs
there_below [] i x e = cc
there_below (y ∷ xs) zero x e = omega arith
there_below (y ∷ xs) (suc i) x e = let h = there_below xs i x e in omega (arith, h)

module _ {X : Type 0} (P : ℕ → X → Type 0) (xs : List X) where
  -- the element at a place fails
  pub place_fails : (i : ℕ) (x : X) (b : Bool) → i < length xs → x ≡ get_or xs i x → b ≡ false → (IsTrue b ↔ P i x) →
      IsTrue false ↔ ((k : ℕ) (y : X) → slice_get xs k ≡ Some y → P k y)
  place_fails i x b lt at e h = refuted b e h (λ all. all i x (read_there xs i x lt at))

  -- .. or passes
  pub place_more : (i : ℕ) (x : X) (b : Bool) → i < length xs → x ≡ get_or xs i x →
      ((k : ℕ) (y : X) → k < i → slice_get xs k ≡ Some y → P k y) → b ≡ true → (IsTrue b ↔ P i x) →
      (k : ℕ) (y : X) → k < i + 1 → slice_get xs k ≡ Some y → P k y
  place_more i x b lt at h e t k y less f = of (cases_lt k i)
    where
      of : (k < i) ⊎ (i ≤ k) → P k y
      of (inl l) = h k y l f
      of (inr g) =
          let same : i ≡ k = omega (arith, less, g) in
          let value : x ≡ y = (let r = read_there xs i x lt at in let q = subst (λ n. slice_get xs n ≡ Some y) (sym same) f in cc) in
          subst (λ (z : X). P k z) value (subst (λ n. P n x) same (t.0 e))

  -- none fails
  pub places_pass : (n : ℕ) → length xs ≤ n → ((k : ℕ) (y : X) → k < n → slice_get xs k ≡ Some y → P k y) →
      IsTrue true ↔ ((k : ℕ) (y : X) → slice_get xs k ≡ Some y → P k y)
  places_pass n le h = (λ t k y f. h k y (let l = there_below xs k y f in omega (arith, l, le)) f, λ all. refl)
