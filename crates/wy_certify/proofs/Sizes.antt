-- How many bytes values have one after the other.
use Rattle.std.proofs.Common.{◌≡◌, ℕ, suc, ◌+◌, ◌≤◌, List, [], ◌∷◌, length, inl, inr, refl, sym, ap, ◌∙◌, subst, Some, arith, length-append}
use Rattle.std.specs.Prelude.{slice_get}
use Rattle.wy_text.specs.Members.{In, Within, Apart}
use Rattle.wy_spelling.specs.Spelling.{number_bytes, joined, list_bytes}

------------------------------------------------------------
-- Of any kind

-- a list without one of its elements
without : {X : Type 0} (x : X) (xs : List X) → In x xs → List X
without x [] i = absurd i
without x (y ∷ ys) (inl e) = ys
without x (y ∷ ys) (inr i) = y ∷ without x ys i

In-without : {X : Type 0} (x z : X) (xs : List X) (i : In x xs) → (x ≡ z → ⊥) → In z xs → In z (without x xs i)
unfolding without
In-without x z [] i ne j = absurd i
In-without x z (y ∷ ys) (inl e) ne (inl f) = absurd (ne (sym e ∙ f))
In-without x z (y ∷ ys) (inl e) ne (inr j) = j
In-without x z (y ∷ ys) (inr i) ne (inl f) = inl f
In-without x z (y ∷ ys) (inr i) ne (inr j) = inr (In-without x z ys i ne j)

module _ {X : Type 0} (f : X → List ℕ) where
  joined_without : (x : X) (xs : List X) (i : In x xs) → length (joined f xs) ≡ length (f x) + length (joined f (without x xs i))
  unfolding without
  joined_without x [] i = absurd i
  joined_without x (y ∷ ys) (inl e) = length-append (f y) (joined f ys) ∙ ap (λ (v : X). length (f v) + length (joined f ys)) e
  joined_without x (y ∷ ys) (inr i) =
      let rest = joined_without x ys i in
      let left = length-append (f y) (joined f ys) in
      let right = length-append (f y) (joined f (without x ys i)) in
      omega (arith, rest, left, right)

  -- elements apart, each among others, have no more bytes than these
  pub no_more_bytes : (xs ys : List X) → Apart xs → Within xs ys → length (joined f xs) ≤ length (joined f ys)
  no_more_bytes [] ys a w = omega arith
  no_more_bytes (x ∷ xs) ys a w =
      let i : In x ys = w x (inl refl) in
      let rest : length (joined f xs) ≤ length (joined f (without x ys i)) =
      no_more_bytes xs (without x ys i) a.1 (λ z j. In-without x z ys i (λ e. a.0 (subst (λ (v : X). In v xs) (sym e) j)) (w z (inr j))) in
      omega (arith, rest, joined_without x ys i, length-append (f x) (joined f xs))

  -- as many that have as many bytes each
  pub as_many_bytes : (xs ys : List X) → ((x y : X) → length (f x) ≡ length (f y)) → length xs ≡ length ys → length (joined f xs) ≡ length (joined f ys)
  as_many_bytes [] [] h e = refl
  as_many_bytes [] (y ∷ ys) h e = absurd (omega (arith, e))
  as_many_bytes (x ∷ xs) [] h e = absurd (omega (arith, e))
  as_many_bytes (x ∷ xs) (y ∷ ys) h e =
      let same : length xs ≡ length ys = omega (arith, e) in
      omega (arith, as_many_bytes xs ys h same, h x y, length-append (f x) (joined f xs), length-append (f y) (joined f ys))

  -- .. at each number
  pub each_as_many_bytes : (xs ys : List X) → length xs ≡ length ys → ((k : ℕ) (x y : X) → slice_get xs k ≡ Some x → slice_get ys k ≡ Some y → length (f x) ≡ length (f y)) → length (joined f xs) ≡ length (joined f ys)
  each_as_many_bytes [] [] e h = refl
  each_as_many_bytes [] (y ∷ ys) e h = absurd (omega (arith, e))
  each_as_many_bytes (x ∷ xs) [] e h = absurd (omega (arith, e))
  each_as_many_bytes (x ∷ xs) (y ∷ ys) e h =
      let same : length xs ≡ length ys = omega (arith, e) in
      let rest = each_as_many_bytes xs ys same (λ k a b i j. h (suc k) a b i j) in
      omega (arith, rest, h 0 x y refl refl, length-append (f x) (joined f xs), length-append (f y) (joined f ys))

  -- values of a byte or more have as many bytes as they are, or more
  pub some_bytes : (xs : List X) → ((x : X) → 1 ≤ length (f x)) → length xs ≤ length (joined f xs)
  some_bytes [] h = omega arith
  some_bytes (x ∷ xs) h = omega (arith, some_bytes xs h, h x, length-append (f x) (joined f xs))

  -- one of them has no more than all
  pub one_of_bytes : (x : X) (xs : List X) → In x xs → length (f x) ≤ length (joined f xs)
  one_of_bytes x [] i = absurd i
  one_of_bytes x (y ∷ ys) (inl e) = (let same : length (f y) ≡ length (f x) = ap (λ (v : X). length (f v)) e in omega (arith, same, length-append (f y) (joined f ys)))
  one_of_bytes x (y ∷ ys) (inr i) = omega (arith, one_of_bytes x ys i, length-append (f y) (joined f ys))

-- a list: four more
pub list_size : {X : Type 0} (f : X → List ℕ) (xs : List X) → length (list_bytes f xs) ≡ 4 + length (joined f xs)
list_size f xs = length-append (number_bytes (length xs)) (joined f xs)
