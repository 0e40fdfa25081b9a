-- Elements of two lists joined.
use Rattle.std.proofs.Common.{◌≡◌, ℕ, zero, suc, ◌-◌, ◌<◌, ◌≤◌, List, [], ◌∷◌, ◌++◌, length, take, reverse, Some, refl, ap, ap₂, ◌∙◌, arith}
use Rattle.std.proofs.lemmas.Option.{same_Some}
use Rattle.std.specs.Prelude.{slice_get}

pub get_front : {A : Type 0} (xs ys : List A) (i : ℕ) → i < length xs → slice_get (xs ++ ys) i ≡ slice_get xs i
get_front [] ys i h = absurd (omega arith)
get_front (x ∷ xs) ys zero h = refl
get_front (x ∷ xs) ys (suc i) h = let lt : i < length xs = omega arith in get_front xs ys i lt

pub get_back : {A : Type 0} (xs ys : List A) (i : ℕ) → length xs ≤ i → slice_get (xs ++ ys) i ≡ slice_get ys (i - length xs)
get_back {A = A} [] ys i h = let e : i ≡ i - length {A = A} [] = omega arith in ap (slice_get ys) e
get_back (x ∷ xs) ys zero h = absurd (omega arith)
get_back (x ∷ xs) ys (suc i) h =
    let le : length xs ≤ i = omega arith in
    let e : i - length xs ≡ suc i - length (x ∷ xs) = omega arith in
    get_back xs ys i le ∙ ap (slice_get ys) e

-- the one, two or three topmost of a list, the topmost last
pub one_topmost : {A : Type 0} (xs : List A) (x : A) → slice_get xs 0 ≡ Some x → reverse (take 1 xs) ≡ x ∷ []
one_topmost [] x e = cc
one_topmost (a ∷ xs) x e = ap (λ a. a ∷ []) (same_Some a x e)

pub two_topmost : {A : Type 0} (xs : List A) (x y : A) → slice_get xs 0 ≡ Some y → slice_get xs 1 ≡ Some x → reverse (take 2 xs) ≡ x ∷ y ∷ []
two_topmost [] x y e f = cc
two_topmost (a ∷ []) x y e f = cc
two_topmost (a ∷ b ∷ xs) x y e f = ap₂ (λ b a. b ∷ a ∷ []) (same_Some b x f) (same_Some a y e)

pub three_topmost : {A : Type 0} (xs : List A) (x y z : A) → slice_get xs 0 ≡ Some z → slice_get xs 1 ≡ Some y → slice_get xs 2 ≡ Some x → reverse (take 3 xs) ≡ x ∷ y ∷ z ∷ []
three_topmost [] x y z e f g = cc
three_topmost (a ∷ []) x y z e f g = cc
three_topmost (a ∷ b ∷ []) x y z e f g = cc
three_topmost (a ∷ b ∷ c ∷ xs) x y z e f g = ap₂ (λ cb a. cb ++ a ∷ []) (ap₂ (λ c b. c ∷ b ∷ []) (same_Some c x g) (same_Some b y f)) (same_Some a z e)
