-- Where in a list another lies: its elements one after another from a number on.
use Rattle.std.proofs.Common.{◌≡◌, ℕ, zero, suc, ◌+◌, ◌<◌, List, [], ◌∷◌, ◌++◌, length, Some, refl, subst, arith}
use Rattle.std.specs.Prelude.{slice_get}

abbrev pub Lies : {X : Type 0} → List X → ℕ → List X → Type 0
Lies all k [] = Unit {0}
Lies all k (x ∷ xs) = (slice_get all k ≡ Some x) × Lies all (suc k) xs

pub lies_left : {X : Type 0} (all : List X) (k : ℕ) (xs ys : List X) → Lies all k (xs ++ ys) → Lies all k xs
lies_left all k [] ys h = tt
lies_left all k (x ∷ xs) ys h = (h.0, lies_left all (suc k) xs ys h.1)

pub lies_right : {X : Type 0} (all : List X) (k m : ℕ) (xs ys : List X) → m ≡ k + length xs → Lies all k (xs ++ ys) → Lies all m ys
lies_right all k m [] ys e h =
    let same : k ≡ m = omega arith in
    subst (λ j. Lies all j ys) same h
lies_right all k m (x ∷ xs) ys e h = lies_right all (suc k) m xs ys (omega arith) h.1

-- one element before
lies_next : {X : Type 0} (y : X) (all : List X) (k : ℕ) (xs : List X) → Lies all k xs → Lies (y ∷ all) (suc k) xs
lies_next y all k [] h = tt
lies_next y all k (x ∷ xs) h = (h.0, lies_next y all (suc k) xs h.1)

-- a list lies in itself
pub lies_itself : {X : Type 0} (xs : List X) → Lies xs 0 xs
lies_itself [] = tt
lies_itself (x ∷ xs) = (refl, lies_next x xs 0 xs (lies_itself xs))

-- an element's number is below the length
pub number_below : {X : Type 0} (xs : List X) (k : ℕ) (x : X) → slice_get xs k ≡ Some x → k < length xs
number_below [] k x e = absurd (cc)
number_below (y ∷ xs) zero x e = omega arith
number_below (y ∷ xs) (suc k) x e = (let h = number_below xs k x e in omega arith)

-- what holds of each element of a list that begins at a number
abbrev pub Holds : {X : Type 0} → (ℕ → X → Type 0) → ℕ → List X → Type 0
Holds P k [] = Unit {0}
Holds P k (x ∷ xs) = P k x × Holds P (suc k) xs

pub holds_append : {X : Type 0} (P : ℕ → X → Type 0) (k m : ℕ) (xs ys : List X) → m ≡ k + length xs → Holds P k xs → Holds P m ys → Holds P k (xs ++ ys)
holds_append P k m [] ys e h g =
    let same : m ≡ k = omega arith in
    subst (λ j. Holds P j ys) same g
holds_append P k m (x ∷ xs) ys e h g = (h.0, holds_append P (suc k) m xs ys (omega arith) h.1 g)

-- it holds by each number
holds_next : {X : Type 0} (P : ℕ → X → Type 0) (k : ℕ) (xs : List X) → Holds P (suc k) xs → Holds (λ j. P (suc j)) k xs
holds_next P k [] h = tt
holds_next P k (x ∷ xs) h = (h.0, holds_next P (suc k) xs h.1)

pub holds_at : {X : Type 0} (P : ℕ → X → Type 0) (xs : List X) → Holds P 0 xs → (k : ℕ) (x : X) → slice_get xs k ≡ Some x → P k x
holds_at P [] h k x e = absurd (cc)
holds_at P (y ∷ xs) h zero x e = (let same : y ≡ x = cc in subst (P 0) same h.0)
holds_at P (y ∷ xs) h (suc k) x e = holds_at (λ j. P (suc j)) xs (holds_next P 0 xs h.1) k x e
