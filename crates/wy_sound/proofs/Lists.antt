-- Reading lists by number: lists in which an element is set, and mapped ones.
use Rattle.std.proofs.Common.{Option, None, ◌≡◌, ◌≢◌, ℕ, zero, suc, ◌<◌, Bool, true, false, List, [], ◌∷◌, ◌++◌, length, map, take, refl, ap, ◌∙◌, Some, arith}
use Rattle.std.specs.Prelude.{slice_get, slice_set, if◌then◌else◌}
use Rattle.std.specs.Option.{option_map}

pub pick_true : {X : Type 0} (c : Bool) (a b : X) → c ≡ true → if◌then◌else◌ c a b ≡ a
pick_true c a b e = ap (λ c. if c then a else b) e

pub pick_false : {X : Type 0} (c : Bool) (a b : X) → c ≡ false → if◌then◌else◌ c a b ≡ b
pick_false c a b e = ap (λ c. if c then a else b) e

pub some_same : {X : Type 0} {x y : X} → Some x ≡ Some y → x ≡ y
some_same e = cc

module _ {X : Type 0} where
  pub get_set_same : (xs : List X) (i : ℕ) (v : X) → i < length xs → slice_get (slice_set xs i v) i ≡ Some v
  get_set_same [] i v h = absurd (omega arith)
  get_set_same (x ∷ xs) zero v h = refl
  get_set_same (x ∷ xs) (suc i) v h = get_set_same xs i v (omega arith)

  pub get_set_other : (xs : List X) (i j : ℕ) (v : X) → i ≢ j → slice_get (slice_set xs i v) j ≡ slice_get xs j
  get_set_other [] i j v h = refl
  get_set_other (x ∷ xs) zero zero v h = absurd (h refl)
  get_set_other (x ∷ xs) zero (suc j) v h = refl
  get_set_other (x ∷ xs) (suc i) zero v h = refl
  get_set_other (x ∷ xs) (suc i) (suc j) v h = get_set_other xs i j v (λ e. h (ap suc e))

  pub length_set : (xs : List X) (i : ℕ) (v : X) → length (slice_set xs i v) ≡ length xs
  length_set [] i v = refl
  length_set (x ∷ xs) zero v = refl
  length_set (x ∷ xs) (suc i) v = ap suc (length_set xs i v)

pub get_map : {X Y : Type 0} (f : X → Y) (xs : List X) (i : ℕ) → slice_get (map f xs) i ≡ option_map f (slice_get xs i)
get_map f [] i = refl
get_map f (x ∷ xs) zero = refl
get_map f (x ∷ xs) (suc i) = get_map f xs i

pub get_mapped : {X Y : Type 0} (f : X → Y) (xs : List X) (i : ℕ) (x : X) → slice_get xs i ≡ Some x → slice_get (map f xs) i ≡ Some (f x)
get_mapped f xs i x e = get_map f xs i ∙ ap (option_map f) e

pub map_append : {X Y : Type 0} (f : X → Y) (xs ys : List X) → map f (xs ++ ys) ≡ map f xs ++ map f ys
map_append f [] ys = refl
map_append f (x ∷ xs) ys = ap (λ l. f x ∷ l) (map_append f xs ys)

pub map_length : {X Y : Type 0} (f : X → Y) (xs : List X) → length (map f xs) ≡ length xs
map_length f [] = refl
map_length f (x ∷ xs) = ap suc (map_length f xs)

pub length_more : {X : Type 0} (xs : List X) (y : X) → length (xs ++ y ∷ []) ≡ suc (length xs)
length_more [] y = refl
length_more (x ∷ xs) y = ap suc (length_more xs y)

-- what is read of a value that is there
pub some_mapped : {X Y : Type 0} (f : X → Y) (o : Option X) (y : Y) → option_map f o ≡ Some y → (x : X) × (o ≡ Some x) × (f x ≡ y)
some_mapped f None y e = absurd cc
some_mapped f (Some x) y e = (x, refl, some_same e)

-- what is read of the first elements
pub taken_get : {X : Type 0} (k n : ℕ) (xs ys : List X) → k < n → take n xs ≡ ys → slice_get xs k ≡ slice_get ys k
taken_get k zero xs ys lt e = absurd (omega arith)
taken_get zero (suc n) [] ys lt e = ap (λ l. slice_get l 0) e
taken_get zero (suc n) (x ∷ xs) ys lt e = ap (λ l. slice_get l 0) e
taken_get (suc k) (suc n) [] ys lt e = ap (λ l. slice_get l (suc k)) e
taken_get (suc k) (suc n) (x ∷ xs) [] lt e = absurd cc
taken_get (suc k) (suc n) (x ∷ xs) (y ∷ ys) lt e = taken_get k n xs ys (omega arith) (cc)
