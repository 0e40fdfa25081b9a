-- Owners by their numbers, where some of them are those of a list.
use Rattle.std.proofs.Common.{◌≡◌, ◌<◌, ℕ, zero, suc, ◌+◌, List, [], ◌∷◌, ◌++◌, map, take, drop, length, get_or, refl, sym, ap, ◌∙◌, Some, arith}
use Rattle.std.specs.Prelude.{slice_get}
use Rattle.wy_symbols.proofs.Finding.{get_take}

get_drop : {X : Type 0} (k i : ℕ) (xs : List X) → slice_get (drop k xs) i ≡ slice_get xs (k + i)
get_drop {X} zero i xs = (let e : i ≡ 0 + i = omega arith in ap (λ (j : ℕ). slice_get xs j) e)
get_drop (suc k) i [] = refl
get_drop {X} (suc k) i (x ∷ xs) = (let e : suc (k + i) ≡ suc k + i = omega arith in get_drop k i xs ∙ ap (λ (j : ℕ). slice_get (x ∷ xs) j) e)

get_map : {X Y : Type 0} (f : X → Y) (xs : List X) (i : ℕ) (x : X) → i < length xs → x ≡ get_or xs i x → slice_get (map f xs) i ≡ Some (f x)
get_map f [] i x lt at = absurd (omega arith)
get_map f (y ∷ xs) zero x lt at = ap (λ z. Some (f z)) (sym at)
get_map f (y ∷ xs) (suc i) x lt at = get_map f xs i x (omega arith) at

-- from a number on
pub at_place : {X Y : Type 0} (f : X → Y) (os : List Y) (xs : List X) (k i : ℕ) (x : X) → take (length xs) (drop k os) ≡ map f xs → i < length xs → x ≡ get_or xs i x → slice_get os (k + i) ≡ Some (f x)
at_place f os xs k i x is lt at =
    sym (get_drop k i os) ∙ sym (get_take (length xs) i (drop k os) lt) ∙ ap (λ l. slice_get l i) is ∙ get_map f xs i x lt at

-- from the first on
pub at_first : {X Y : Type 0} (f : X → Y) (os : List Y) (xs : List X) (i : ℕ) (x : X) → take (length xs) os ≡ map f xs → i < length xs → x ≡ get_or xs i x → slice_get os i ≡ Some (f x)
at_first f os xs i x is lt at = sym (get_take (length xs) i os lt) ∙ ap (λ l. slice_get l i) is ∙ get_map f xs i x lt at

-- the first ones, with one more
pub take_next : {X : Type 0} (xs : List X) (n : ℕ) (x : X) → slice_get xs n ≡ Some x → take (n + 1) xs ≡ take n xs ++ x ∷ []
take_next [] n x h = cc
take_next {X} (y ∷ xs) zero x h = (let e : y ≡ x = cc in ap (λ (z : X). z ∷ []) e)
take_next {X} (y ∷ xs) (suc n) x h = (let e : suc n + 1 ≡ suc (n + 1) = omega arith in ap (λ k. take k (y ∷ xs)) e ∙ ap (λ l. y ∷ l) (take_next xs n x h))
