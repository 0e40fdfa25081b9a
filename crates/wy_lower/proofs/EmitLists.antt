-- Lists, read from a place on.
use Rattle.std.proofs.Common.{◌≡◌, ◌≤◌, ◌<◌, ℕ, zero, suc, ◌+◌, ◌-◌, List, [], ◌∷◌, ◌++◌, length, map, take, drop, get_or, refl, sym, ap, ◌∙◌, arith}
use Rattle.std.specs.Prelude.{slice_get, Some}
use Rattle.wy_code.specs.declared.code.Source.TheVariants.{Value}
use Rattle.wy_lower.specs.Inside.{own_sources}
use Rattle.std.proofs.lemmas.List.{take_more, at_drop_more, at_drop_all}

-- what is read below the end is the same for every default
pub read_any : {X : Type 0} (xs : List X) (i : ℕ) (d e : X) → i < length xs → get_or xs i d ≡ get_or xs i e
read_any [] i d e lt = absurd (omega arith)
read_any (x ∷ xs) zero d e lt = refl
read_any (x ∷ xs) (suc i) d e lt = read_any xs i d e (omega arith)

-- the element at a place, and those after it
pub split_at : {X : Type 0} (xs : List X) (i : ℕ) (x : X) → i < length xs → x ≡ get_or xs i x → drop i xs ≡ x ∷ drop (i + 1) xs
split_at xs i x lt at = at_drop_more (λ l. l) xs i x lt ∙ ap (λ y. y ∷ drop (i + 1) xs) (sym at)

pub drop_all : {X : Type 0} (xs : List X) (i : ℕ) → length xs ≤ i → drop i xs ≡ []
drop_all xs i le = at_drop_all (λ l. l) xs i le

-- an item that is there
pub read_item : {X : Type 0} (xs : List X) (i : ℕ) (x : X) → slice_get xs i ≡ Some x → x ≡ get_or xs i x
read_item [] i x e = cc
read_item (y ∷ xs) zero x e = cc
read_item (y ∷ xs) (suc i) x e = read_item xs i x e

-- the values of own names from one that is there on
pub own_more : (k n : ℕ) → k < n → own_sources k (n - k) ≡ Value k ∷ own_sources (k + 1) (n - (k + 1))
own_more k n lt = (let z : n - k ≡ suc (n - (k + 1)) = omega arith in ap (own_sources k) z)

map_end : {X Y : Type 0} (f : X → Y) (xs : List X) (x : X) → map f (xs ++ x ∷ []) ≡ map f xs ++ f x ∷ []
map_end f [] x = refl
map_end f (y ∷ ys) x = ap (λ l. f y ∷ l) (map_end f ys x)

-- one item more
pub taken_more : {X Y : Type 0} (f : X → Y) (xs : List X) (i : ℕ) (x : X) → i < length xs → x ≡ get_or xs i x → map f (take (i + 1) xs) ≡ map f (take i xs) ++ f x ∷ []
taken_more f xs i x lt at = ap (map f) (take_more xs i x lt) ∙ ap (λ y. map f (take i xs ++ y ∷ [])) (sym at) ∙ map_end f (take i xs) x

pub length_mapped : {X Y : Type 0} (f : X → Y) (xs : List X) → length (map f xs) ≡ length xs
length_mapped f [] = refl
length_mapped f (x ∷ xs) = ap suc (length_mapped f xs)

-- there is an item below the end
pub there_is : {X : Type 0} (xs : List X) (i : ℕ) → i < length xs → (x : X) × (slice_get xs i ≡ Some x)
there_is [] i lt = absurd (omega arith)
there_is (x ∷ xs) zero lt = (x, refl)
there_is (x ∷ xs) (suc i) lt = there_is xs i (omega arith)

pub mapped_item : {X Y : Type 0} (f : X → Y) (xs : List X) (i : ℕ) (x : X) (y : Y) → slice_get (map f xs) i ≡ Some y → i < length xs → x ≡ get_or xs i x → y ≡ f x
mapped_item f [] i x y e lt at = absurd (omega arith)
mapped_item f (z ∷ zs) zero x y e lt at = (let h : f z ≡ y = cc in sym h ∙ ap f (sym at))
mapped_item f (z ∷ zs) (suc i) x y e lt at = mapped_item f zs i x y e (omega arith) at

-- one item more that is the default
pub default_more : {X : Type 0} (xs : List X) (d : X) (i : ℕ) → get_or xs i d ≡ d → get_or (xs ++ d ∷ []) i d ≡ d
default_more [] d zero e = refl
default_more [] d (suc i) e = refl
default_more (x ∷ xs) d zero e = e
default_more (x ∷ xs) d (suc i) e = default_more xs d i e
