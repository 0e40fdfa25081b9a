-- Reads by place under `++` and `map`.
use Rattle.std.proofs.Common.{◌≡◌, ℕ, zero, suc, ◌<◌, ◌≤◌, List, [], ◌∷◌, ◌++◌, map, ◌⊎◌, inl, inr, length, refl, ap, arith, Some}
use Rattle.std.specs.Prelude.{slice_get}
use Rattle.wy_text.specs.Members.{In}

pub slice_get-left : {X : Type 0} (xs ys : List X) (k : ℕ) (x : X) → slice_get xs k ≡ Some x → slice_get (xs ++ ys) k ≡ Some x
slice_get-left [] ys k x e = absurd (cc)
slice_get-left (y ∷ xs) ys zero x e = e
slice_get-left (y ∷ xs) ys (suc k) x e = slice_get-left xs ys k x e

pub slice_get-push : {X : Type 0} (xs : List X) (y : X) (k : ℕ) (x : X) → slice_get (xs ++ y ∷ []) k ≡ Some x → (slice_get xs k ≡ Some x) ⊎ ((k ≡ length xs) × (y ≡ x))
slice_get-push [] y zero x e = inr (refl, cc)
slice_get-push [] y (suc k) x e = absurd (cc)
slice_get-push (z ∷ xs) y zero x e = inl e
slice_get-push (z ∷ xs) y (suc k) x e =
    elim (slice_get-push xs y k x e) [ inl f ↦ inl f | inr f ↦ inr (ap suc f.0, f.1) ]

-- what stands in a longer list stands in the first part or behind it
pub slice_get-cases : {X : Type 0} (xs ys : List X) (k : ℕ) (x : X) → slice_get (xs ++ ys) k ≡ Some x → (slice_get xs k ≡ Some x) ⊎ ((length xs ≤ k) × In x ys)
slice_get-cases [] [] k x e = absurd (cc)
slice_get-cases [] (y ∷ ys) zero x e = inr (omega arith, inl (cc))
slice_get-cases [] (y ∷ ys) (suc k) x e =
    elim (slice_get-cases [] ys k x e) [ inl f ↦ absurd (cc) | inr f ↦ inr (omega arith, inr f.1) ]
slice_get-cases (z ∷ xs) ys zero x e = inl e
slice_get-cases (z ∷ xs) ys (suc k) x e =
    elim (slice_get-cases xs ys k x e) [ inl f ↦ inl f | inr f ↦ inr (omega (arith, f.0), f.1) ]

pub slice_get-within : {X : Type 0} (xs : List X) (k : ℕ) → k < length xs → (x : X) × (slice_get xs k ≡ Some x)
slice_get-within [] k h = absurd (omega arith)
slice_get-within (x ∷ xs) zero h = (x, refl)
slice_get-within (x ∷ xs) (suc k) h = slice_get-within xs k (omega arith)

pub slice_get-mapped : {X Y : Type 0} (f : X → Y) (xs : List X) (k : ℕ) (x : X) → slice_get xs k ≡ Some x → slice_get (map f xs) k ≡ Some (f x)
slice_get-mapped f [] k x e = absurd (cc)
slice_get-mapped f (y ∷ xs) zero x e = let g : y ≡ x = cc in ap (λ v. Some (f v)) g
slice_get-mapped f (y ∷ xs) (suc k) x e = slice_get-mapped f xs k x e

-- what stands in a mapped list is what an element is mapped to
pub slice_get-unmapped : {X Y : Type 0} (f : X → Y) (xs : List X) (k : ℕ) (y : Y) → slice_get (map f xs) k ≡ Some y → (x : X) × (slice_get xs k ≡ Some x) × (f x ≡ y)
slice_get-unmapped f [] k y e = absurd (cc)
slice_get-unmapped f (x ∷ xs) zero y e = (x, refl, cc)
slice_get-unmapped f (x ∷ xs) (suc k) y e = slice_get-unmapped f xs k y e

pub last_at : {X : Type 0} (xs : List X) (x : X) → slice_get (xs ++ x ∷ []) (length xs) ≡ Some x
last_at [] x = refl
last_at (y ∷ xs) x = last_at xs x
