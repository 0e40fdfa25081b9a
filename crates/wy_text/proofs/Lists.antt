-- Membership under `++`, `map` and reads by index, and how many elements a list without repeats can have.
use Rattle.std.proofs.Common.{◌≡◌, ℕ, zero, suc, ◌+◌, ◌<◌, ◌≤◌, List, [], ◌∷◌, ◌++◌, map, ◌⊎◌, inl, inr, length, get_or, take, Some, refl, sym, ap, ◌∙◌, subst, arith}
use Rattle.std.specs.Prelude.{slice_get}
use Rattle.std.proofs.lemmas.List.{take_more, take_all}
use Rattle.wy_text.specs.Members.{In, Within, Apart}

pub In-get : {X : Type 0} (xs : List X) (k : ℕ) (d : X) → k < length xs → In (get_or xs k d) xs
In-get [] k d h = absurd (omega arith)
In-get (x ∷ xs) zero d h = inl refl
In-get (x ∷ xs) (suc k) d h = inr (In-get xs k d (omega arith))

pub In-read : {X : Type 0} (xs : List X) (k : ℕ) (d x : X) → k < length xs → x ≡ get_or xs k d → In x xs
In-read {X} xs k d x h e = let P : X → Type 0 = λ y. In y xs in subst P (sym e) (In-get xs k d h)

pub In-slice_get : {X : Type 0} (xs : List X) (k : ℕ) (x : X) → slice_get xs k ≡ Some x → In x xs
In-slice_get [] k x e = cc
In-slice_get (y ∷ xs) zero x e = inl (cc)
In-slice_get (y ∷ xs) (suc k) x e = inr (In-slice_get xs k x e)

-- an element stands at some place
pub In-at : {X : Type 0} (x : X) (xs : List X) → In x xs → (k : ℕ) × (k < length xs) × (slice_get xs k ≡ Some x)
In-at x [] h = absurd h
In-at x (y ∷ xs) (inl e) = (0, omega arith, ap (λ v. Some v) e)
In-at x (y ∷ xs) (inr h) = let r = In-at x xs h in (suc r.0, omega (arith, r.1), r.2)

pub In-left : {X : Type 0} (x : X) (xs ys : List X) → In x xs → In x (xs ++ ys)
In-left x [] ys h = absurd h
In-left x (y ∷ xs) ys (inl e) = inl e
In-left x (y ∷ xs) ys (inr h) = inr (In-left x xs ys h)

pub In-right : {X : Type 0} (x : X) (xs ys : List X) → In x ys → In x (xs ++ ys)
In-right x [] ys h = h
In-right x (y ∷ xs) ys h = inr (In-right x xs ys h)

pub In-cases : {X : Type 0} (x : X) (xs ys : List X) → In x (xs ++ ys) → In x xs ⊎ In x ys
In-cases x [] ys h = inr h
In-cases x (y ∷ xs) ys (inl e) = inl (inl e)
In-cases x (y ∷ xs) ys (inr h) = elim (In-cases x xs ys h) [ inl g ↦ inl (inr g) | inr g ↦ inr g ]

pub In-push : {X : Type 0} (x : X) (xs : List X) → In x (xs ++ x ∷ [])
In-push x xs = In-right x xs (x ∷ []) (inl refl)

pub In-map : {X Y : Type 0} (f : X → Y) (x : X) (xs : List X) → In x xs → In (f x) (map f xs)
In-map f x [] h = absurd h
In-map f x (y ∷ xs) (inl e) = inl (ap f e)
In-map f x (y ∷ xs) (inr h) = inr (In-map f x xs h)

-- what is in a mapped list comes from an element
pub In-unmap : {X Y : Type 0} (f : X → Y) (y : Y) (xs : List X) → In y (map f xs) → (x : X) × In x xs × (f x ≡ y)
In-unmap f y [] h = absurd h
In-unmap f y (x ∷ xs) (inl e) = (x, inl refl, e)
In-unmap f y (x ∷ xs) (inr h) = let r = In-unmap f y xs h in (r.0, inr r.1, r.2)

-- the list without the element at a place
removed : {X : Type 0} (x : X) (xs : List X) → In x xs → List X
removed x [] h = []
removed x (y ∷ xs) (inl e) = xs
removed x (y ∷ xs) (inr h) = y ∷ removed x xs h

length-removed : {X : Type 0} (x : X) (xs : List X) (h : In x xs) → length xs ≡ suc (length (removed x xs h))
unfolding removed
length-removed x [] h = absurd h
length-removed x (y ∷ xs) (inl e) = refl
length-removed x (y ∷ xs) (inr h) = ap suc (length-removed x xs h)

In-removed : {X : Type 0} (x z : X) (xs : List X) (h : In x xs) → (x ≡ z → ⊥) → In z xs → In z (removed x xs h)
unfolding removed
In-removed x z [] h ne g = absurd h
In-removed x z (y ∷ xs) (inl e) ne (inl f) = absurd (ne (sym e ∙ f))
In-removed x z (y ∷ xs) (inl e) ne (inr g) = g
In-removed x z (y ∷ xs) (inr h) ne (inl f) = inl f
In-removed x z (y ∷ xs) (inr h) ne (inr g) = inr (In-removed x z xs h ne g)

-- elements apart, each among ys, are at most as many as ys
pub length-apart : {X : Type 0} (xs ys : List X) → Apart xs → Within xs ys → length xs ≤ length ys
length-apart [] ys d w = omega arith
length-apart {X} (x ∷ xs) ys d w =
    let hx : In x ys = w x (inl refl) in
    let ih : length xs ≤ length (removed x ys hx) =
    length-apart xs (removed x ys hx) d.1
    (λ z hz. In-removed x z ys hx (λ e. d.0 (let P : X → Type 0 = λ v. In v xs in subst P (sym e) hz)) (w z (inr hz))) in
    omega (arith, length-removed x ys hx)

pub Apart-push : {X : Type 0} (x : X) (xs : List X) → Apart xs → (In x xs → ⊥) → Apart (xs ++ x ∷ [])
Apart-push x [] d n = (λ h. absurd h, tt)
Apart-push x (y ∷ xs) d n = (
  λ h. elim (In-cases y xs (x ∷ []) h) [ inl g ↦ d.0 g | inr g ↦ elim g [ inl e ↦ n (inl (sym e)) | inr g ↦ absurd g ] ],
  Apart-push x xs d.1 (λ h. n (inr h)),
)

-- a loop over a list, by what holds of each element so far
pub In-take-more : {X : Type 0} (x : X) (xs : List X) (i : ℕ) (d : X) → i < length xs → In x (take (i + 1) xs) → In x (take i xs) ⊎ (get_or xs i d ≡ x)
In-take-more {X} x xs i d lt h =
    let P : List X → Type 0 = λ l. In x l in
    elim (In-cases x (take i xs) (get_or xs i d ∷ []) (subst P (take_more xs i d lt) h)) [
      | inl g ↦ inl g
      | inr g ↦ elim g [ inl e ↦ inr e | inr f ↦ absurd f ]
    ]

pub each_more : {X : Type 0} (P : X → Type 0) (xs : List X) (i : ℕ) (d : X) → i < length xs → ((x : X) → In x (take i xs) → P x) → P (get_or xs i d) → (x : X) → In x (take (i + 1) xs) → P x
each_more P xs i d lt h p x g =
    elim (In-take-more x xs i d lt g) [ inl f ↦ h x f | inr e ↦ subst P e p ]

pub each_all : {X : Type 0} (P : X → Type 0) (xs : List X) (n : ℕ) → length xs ≤ n → ((x : X) → In x (take n xs) → P x) → (x : X) → In x xs → P x
each_all {X} P xs n le h x g = h x (let Q : List X → Type 0 = λ l. In x l in subst Q (sym (take_all n xs le)) g)
