-- Lists that go on: what is read of the first part stays, and one more element.
use Rattle.std.proofs.Common.{◌≡◌, ℕ, zero, suc, ◌+◌, ◌<◌, ◌≤◌, List, [], ◌∷◌, ◌++◌, ◌⊎◌, inl, inr, length, refl, sym, ap, ◌∙◌, arith, Some, append_assoc, append-nil, length-append}
use Rattle.std.specs.Prelude.{slice_get, slice_index_or}
use Rattle.wy_text.specs.Members.{In, Apart}
use Rattle.wy_text.proofs.Lists.{length-apart}

-- the second list goes on from the first
abbrev pub GoesOn : {X : Type 0} → List X → List X → Type 0
GoesOn {X} xs ys = (more : List X) × (ys ≡ xs ++ more)

pub goes_on_same : {X : Type 0} (xs : List X) → GoesOn xs xs
goes_on_same xs = ([], sym (append-nil xs))

pub goes_on_more : {X : Type 0} (xs ys : List X) → GoesOn xs (xs ++ ys)
goes_on_more xs ys = (ys, refl)

pub goes_on_further : {X : Type 0} (xs ys zs : List X) → GoesOn xs ys → GoesOn ys zs → GoesOn xs zs
goes_on_further xs ys zs g h = (g.0 ++ h.0, h.1 ∙ ap (λ l. l ++ h.0) g.1 ∙ append_assoc xs g.0 h.0)

pub length_goes_on : {X : Type 0} (xs ys : List X) → GoesOn xs ys → length xs ≤ length ys
length_goes_on xs ys g = rw g.1 (simp length-append (omega arith))

pub read_first : {X : Type 0} (xs ys : List X) (k : ℕ) (x : X) → slice_get xs k ≡ Some x → slice_get (xs ++ ys) k ≡ Some x
read_first [] ys k x e = absurd (cc)
read_first (y ∷ xs) ys zero x e = e
read_first (y ∷ xs) ys (suc k) x e = read_first xs ys k x e

pub read_on : {X : Type 0} (xs ys : List X) (k : ℕ) (x : X) → GoesOn xs ys → slice_get xs k ≡ Some x → slice_get ys k ≡ Some x
read_on xs ys k x g e = ap (λ l. slice_get l k) g.1 ∙ read_first xs g.0 k x e

pub read_next : {X : Type 0} (xs ys : List X) (x : X) → slice_get (xs ++ x ∷ ys) (length xs) ≡ Some x
read_next [] ys x = refl
read_next (y ∷ xs) ys x = read_next xs ys x

pub read_within : {X : Type 0} (xs : List X) (k : ℕ) (x : X) → slice_get xs k ≡ Some x → k < length xs
read_within [] k x e = absurd (cc)
read_within (y ∷ xs) zero x e = omega arith
read_within (y ∷ xs) (suc k) x e = let h = read_within xs k x e in omega (arith, h)

pub read_there : {X : Type 0} (xs : List X) (k : ℕ) → k < length xs → (x : X) × (slice_get xs k ≡ Some x)
read_there [] k h = absurd (omega arith)
read_there (x ∷ xs) zero h = (x, refl)
read_there (x ∷ xs) (suc k) h = read_there xs k (omega arith)

-- an element of a list with one more is one of the list, or the new one
pub read_last : {X : Type 0} (xs : List X) (y : X) (k : ℕ) (x : X) → slice_get (xs ++ y ∷ []) k ≡ Some x →
    (slice_get xs k ≡ Some x) ⊎ ((k ≡ length xs) × (y ≡ x))
read_last [] y zero x e = inr (refl, cc)
read_last [] y (suc k) x e = absurd (cc)
read_last (z ∷ xs) y zero x e = inl e
read_last (z ∷ xs) y (suc k) x e = elim (read_last xs y k x e) [ inl f ↦ inl f | inr f ↦ inr (ap suc f.0, f.1) ]

pub or_first : {X : Type 0} (xs ys : List X) (k : ℕ) (d : X) → k < length xs → slice_index_or (xs ++ ys) k d ≡ slice_index_or xs k d
or_first [] ys k d h = absurd (omega arith)
or_first (x ∷ xs) ys zero d h = refl
or_first (x ∷ xs) ys (suc k) d h = or_first xs ys k d (omega arith)

-- what is read before the end of the first list, and behind it
pub read_before : {X : Type 0} (xs ys : List X) (k : ℕ) → k < length xs → slice_get (xs ++ ys) k ≡ slice_get xs k
read_before [] ys k h = absurd (omega arith)
read_before (x ∷ xs) ys zero h = refl
read_before (x ∷ xs) ys (suc k) h = read_before xs ys k (omega arith)

pub read_behind : {X : Type 0} (xs ys : List X) (k j : ℕ) → k ≡ length xs + j → slice_get (xs ++ ys) k ≡ slice_get ys j
read_behind [] ys k j e = ap (slice_get ys) (omega (arith, e))
read_behind (x ∷ xs) ys zero j e = absurd (omega (arith, e))
read_behind (x ∷ xs) ys (suc k) j e = read_behind xs ys k j (omega (arith, e))

pub or_behind : {X : Type 0} (xs ys : List X) (k j : ℕ) (d : X) → k ≡ length xs + j → slice_index_or (xs ++ ys) k d ≡ slice_index_or ys j d
or_behind [] ys k j d e = ap (λ i. slice_index_or ys i d) (omega (arith, e))
or_behind (x ∷ xs) ys zero j d e = absurd (omega (arith, e))
or_behind (x ∷ xs) ys (suc k) j d e = or_behind xs ys k j d (omega (arith, e))

-- a number is below another or at or behind it
pub before_or_behind : (k n : ℕ) → (k < n) ⊎ ((j : ℕ) × (k ≡ n + j))
before_or_behind k zero = inr (k, omega arith)
before_or_behind zero (suc n) = inl (omega arith)
before_or_behind (suc k) (suc n) = elim (before_or_behind k n) [ inl h ↦ inl (omega (arith, h)) | inr h ↦ inr (h.0, omega (arith, h.1)) ]

-- numbers below n that differ are at most n
numbers : ℕ → List ℕ
numbers zero = []
numbers (suc n) = n ∷ numbers n

In-numbers : (n k : ℕ) → k < n → In k (numbers n)
unfolding numbers
In-numbers zero k h = absurd (omega arith)
In-numbers (suc n) k h = elim (cases k n h) [ inl e ↦ inl e | inr g ↦ inr (In-numbers n k g) ]
  where
    cases : (k n : ℕ) → k < suc n → (n ≡ k) ⊎ (k < n)
    cases k n h = grind arith

length_numbers : (n : ℕ) → length (numbers n) ≡ n
unfolding numbers
length_numbers zero = refl
length_numbers (suc n) = ap suc (length_numbers n)

pub few_numbers : (n : ℕ) (ks : List ℕ) → Apart ks → ((k : ℕ) → In k ks → k < n) → length ks ≤ n
few_numbers n ks d h = let le = length-apart ks (numbers n) d (λ k i. In-numbers n k (h k i)) in omega (arith, le, length_numbers n)
