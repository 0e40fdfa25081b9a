-- The instances' objects stand through a run, and have their first values again in the next.
use Rattle.std.proofs.Common.{◌≡◌, ℕ, zero, suc, ◌<◌, ◌≤◌, List, [], ◌∷◌, ◌++◌, length, take, set, Some, refl, sym, ap, ap₂, ◌∙◌, arith}
use Rattle.std.specs.Prelude.{slice_get, IsSome}
use Rattle.std.proofs.lemmas.Option.{same_Some}
use Rattle.wy_code.specs.Stores.{Word, Thing, value_in}
use Rattle.wy_machine.specs.StoreStates.{AreKept}

pub kept_all_same : (xs : List Thing) → AreKept xs xs
kept_all_same [] = tt
kept_all_same (x ∷ xs) = (refl, refl, refl, kept_all_same xs)

-- more objects leave the first ones
pub kept_before : (xs ys zs : List Thing) → AreKept xs ys → AreKept xs (ys ++ zs)
kept_before [] ys zs h = tt
kept_before (x ∷ xs) [] zs h = absurd h
kept_before (x ∷ xs) (y ∷ ys) zs h = (h.0, h.1, h.2, kept_before xs ys zs h.3)

-- no fewer than at first
pub kept_all : (xs ys : List Thing) → AreKept xs ys → length xs ≤ length ys
kept_all [] ys h = omega arith
kept_all (x ∷ xs) [] h = absurd h
kept_all (x ∷ xs) (y ∷ ys) h = let all = kept_all xs ys h.3 in omega (arith, all)

pub kept_taken : (xs ys : List Thing) (n : ℕ) → length xs ≤ n → AreKept xs ys → AreKept xs (take n ys)
kept_taken [] ys n le h = tt
kept_taken (x ∷ xs) [] n le h = absurd h
kept_taken (x ∷ xs) (y ∷ ys) zero le h = absurd (omega (arith, le))
kept_taken (x ∷ xs) (y ∷ ys) (suc n) le h = let fewer : length xs ≤ n = omega (arith, le) in (h.0, h.1, h.2, kept_taken xs ys n fewer h.3)

-- an object that has a value is there
pub object_within : (ys : List Thing) (a i : ℕ) → IsSome (value_in (slice_get ys a) i) → a < length ys
object_within [] a i h = cc
object_within (y ∷ ys) zero i h = omega arith
object_within (y ∷ ys) (suc a) i h = let later = object_within ys a i h in omega (arith, later)

-- an object stays, with other values as many as before
pub kept_set : (xs ys : List Thing) (a : ℕ) (y : Thing) (vs : List Word) → AreKept xs ys → slice_get ys a ≡ Some y → length vs ≡ length y.values → AreKept xs (set ys a (record y { values = vs }))
kept_set [] ys a y vs h e n = tt
kept_set (x ∷ xs) [] a y vs h e n = absurd h
kept_set (x ∷ xs) (z ∷ ys) zero y vs h e n =
    let same : z ≡ y = same_Some z y e in
    (sym (ap (λ (t : Thing). t.instance) same) ∙ h.0, sym (ap (λ (t : Thing). t.literal) same) ∙ h.1, n ∙ sym (ap (λ (t : Thing). length t.values) same) ∙ h.2, h.3)
kept_set (x ∷ xs) (z ∷ ys) (suc a) y vs h e n = (h.0, h.1, h.2, kept_set xs ys a y vs h.3 e n)

------------------------------------------------------------
-- One object after the other

-- the first n objects are as at first again, and the others stand
abbrev pub AreRefilled : ℕ → List Thing → List Thing → Type 0
AreRefilled n [] ys = ys ≡ []
AreRefilled n (x ∷ xs) [] = ⊥
AreRefilled zero (x ∷ xs) (y ∷ ys) = (y.instance ≡ x.instance) × (y.literal ≡ x.literal) × (length y.values ≡ length x.values) × AreRefilled zero xs ys
AreRefilled (suc n) (x ∷ xs) (y ∷ ys) = (y ≡ x) × AreRefilled n xs ys

pub none_refilled : (xs ys : List Thing) → AreKept xs ys → length ys ≤ length xs → AreRefilled 0 xs ys
none_refilled [] [] h le = refl
none_refilled [] (y ∷ ys) h le = absurd (omega (arith, le))
none_refilled (x ∷ xs) [] h le = absurd h
none_refilled (x ∷ xs) (y ∷ ys) h le = let fewer : length ys ≤ length xs = omega (arith, le) in (h.0, h.1, h.2, none_refilled xs ys h.3 fewer)

pub as_many : (n : ℕ) (xs ys : List Thing) → AreRefilled n xs ys → length ys ≡ length xs
as_many n [] ys h = ap length h
as_many n (x ∷ xs) [] h = absurd h
as_many zero (x ∷ xs) (y ∷ ys) h = ap suc (as_many zero xs ys h.3)
as_many (suc n) (x ∷ xs) (y ∷ ys) h = ap suc (as_many n xs ys h.1)

pub all_refilled : (n : ℕ) (xs ys : List Thing) → AreRefilled n xs ys → length xs ≤ n → ys ≡ xs
all_refilled n [] ys h le = h
all_refilled n (x ∷ xs) [] h le = absurd h
all_refilled zero (x ∷ xs) (y ∷ ys) h le = absurd (omega (arith, le))
all_refilled (suc n) (x ∷ xs) (y ∷ ys) h le = let fewer : length xs ≤ n = omega (arith, le) in ap₂ (λ z zs. z ∷ zs) h.0 (all_refilled n xs ys h.1 fewer)

pub same_size : (n : ℕ) (xs ys : List Thing) (x y : Thing) → AreRefilled n xs ys → slice_get xs n ≡ Some x → slice_get ys n ≡ Some y → length y.values ≡ length x.values
same_size n [] ys x y h e f = cc
same_size n (z ∷ xs) [] x y h e f = absurd h
same_size zero (z ∷ xs) (v ∷ ys) x y h e f =
    sym (ap (λ (t : Thing). length t.values) (same_Some v y f)) ∙ h.2 ∙ ap (λ (t : Thing). length t.values) (same_Some z x e)
same_size (suc n) (z ∷ xs) (v ∷ ys) x y h e f = same_size n xs ys x y h.1 e f

thing : (instance literal : ℕ) (values : List Word) → Thing
thing instance literal values = record { instance = instance; literal = literal; values = values }

pub one_refilled : (n : ℕ) (xs ys : List Thing) (x y : Thing) → AreRefilled n xs ys → slice_get xs n ≡ Some x → slice_get ys n ≡ Some y → AreRefilled (suc n) xs (set ys n (record y { values = x.values }))
unfolding thing
one_refilled n [] ys x y h e f = cc
one_refilled n (z ∷ xs) [] x y h e f = absurd h
one_refilled zero (z ∷ xs) (v ∷ ys) x y h e f =
    let a = same_Some z x e in
    let b = same_Some v y f in
    (ap₂ (λ i l. thing i l x.values) (sym (ap (λ (t : Thing). t.instance) b) ∙ h.0) (sym (ap (λ (t : Thing). t.literal) b) ∙ h.1) ∙ ap (thing z.instance z.literal) (sym (ap (λ (t : Thing). t.values) a)), h.3)
one_refilled (suc n) (z ∷ xs) (v ∷ ys) x y h e f = (h.0, one_refilled n xs ys x y h.1 e f)
