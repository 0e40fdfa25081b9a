-- Lists of all candidates: all sets below a number, all lists of a length, all pairs.
use Rattle.std.proofs.Common.{◌≡◌, ℕ, zero, suc, ◌+◌, ◌*◌, ◌^◌, List, [], ◌∷◌, ◌++◌, map, inl, inr, length, refl, sym, ap, ap₂, ◌∙◌, subst, arith, length-append}
use Rattle.std.proofs.Math.Nat.{pow-zero, pow-succ', zero-mul, suc-mul, add_comm}
use Rattle.std.proofs.lemmas.Bool.{cases_lt}
use Rattle.std.proofs.Math.ListN.{length-map}
use Rattle.wy_text.specs.Members.{In, Within}
use Rattle.wy_effects.specs.EffSet.{IsSetFrom}
use Rattle.wy_text.proofs.Lists.{In-left, In-right, In-map}

-- all sets of atoms from k on and below k + n
pub sets_from : ℕ → ℕ → List (List ℕ)
sets_from k zero = [] ∷ []
sets_from k (suc n) = sets_from (k + 1) n ++ map (λ s. k ∷ s) (sets_from (k + 1) n)

pub In-sets_from : (k n m : ℕ) (xs : List ℕ) → m ≡ k + n → IsSetFrom k m xs → In xs (sets_from k n)
unfolding sets_from
In-sets_from k zero m [] e s = inl refl
In-sets_from k zero m (x ∷ xs) e s = absurd (omega arith)
In-sets_from k (suc n) m [] e s = In-left [] (sets_from (k + 1) n) (map (λ s. k ∷ s) (sets_from (k + 1) n)) (In-sets_from (k + 1) n m [] (omega arith) tt)
In-sets_from k (suc n) m (x ∷ xs) e s =
    elim (cases_lt k x) [
      | inl lt ↦ In-left (x ∷ xs) (sets_from (k + 1) n) (map (λ s. k ∷ s) (sets_from (k + 1) n)) (In-sets_from (k + 1) n m (x ∷ xs) (omega arith) (omega arith, s.1, s.2))
      | inr le ↦
          let e' : k ≡ x = omega arith in
          let P : ℕ → Type 0 = λ j. In (x ∷ xs) (sets_from (k + 1) n ++ map (λ s. j ∷ s) (sets_from (k + 1) n)) in
          let Q : ℕ → Type 0 = λ j. IsSetFrom (j + 1) m xs in
          subst P (sym e') (In-right (x ∷ xs) (sets_from (k + 1) n) (map (λ s. x ∷ s) (sets_from (k + 1) n))
          (In-map (λ s. x ∷ s) xs (sets_from (k + 1) n) (In-sets_from (k + 1) n m xs (omega arith) (subst Q (sym e') s.2))))
    ]

-- there are two to the number of atoms
pub length-sets_from : (k n : ℕ) → length (sets_from k n) ≡ 2 ^ n
unfolding sets_from
length-sets_from k zero = refl
length-sets_from k (suc n) =
    let rest = length-sets_from (k + 1) n in
    let both : length (sets_from k (suc n)) ≡ length (sets_from (k + 1) n) + length (map (λ s. k ∷ s) (sets_from (k + 1) n)) =
    length-append (sets_from (k + 1) n) (map (λ s. k ∷ s) (sets_from (k + 1) n)) in
    let same : length (map (λ s. k ∷ s) (sets_from (k + 1) n)) ≡ length (sets_from (k + 1) n) = length-map (sets_from (k + 1) n) (λ s. k ∷ s) in
    let power : 2 ^ suc n ≡ 2 * 2 ^ n = pow-succ' 2 n in
    omega (arith, rest, both, same, power)

-- each of xs before each of ys
pub joined : {X : Type 0} → List X → List (List X) → List (List X)
joined [] ys = []
joined (x ∷ xs) ys = map (λ y. x ∷ y) ys ++ joined xs ys

-- all lists of n elements of xs
pub tuples : {X : Type 0} → ℕ → List X → List (List X)
tuples zero xs = [] ∷ []
tuples (suc n) xs = joined xs (tuples n xs)

length-joined : {X : Type 0} (xs : List X) (ys : List (List X)) → length (joined xs ys) ≡ length xs * length ys
unfolding joined
length-joined [] ys = sym (zero-mul (length ys))
length-joined (x ∷ xs) ys =
    length-append (map (λ y. x ∷ y) ys) (joined xs ys) ∙ ap₂ (λ m n. m + n) (length-map ys (λ y. x ∷ y)) (length-joined xs ys) ∙
    add_comm (length ys) (length xs * length ys) ∙ sym (suc-mul (length xs) (length ys))

pub length-tuples : {X : Type 0} (n : ℕ) (xs : List X) → length (tuples n xs) ≡ length xs ^ n
unfolding tuples
length-tuples zero xs = sym (pow-zero (length xs))
length-tuples (suc n) xs = length-joined xs (tuples n xs) ∙ ap (λ m. length xs * m) (length-tuples n xs) ∙ sym (pow-succ' (length xs) n)

In-joined : {X : Type 0} (x : X) (y : List X) (xs : List X) (ys : List (List X)) → In x xs → In y ys → In (x ∷ y) (joined xs ys)
unfolding joined
In-joined x y [] ys h g = absurd h
In-joined {X} x y (z ∷ xs) ys (inl e) g =
    In-left (x ∷ y) (map (λ w. z ∷ w) ys) (joined xs ys)
    (let P : X → Type 0 = λ v. In (v ∷ y) (map (λ w. z ∷ w) ys) in subst P e (In-map (λ w. z ∷ w) y ys g))
In-joined x y (z ∷ xs) ys (inr h) g = In-right (x ∷ y) (map (λ w. z ∷ w) ys) (joined xs ys) (In-joined x y xs ys h g)

pub In-tuples : {X : Type 0} (xs : List X) (y : List X) → Within y xs → In y (tuples (length y) xs)
unfolding tuples
In-tuples xs [] w = inl refl
In-tuples xs (x ∷ y) w = In-joined x y xs (tuples (length y) xs) (w x (inl refl)) (In-tuples xs y (λ z h. w z (inr h)))

-- each of xs with each of ys
pub pairs_of : {X Y : Type 0} → List X → List Y → List (X × Y)
pairs_of [] ys = []
pairs_of (x ∷ xs) ys = map (λ y. (x, y)) ys ++ pairs_of xs ys

pub In-pairs_of : {X Y : Type 0} (x : X) (y : Y) (xs : List X) (ys : List Y) → In x xs → In y ys → In {X = X × Y} (x, y) (pairs_of xs ys)
unfolding pairs_of
In-pairs_of x y [] ys i j = absurd i
In-pairs_of {X} {Y} x y (z ∷ xs) ys (inl e) j =
    let P : X → Type 0 = λ v. In {X = X × Y} (v, y) (map (λ y. (z, y)) ys) in
    In-left (x, y) (map (λ y. (z, y)) ys) (pairs_of xs ys) (subst P e (In-map (λ y. (z, y)) y ys j))
In-pairs_of x y (z ∷ xs) ys (inr i) j = In-right (x, y) (map (λ y. (z, y)) ys) (pairs_of xs ys) (In-pairs_of x y xs ys i j)
