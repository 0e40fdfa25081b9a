-- Lists of upper bounds: each is a set of atoms before its own, also where they are appended and where a number is added to all atoms.
use Rattle.std.proofs.Common.{◌≡◌, ℕ, zero, suc, ◌+◌, ◌<◌, ◌≤◌, List, [], ◌∷◌, ◌++◌, map, length, Option, Some, None, refl, ap, ◌∙◌, subst, arith}
use Rattle.std.specs.Prelude.{slice_get, slice_index_or, replicate}
use Rattle.std.specs.Option.{option_map}
use Rattle.wy_effects.specs.EffSet.{IsSet, IsSetFrom, insert_atom, union, replace}
use Rattle.wy_effects.specs.Bounds.{Bounds, BoundsFit}
use Rattle.wy_effects.proofs.SetLaws.{IsSetFrom-weaken, insert_atom-before}
use Rattle.wy_types.specs.Ground.{single_sets}
use Rattle.wy_rules.specs.OwnNames.{shifted_bounds}
use Rattle.wy_symbols.specs.Atoms.{bounds_at}

IsSetFrom-wider : (k m n : ℕ) (xs : List ℕ) → m ≤ n → IsSetFrom k m xs → IsSetFrom k n xs
IsSetFrom-wider k m n [] le h = tt
IsSetFrom-wider k m n (x ∷ xs) le h = (h.0, (let lt = h.1 in omega (arith, lt, le)), IsSetFrom-wider (x + 1) m n xs le h.2)

-- a set below a number is one below a greater number
pub IsSet-wider : (m n : ℕ) (xs : List ℕ) → m ≤ n → IsSet m xs → IsSet n xs
IsSet-wider m n xs le h = IsSetFrom-wider 0 m n xs le h

------------------------------------------------------------
-- Bounds one after the other

-- each is a set of atoms before its own, where the first is that of the atom `k`
abbrev pub BoundsFrom : ℕ → Bounds → Type 0
BoundsFrom k [] = Unit {0}
BoundsFrom k (b ∷ bs) = ((s : List ℕ) → b ≡ Some s → IsSet k s) × BoundsFrom (k + 1) bs

read_from : (k : ℕ) (bounds : Bounds) → BoundsFrom k bounds → (a : ℕ) (b : List ℕ) → slice_get bounds a ≡ Some (Some b) → IsSet (k + a) b
read_from k [] h a b e = absurd (cc)
read_from k (x ∷ bs) h zero b e =
    let is : x ≡ Some b = cc in
    let P : ℕ → Type 0 = λ n. IsSet n b in
    let same : k ≡ k + 0 = omega arith in
    subst P same (h.0 b is)
read_from k (x ∷ bs) h (suc a) b e =
    let P : ℕ → Type 0 = λ n. IsSet n b in
    let same : (k + 1) + a ≡ k + suc a = omega arith in
    subst P same (read_from (k + 1) bs h.1 a b e)

-- those from the atom 0 on fit
pub from_fits : (n : ℕ) (bounds : Bounds) → length bounds ≡ n → BoundsFrom 0 bounds → BoundsFit n bounds
from_fits n bounds l h = (
  l,
  λ a b e. (
      let P : ℕ → Type 0 = λ m. IsSet m b in
      let same : 0 + a ≡ a = omega arith in
      subst P same (read_from 0 bounds h a b e)),
)

pub fits_from : (k : ℕ) (bounds : Bounds) → ((a : ℕ) (b : List ℕ) → slice_get bounds a ≡ Some (Some b) → IsSet (k + a) b) → BoundsFrom k bounds
fits_from k [] h = tt
fits_from k (x ∷ bs) h = (
  λ s e. (
      let P : ℕ → Type 0 = λ n. IsSet n s in
      let at : slice_get (x ∷ bs) 0 ≡ Some (Some s) = ap (λ (o : Option (List ℕ)). Some o) e in
      let same : k + 0 ≡ k = omega arith in
      subst P same (h 0 s at)
      ),
  fits_from (k + 1) bs (λ a b e. (
      let P : ℕ → Type 0 = λ n. IsSet n b in
      let same : k + suc a ≡ (k + 1) + a = omega arith in
      subst P same (h (suc a) b e)
      )),
)

pub bounds_both : (k : ℕ) (xs ys : Bounds) → BoundsFrom k xs → BoundsFrom (k + length xs) ys → BoundsFrom k (xs ++ ys)
bounds_both k [] ys h g =
    let P : ℕ → Type 0 = λ n. BoundsFrom n ys in
    let same : k + length {A = Option (List ℕ)} [] ≡ k = omega arith in
    subst P same g
bounds_both k (x ∷ xs) ys h g =
    let P : ℕ → Type 0 = λ n. BoundsFrom n ys in
    let same : k + length (x ∷ xs) ≡ (k + 1) + length xs = omega arith in
    (h.0, bounds_both (k + 1) xs ys h.1 (subst P same g))

-- no bounds
pub none_from : (k n : ℕ) → BoundsFrom k (replicate n None)
none_from k zero = tt
none_from k (suc n) = (λ s e. absurd (cc), none_from (k + 1) n)

------------------------------------------------------------
-- A number added to all atoms

abbrev pub shifted : ℕ → List ℕ → List ℕ
shifted k xs = map (λ m. k + m) xs

shifted_set : (k i n : ℕ) (xs : List ℕ) → IsSetFrom i n xs → IsSetFrom (k + i) (k + n) (shifted k xs)
shifted_set k i n [] h = tt
shifted_set k i n (x ∷ xs) h =
    let P : ℕ → Type 0 = λ j. IsSetFrom j (k + n) (shifted k xs) in
    let same : k + (x + 1) ≡ (k + x) + 1 = omega arith in
    ((let le = h.0 in omega (arith, le)), (let lt = h.1 in omega (arith, lt)), subst P same (shifted_set k (x + 1) n xs h.2))

bound_shifted : (k j : ℕ) (b : Option (List ℕ)) → ((s : List ℕ) → b ≡ Some s → IsSet j s) → (s : List ℕ) → option_map (shifted k) b ≡ Some s → IsSet (k + j) s
bound_shifted k j None h s e = absurd (cc)
bound_shifted k j (Some t) h s e =
    let same : shifted k t ≡ s = cc in
    subst (λ v. IsSet (k + j) v) same (IsSetFrom-weaken 0 (k + 0) (k + j) (shifted k t) (omega arith) (shifted_set k 0 j t (h t refl)))

pub shifted_from : (k j : ℕ) (bounds : Bounds) → BoundsFrom j bounds → BoundsFrom (k + j) (shifted_bounds k bounds)
shifted_from k j [] h = tt
shifted_from k j (b ∷ bs) h =
    let P : ℕ → Type 0 = λ n. BoundsFrom n (shifted_bounds k bs) in
    let same : k + (j + 1) ≡ (k + j) + 1 = omega arith in
    (bound_shifted k j b h.0, subst P same (shifted_from k (j + 1) bs h.1))

------------------------------------------------------------
-- Sets of one atom each, put in for the atoms

single_at : (k a : ℕ) (ms : List (List ℕ)) → a < length ms → slice_index_or (single_sets k ms) a [] ≡ (k + a) ∷ []
single_at k a [] lt = absurd (omega (arith, lt))
single_at k zero (m ∷ ms) lt = (let same : k ≡ k + 0 = omega arith in ap (λ (n : ℕ). n ∷ []) same)
single_at k (suc a) (m ∷ ms) lt =
    let same : (k + 1) + a ≡ k + suc a = omega arith in
    single_at (k + 1) a ms (omega (arith, lt)) ∙ ap (λ (n : ℕ). n ∷ []) same

insert_shifted : (k a n : ℕ) (xs : List ℕ) → IsSetFrom (a + 1) n xs → insert_atom (k + a) (shifted k xs) ≡ (k + a) ∷ shifted k xs
insert_shifted k a n [] h = refl
insert_shifted k a n (x ∷ xs) h = insert_atom-before (k + a) (k + x) (shifted k xs) (let le = h.0 in omega (arith, le))

replace_singles : (k i : ℕ) (ms : List (List ℕ)) (xs : List ℕ) → IsSetFrom i (length ms) xs → replace (single_sets k ms) xs ≡ shifted k xs
replace_singles k i ms [] h = refl
replace_singles k i ms (x ∷ xs) h =
    ap (λ s. union s (replace (single_sets k ms) xs)) (single_at k x ms h.1)
    ∙ ap (insert_atom (k + x)) (replace_singles k (x + 1) ms xs h.2)
    ∙ insert_shifted k x (length ms) xs h.2

bound_shifted_is : (k : ℕ) (ms : List (List ℕ)) (b : Option (List ℕ)) → ((s : List ℕ) → b ≡ Some s → IsSet (length ms) s) →
    option_map (replace (single_sets k ms)) b ≡ option_map (shifted k) b
bound_shifted_is k ms None h = refl
bound_shifted_is k ms (Some s) h = ap (λ (l : List ℕ). Some l) (replace_singles k 0 ms s (h s refl))

-- atoms put in one after the other, from the number `k` on, are that number added
pub bounds_shifted_is : (k j : ℕ) (ms : List (List ℕ)) (bounds : Bounds) → BoundsFrom j bounds → j + length bounds ≤ length ms →
    bounds_at (single_sets k ms) bounds ≡ shifted_bounds k bounds
bounds_shifted_is k j ms [] h le = refl
bounds_shifted_is k j ms (b ∷ bs) h le =
    let here = bound_shifted_is k ms b (λ s e. IsSet-wider j (length ms) s (omega (arith, le)) (h.0 s e)) in
    let rest = bounds_shifted_is k (j + 1) ms bs h.1 (omega (arith, le)) in
    ap (λ (o : Option (List ℕ)). o ∷ bounds_at (single_sets k ms) bs) here ∙ ap (λ (l : Bounds). option_map (shifted k) b ∷ l) rest
