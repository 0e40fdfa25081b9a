-- Ascending lists of numbers as finite sets: what is in the results of the operations, and that the same numbers make the same list.
use Rattle.std.proofs.Common.{◌≡◌, ℕ, ◌+◌, ◌<◌, ◌≤◌, List, [], ◌∷◌, inl, inr, Bool, true, false, ◌&&◌, ◌||◌, not, None, Some, nat_eq, refl, sym, ap, ◌∙◌, subst, arith}
use Rattle.std.specs.Prelude.{if◌then◌else◌}
use Rattle.std.proofs.lemmas.Bool.{cases_lt, eq-eqb, ne_eqb, eqb-true, false≢true, or_cases, false_from_ne_true}
use Rattle.std.proofs.lemmas.Bool.Decides.{nat_tests}
use Rattle.wy_lanes.specs.Numbers.{IsAscendingFrom, is_in, with_number, union_numbers, without_numbers, first_from}

-- ---- one more number

with_number-skip : (a x : ℕ) (xs : List ℕ) → x < a → with_number a (x ∷ xs) ≡ x ∷ with_number a xs
with_number-skip a x xs h = grind (arith, nat_tests)

with_number-here : (a x : ℕ) (xs : List ℕ) → x ≡ a → with_number a (x ∷ xs) ≡ x ∷ xs
with_number-here a x xs h = grind (arith, nat_tests)

with_number-before : (a x : ℕ) (xs : List ℕ) → a < x → with_number a (x ∷ xs) ≡ a ∷ x ∷ xs
with_number-before a x xs h = grind (arith, nat_tests)

or_swap : (p q r : Bool) → (p || (q || r)) ≡ (q || (p || r))
or_swap true true r = refl
or_swap true false r = refl
or_swap false q r = refl

or_twice : (p q : Bool) → (p || (p || q)) ≡ (p || q)
or_twice true q = refl
or_twice false q = refl

-- what is in a list with one more number
pub is_in-with_number : (a b : ℕ) (xs : List ℕ) → is_in b (with_number a xs) ≡ (nat_eq a b || is_in b xs)
is_in-with_number a b [] = refl
is_in-with_number a b (x ∷ xs) =
    elim (cases_lt x a) [
      | inl lt ↦ ap (is_in b) (with_number-skip a x xs lt) ∙ ap (λ (t : Bool). nat_eq x b || t) (is_in-with_number a b xs) ∙ or_swap (nat_eq x b) (nat_eq a b) (is_in b xs)
      | inr ge ↦ elim (cases_lt a x) [
        | inl lt ↦ ap (is_in b) (with_number-before a x xs lt)
        | inr le ↦ (let e : x ≡ a = omega (arith, ge, le) in
            ap (is_in b) (with_number-here a x xs e) ∙ sym (or_twice (nat_eq x b) (is_in b xs)) ∙ ap (λ (y : ℕ). nat_eq y b || (nat_eq x b || is_in b xs)) e)
      ]
    ]

pub IsAscendingFrom-weaken : (j k n : ℕ) (xs : List ℕ) → j ≤ k → IsAscendingFrom k n xs → IsAscendingFrom j n xs
IsAscendingFrom-weaken j k n [] le s = tt
IsAscendingFrom-weaken j k n (x ∷ xs) le s = (omega (arith, s.0), s.1, s.2)

pub IsAscendingFrom-with_number : (a k n : ℕ) (xs : List ℕ) → k ≤ a → a < n → IsAscendingFrom k n xs → IsAscendingFrom k n (with_number a xs)
IsAscendingFrom-with_number a k n [] ka an s = (ka, an, tt)
IsAscendingFrom-with_number a k n (x ∷ xs) ka an s =
    elim (cases_lt x a) [
      | inl lt ↦ rw with_number-skip (s.0, s.1, IsAscendingFrom-with_number a (x + 1) n xs (omega arith) an s.2)
      | inr ge ↦ elim (cases_lt a x) [
        | inl lt ↦ rw with_number-before (ka, an, (omega arith, s.1, s.2))
        | inr le ↦ (let e : x ≡ a = omega arith in rw with_number-here s)
      ]
    ]

-- ---- union

or_assoc : (p q r : Bool) → (p || (q || r)) ≡ ((p || q) || r)
or_assoc true q r = refl
or_assoc false q r = refl

-- what is in a union
pub is_in-union_numbers : (b : ℕ) (xs ys : List ℕ) → is_in b (union_numbers xs ys) ≡ (is_in b xs || is_in b ys)
is_in-union_numbers b [] ys = refl
is_in-union_numbers b (x ∷ xs) ys =
    is_in-with_number x b (union_numbers xs ys) ∙ ap (λ (t : Bool). nat_eq x b || t) (is_in-union_numbers b xs ys) ∙ or_assoc (nat_eq x b) (is_in b xs) (is_in b ys)

pub IsAscendingFrom-union_numbers : (k n : ℕ) (xs ys : List ℕ) → IsAscendingFrom k n xs → IsAscendingFrom k n ys → IsAscendingFrom k n (union_numbers xs ys)
IsAscendingFrom-union_numbers k n [] ys s t = t
IsAscendingFrom-union_numbers k n (x ∷ xs) ys s t =
    IsAscendingFrom-with_number x k n (union_numbers xs ys) s.0 s.1 (IsAscendingFrom-union_numbers k n xs ys (IsAscendingFrom-weaken k (x + 1) n xs (omega (arith, s.0)) s.2) t)

-- ---- difference

-- what is in a difference
pub is_in-without_numbers : (b : ℕ) (xs ys : List ℕ) → is_in b (without_numbers xs ys) ≡ (is_in b xs && not (is_in b ys))
is_in-without_numbers b [] ys = refl
is_in-without_numbers b (x ∷ xs) ys =
    elim (is_in x ys) as (λ t. is_in x ys ≡ t → is_in b (if t then without_numbers xs ys else x ∷ without_numbers xs ys) ≡ ((nat_eq x b || is_in b xs) && not (is_in b ys))) [
      | true ↦ λ e. is_in-without_numbers b xs ys ∙ left_out (nat_eq x b) (is_in b xs) (is_in b ys) (λ same. ap (λ (a : ℕ). is_in a ys) (sym (eqb-true x b same)) ∙ e)
      | false ↦ λ e. ap (λ (t : Bool). nat_eq x b || t) (is_in-without_numbers b xs ys)
          ∙ kept (nat_eq x b) (is_in b xs) (is_in b ys) (λ same. ap (λ (a : ℕ). is_in a ys) (sym (eqb-true x b same)) ∙ e)
    ] refl
  where
    left_out : (p q r : Bool) → (p ≡ true → r ≡ true) → (q && not r) ≡ ((p || q) && not r)
    left_out false q r out = refl
    left_out true true r out = refl
    left_out true false r out = sym (ap not (out refl))

    kept : (p q r : Bool) → (p ≡ true → r ≡ false) → (p || (q && not r)) ≡ ((p || q) && not r)
    kept false q r out = refl
    kept true q r out = sym (ap not (out refl))

pub IsAscendingFrom-without_numbers : (k n : ℕ) (xs ys : List ℕ) → IsAscendingFrom k n xs → IsAscendingFrom k n (without_numbers xs ys)
IsAscendingFrom-without_numbers k n [] ys s = tt
IsAscendingFrom-without_numbers k n (x ∷ xs) ys s =
    elim (is_in x ys) as (λ b. IsAscendingFrom k n (if b then without_numbers xs ys else x ∷ without_numbers xs ys)) [
      | true ↦ IsAscendingFrom-without_numbers k n xs ys (IsAscendingFrom-weaken k (x + 1) n xs (omega (arith, s.0)) s.2)
      | false ↦ (s.0, s.1, IsAscendingFrom-without_numbers (x + 1) n xs ys s.2)
    ]

-- ---- the same numbers

-- what is in the list lies from its start on, and below its end
pub at_least : (k n : ℕ) (xs : List ℕ) (a : ℕ) → IsAscendingFrom k n xs → is_in a xs ≡ true → k ≤ a
at_least k n [] a s i = absurd (false≢true i)
at_least k n (x ∷ xs) a s i =
    elim (or_cases (nat_eq x a) (is_in a xs) i) [
      | inl e ↦ omega (arith, s.0, eqb-true x a e)
      | inr j ↦ (let l : x + 1 ≤ a = at_least (x + 1) n xs a s.2 j in omega (arith, s.0))
    ]

pub below_end : (k n : ℕ) (xs : List ℕ) (a : ℕ) → IsAscendingFrom k n xs → is_in a xs ≡ true → a < n
below_end k n [] a s i = absurd (false≢true i)
below_end k n (x ∷ xs) a s i =
    elim (or_cases (nat_eq x a) (is_in a xs) i) [
      | inl e ↦ omega (arith, s.1, eqb-true x a e)
      | inr j ↦ below_end (x + 1) n xs a s.2 j
    ]

first_in : (x : ℕ) (xs : List ℕ) → is_in x (x ∷ xs) ≡ true
first_in x xs = ap (λ (t : Bool). t || is_in x xs) (eq-eqb x x refl)

later_in : (x a : ℕ) (xs : List ℕ) → x < a → is_in a (x ∷ xs) ≡ is_in a xs
later_in x a xs lt = ap (λ (t : Bool). t || is_in a xs) (ne_eqb x a (λ e. omega (arith, lt, e)))

-- ascending lists that have the same numbers are the same
pub same_numbers : (k n : ℕ) (xs ys : List ℕ) → IsAscendingFrom k n xs → IsAscendingFrom k n ys → ((a : ℕ) → is_in a xs ≡ is_in a ys) → xs ≡ ys
same_numbers k n [] [] s t same = refl
same_numbers k n [] (y ∷ ys) s t same = absurd (false≢true (same y ∙ first_in y ys))
same_numbers k n (x ∷ xs) [] s t same = absurd (false≢true (sym (same x) ∙ first_in x xs))
same_numbers k n (x ∷ xs) (y ∷ ys) s t same =
    let y_first : y ≤ x = at_least y n (y ∷ ys) x (omega arith, t.1, t.2) (sym (same x) ∙ first_in x xs) in
    let x_first : x ≤ y = at_least x n (x ∷ xs) y (omega arith, s.1, s.2) (same y ∙ first_in y ys) in
    let e : x ≡ y = omega (arith, y_first, x_first) in
    let P : ℕ → Type 0 = λ z. IsAscendingFrom (z + 1) n ys in
    let u : IsAscendingFrom (x + 1) n ys = subst P (sym e) t.2 in
    let rest : xs ≡ ys = same_numbers (x + 1) n xs ys s.2 u (λ a. same_after n x y xs ys a e s.2 u (same a)) in
    ap (λ z. z ∷ xs) e ∙ ap (λ l. y ∷ l) rest
  where
    none_before : (n x : ℕ) (xs : List ℕ) (a : ℕ) → a ≤ x → IsAscendingFrom (x + 1) n xs → is_in a xs ≡ false
    none_before n x xs a le s = false_from_ne_true (is_in a xs) (λ i. (let l : x + 1 ≤ a = at_least (x + 1) n xs a s i in omega (arith, l, le)))

    same_after : (n x y : ℕ) (xs ys : List ℕ) (a : ℕ) → x ≡ y → IsAscendingFrom (x + 1) n xs → IsAscendingFrom (x + 1) n ys → is_in a (x ∷ xs) ≡ is_in a (y ∷ ys) → is_in a xs ≡ is_in a ys
    same_after n x y xs ys a e s t same =
        elim (cases_lt x a) [
          | inl lt ↦ sym (later_in x a xs lt) ∙ same ∙ later_in y a ys (omega (arith, lt, e))
          | inr ge ↦ none_before n x xs a ge s ∙ sym (none_before n x ys a ge t)
        ]

-- ---- the first number from a place on

first_from-skip : (k x : ℕ) (xs : List ℕ) → x < k → first_from k (x ∷ xs) ≡ first_from k xs
first_from-skip k x xs h = grind (arith, nat_tests)

first_from-here : (k x : ℕ) (xs : List ℕ) → k ≤ x → first_from k (x ∷ xs) ≡ Some x
first_from-here k x xs h = grind (arith, nat_tests)

-- it is the number that is in the list, at the place or above, with none between
pub first_from-some : (k j n a : ℕ) (xs : List ℕ) → IsAscendingFrom j n xs → is_in a xs ≡ true → k ≤ a → ((b : ℕ) → k ≤ b → b < a → is_in b xs ≡ false) → first_from k xs ≡ Some a
first_from-some k j n a [] s i le none = absurd (false≢true i)
first_from-some k j n a (x ∷ xs) s i le none =
    elim (cases_lt x k) [
      | inl lt ↦ first_from-skip k x xs lt ∙ first_from-some k (x + 1) n a xs s.2 (sym (later_in x a xs (omega (arith, lt, le))) ∙ i) le
          (λ b kb ba. sym (later_in x b xs (omega (arith, lt, kb))) ∙ none b kb ba)
      | inr ge ↦ (let l : x ≤ a = at_least x n (x ∷ xs) a (omega arith, s.1, s.2) i in elim (cases_lt x a) [
        | inl before ↦ absurd (false≢true (sym (none x ge before) ∙ first_in x xs))
        | inr after ↦ (let e : x ≡ a = omega (arith, l, after) in first_from-here k x xs ge ∙ ap (λ (y : ℕ). Some y) e)
      ])
    ]

pub first_from-none : (k : ℕ) (xs : List ℕ) → ((b : ℕ) → k ≤ b → is_in b xs ≡ false) → first_from k xs ≡ None
first_from-none k [] none = refl
first_from-none k (x ∷ xs) none =
    elim (cases_lt x k) [
      | inl lt ↦ first_from-skip k x xs lt ∙ first_from-none k xs (λ b kb. sym (later_in x b xs (omega (arith, lt, kb))) ∙ none b kb)
      | inr ge ↦ absurd (false≢true (sym (none x ge) ∙ first_in x xs))
    ]
