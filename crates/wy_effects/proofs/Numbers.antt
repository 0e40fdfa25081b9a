-- Sets as words: what is done to their numbers is done to their atoms.
use Rattle.std.proofs.Common.{◌≡◌, ℕ, ◌+◌, ◌<◌, ◌≤◌, Bool, true, false, List, [], ◌∷◌, None, Some, inl, inr, refl, sym, ap, ◌∙◌, subst, arith, nat_eq, nat_lt}
use Rattle.std.specs.Prelude.{if◌then◌else◌, ◌||◌, ◌↔◌}
use Rattle.std.proofs.lemmas.Bool.{cases_lt}
use Rattle.std.proofs.lemmas.Bool.Decides.{nat_tests}
use Rattle.wy_lanes.specs.Numbers.{IsAscendingFrom, AllIn, is_in, with_number, union_numbers, without_numbers, first_from}
use Rattle.wy_text.specs.Members.{Within}
use Rattle.wy_effects.specs.EffSet.{IsSetFrom, has, insert_atom, union, without}
use Rattle.wy_effects.proofs.SetLaws.{has-In, In-has, insert_atom-skip, insert_atom-here, insert_atom-before}

pub with_is : (a : ℕ) (xs : List ℕ) → with_number a xs ≡ insert_atom a xs
with_is a [] = refl
with_is a (x ∷ xs) = ap (λ l. if nat_lt x a then x ∷ l else (if nat_eq x a then x ∷ xs else a ∷ x ∷ xs)) (with_is a xs)

pub union_is : (xs ys : List ℕ) → union_numbers xs ys ≡ union xs ys
union_is [] ys = refl
union_is (x ∷ xs) ys = ap (with_number x) (union_is xs ys) ∙ with_is x (union xs ys)

has_is : (a : ℕ) (xs : List ℕ) → is_in a xs ≡ has a xs
has_is a [] = refl
has_is a (x ∷ xs) = ap (λ b. nat_eq x a || b) (has_is a xs)

pub without_is : (xs ys : List ℕ) → without_numbers xs ys ≡ without xs ys
without_is [] ys = refl
without_is (x ∷ xs) ys = ap (λ b. if b then without_numbers xs ys else (x ∷ without_numbers xs ys)) (has_is x ys) ∙ ap (λ l. if has x ys then l else (x ∷ l)) (without_is xs ys)

pub set_is : (k n : ℕ) (xs : List ℕ) → IsAscendingFrom k n xs → IsSetFrom k n xs
set_is k n [] s = s
set_is k n (x ∷ xs) s = (s.0, s.1, set_is (x + 1) n xs s.2)

pub all_are : (xs ys : List ℕ) → AllIn xs ys ↔ Within xs ys
all_are xs ys = (
  λ all a i. In-has a ys (sym (has_is a ys) ∙ all a (has_is a xs ∙ has-In a xs i)),
  λ within a e. has_is a ys ∙ has-In a ys (within a (In-has a xs (sym (has_is a xs) ∙ e))),
)

------------------------------------------------------------
-- The atoms from a number on

abbrev pub from_on : ℕ → List ℕ → List ℕ
from_on k [] = []
from_on k (x ∷ xs) = if nat_lt x k then from_on k xs else (x ∷ xs)

pub from_all : (k n : ℕ) (xs : List ℕ) → IsSetFrom k n xs → from_on k xs ≡ xs
from_all k n [] s = refl
from_all k n (x ∷ xs) s = let le : k ≤ x = s.0 in grind (arith, nat_tests)

pub from_none : (k : ℕ) (xs : List ℕ) → first_from k xs ≡ None → from_on k xs ≡ []
from_none k [] e = refl
from_none k (x ∷ xs) e = of (nat_lt x k) (from_none k xs) e
  where
    of : (b : Bool) → (first_from k xs ≡ None → from_on k xs ≡ []) → (if b then first_from k xs else Some x) ≡ None → (if b then from_on k xs else (x ∷ xs)) ≡ []
    of true rest e = rest e
    of false rest e = cc

-- past an atom that is less
from_past : (k x : ℕ) (xs : List ℕ) → x < k → from_on k (x ∷ xs) ≡ from_on k xs
from_past k x xs less = grind (arith, nat_tests)

pub record Begins (k n a : ℕ) (xs : List ℕ) : Type 0 where
  pub is : from_on k xs ≡ a ∷ from_on (a + 1) xs
  pub least : k ≤ a
  pub below : a < n

pub from_some : (k j n a : ℕ) (xs : List ℕ) → IsSetFrom j n xs → first_from k xs ≡ Some a → Begins k n a xs
from_some k j n a [] s e = cc
from_some k j n a (x ∷ xs) s e = elim (cases_lt x k) [
  | inl less ↦
      let first : first_from k xs ≡ Some a = sym (first_past less) ∙ e in
      let rest = from_some k (x + 1) n a xs s.2 first in
      record { is = from_past k x xs less ∙ rest.is ∙ ap (λ l. a ∷ l) (sym (from_past (a + 1) x xs (omega (arith, rest.least)))); least = rest.least; below = rest.below }
  | inr least ↦
      let same : x ≡ a = same_first least in
      record { is = here least same; least = subst (λ b. k ≤ b) same least; below = subst (λ b. b < n) same s.1 }
]
  where
    first_past : x < k → first_from k (x ∷ xs) ≡ first_from k xs
    first_past less = grind (arith, nat_tests)

    first_here : k ≤ x → first_from k (x ∷ xs) ≡ Some x
    first_here least = grind (arith, nat_tests)

    same_first : k ≤ x → x ≡ a
    same_first least = (let there : Some x ≡ Some a = sym (first_here least) ∙ e in cc)

    from_here : k ≤ x → from_on k (x ∷ xs) ≡ x ∷ xs
    from_here least = grind (arith, nat_tests)

    here : k ≤ x → x ≡ a → from_on k (x ∷ xs) ≡ a ∷ from_on (a + 1) (x ∷ xs)
    here least same = from_here least ∙ ap (λ l. x ∷ l) (sym (from_past (x + 1) x xs (omega arith) ∙ from_all (x + 1) n xs s.2)) ∙ ap (λ b. b ∷ from_on (b + 1) (x ∷ xs)) same

------------------------------------------------------------
-- Sets are united in any order

turned : (a b : ℕ) (xs : List ℕ) → a < b → insert_atom a (insert_atom b xs) ≡ insert_atom b (insert_atom a xs)
turned a b [] lt = insert_atom-before a b [] lt ∙ sym (insert_atom-skip b a [] lt)
turned a b (x ∷ xs) lt = elim (cases_lt x a) [
  | inl less ↦
      ap (insert_atom a) (insert_atom-skip b x xs (omega arith)) ∙ insert_atom-skip a x (insert_atom b xs) less
      ∙ ap (λ l. x ∷ l) (turned a b xs lt)
      ∙ sym (ap (insert_atom b) (insert_atom-skip a x xs less) ∙ insert_atom-skip b x (insert_atom a xs) (omega arith))
  | inr least ↦ elim (cases_lt a x) [
    | inl greater ↦ elim (cases_lt x b) [
      | inl before ↦
          ap (insert_atom a) (insert_atom-skip b x xs before) ∙ insert_atom-before a x (insert_atom b xs) greater
          ∙ ap (λ l. a ∷ l) (sym (insert_atom-skip b x xs before))
          ∙ sym (ap (insert_atom b) (insert_atom-before a x xs greater) ∙ insert_atom-skip b a (x ∷ xs) lt)
      | inr behind ↦ elim (cases_lt b x) [
        | inl above ↦
            ap (insert_atom a) (insert_atom-before b x xs above) ∙ insert_atom-before a b (x ∷ xs) lt
            ∙ ap (λ l. a ∷ l) (sym (insert_atom-before b x xs above))
            ∙ sym (ap (insert_atom b) (insert_atom-before a x xs greater) ∙ insert_atom-skip b a (x ∷ xs) lt)
        | inr at ↦
            let same : x ≡ b = omega arith in
            ap (insert_atom a) (insert_atom-here b x xs same) ∙ insert_atom-before a x xs greater
            ∙ ap (λ l. a ∷ l) (sym (insert_atom-here b x xs same))
            ∙ sym (ap (insert_atom b) (insert_atom-before a x xs greater) ∙ insert_atom-skip b a (x ∷ xs) lt)
      ]
    ]
    | inr most ↦
        let same : x ≡ a = omega arith in
        ap (insert_atom a) (insert_atom-skip b x xs (omega arith)) ∙ insert_atom-here a x (insert_atom b xs) same
        ∙ sym (ap (insert_atom b) (insert_atom-here a x xs same) ∙ insert_atom-skip b x xs (omega arith))
  ]
]

insert-turn : (a b : ℕ) (xs : List ℕ) → insert_atom a (insert_atom b xs) ≡ insert_atom b (insert_atom a xs)
insert-turn a b xs = elim (cases_lt a b) [
  | inl lt ↦ turned a b xs lt
  | inr le ↦ elim (cases_lt b a) [
    | inl gt ↦ sym (turned b a xs gt)
    | inr ge ↦ (let same : a ≡ b = omega arith in ap (λ c. insert_atom c (insert_atom b xs)) same ∙ ap (λ c. insert_atom b (insert_atom c xs)) (sym same))
  ]
]

insert-again : (a : ℕ) (xs : List ℕ) → insert_atom a (insert_atom a xs) ≡ insert_atom a xs
insert-again a [] = insert_atom-here a a [] refl
insert-again a (x ∷ xs) = elim (cases_lt x a) [
  | inl less ↦
      ap (insert_atom a) (insert_atom-skip a x xs less) ∙ insert_atom-skip a x (insert_atom a xs) less ∙ ap (λ l. x ∷ l) (insert-again a xs)
      ∙ sym (insert_atom-skip a x xs less)
  | inr least ↦ elim (cases_lt a x) [
    | inl greater ↦ ap (insert_atom a) (insert_atom-before a x xs greater) ∙ insert_atom-here a a (x ∷ xs) refl ∙ sym (insert_atom-before a x xs greater)
    | inr most ↦ (let same : x ≡ a = omega arith in ap (insert_atom a) (insert_atom-here a x xs same))
  ]
]

union-insert : (a : ℕ) (xs ys : List ℕ) → union (insert_atom a xs) ys ≡ insert_atom a (union xs ys)
union-insert a [] ys = refl
union-insert a (x ∷ xs) ys = elim (cases_lt x a) [
  | inl less ↦ ap (λ l. union l ys) (insert_atom-skip a x xs less) ∙ ap (insert_atom x) (union-insert a xs ys) ∙ insert-turn x a (union xs ys)
  | inr least ↦ elim (cases_lt a x) [
    | inl greater ↦ ap (λ l. union l ys) (insert_atom-before a x xs greater)
    | inr most ↦
        let same : x ≡ a = omega arith in
        ap (λ l. union l ys) (insert_atom-here a x xs same) ∙ sym (insert-again x (union xs ys)) ∙ ap (λ b. insert_atom b (insert_atom x (union xs ys))) same
  ]
]

insert-union : (a : ℕ) (xs ys : List ℕ) → union xs (insert_atom a ys) ≡ insert_atom a (union xs ys)
insert-union a [] ys = refl
insert-union a (x ∷ xs) ys = ap (insert_atom x) (insert-union a xs ys) ∙ insert-turn x a (union xs ys)

pub union-turn : (xs ys zs : List ℕ) → union (union xs ys) zs ≡ union ys (union xs zs)
union-turn [] ys zs = refl
union-turn (x ∷ xs) ys zs = union-insert x (union xs ys) zs ∙ ap (insert_atom x) (union-turn xs ys zs) ∙ sym (insert-union x ys (union xs zs))

insert-first : (a n : ℕ) (xs : List ℕ) → IsSetFrom (a + 1) n xs → insert_atom a xs ≡ a ∷ xs
insert-first a n [] s = refl
insert-first a n (x ∷ xs) s = insert_atom-before a x xs (omega (arith, s.0))

pub union-none : (k n : ℕ) (xs : List ℕ) → IsSetFrom k n xs → union xs [] ≡ xs
union-none k n [] s = refl
union-none k n (x ∷ xs) s = ap (insert_atom x) (union-none (x + 1) n xs s.2) ∙ insert-first x n xs s.2
