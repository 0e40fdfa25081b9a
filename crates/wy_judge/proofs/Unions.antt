-- Unions of effects in another grouping are the same, whatever the lists; and a set with nothing added is itself.
use Rattle.std.proofs.Common.{◌≡◌, ℕ, ◌+◌, ◌<◌, List, [], ◌∷◌, inl, inr, refl, sym, ◌∙◌, ap, arith}
use Rattle.std.proofs.lemmas.Bool.{cases_lt}
use Rattle.wy_effects.specs.EffSet.{IsSetFrom, IsSet, insert_atom, union}
use Rattle.wy_effects.proofs.SetLaws.{insert_atom-skip, insert_atom-here, insert_atom-before}

-- an atom that is put in twice
insert_twice : (a : ℕ) (xs : List ℕ) → insert_atom a (insert_atom a xs) ≡ insert_atom a xs
insert_twice a [] = insert_atom-here a a [] refl
insert_twice a (x ∷ xs) =
    elim (cases_lt x a) [
      | inl lt ↦ (
          ap (insert_atom a) (insert_atom-skip a x xs lt) ∙ insert_atom-skip a x (insert_atom a xs) lt ∙
          ap (λ l. x ∷ l) (insert_twice a xs) ∙ sym (insert_atom-skip a x xs lt)
          )
      | inr ge ↦ elim (cases_lt a x) [
        | inl lt ↦ ap (insert_atom a) (insert_atom-before a x xs lt) ∙ insert_atom-here a a (x ∷ xs) refl ∙ sym (insert_atom-before a x xs lt)
        | inr le ↦ (let e : x ≡ a = omega arith in ap (insert_atom a) (insert_atom-here a x xs e))
      ]
    ]

-- the smaller one of two atoms may be put in first or last
insert_swap : (a b : ℕ) (xs : List ℕ) → a < b → insert_atom a (insert_atom b xs) ≡ insert_atom b (insert_atom a xs)
insert_swap a b [] lt = insert_atom-before a b [] lt ∙ sym (insert_atom-skip b a [] lt)
insert_swap a b (x ∷ xs) lt =
    elim (cases_lt x a) [
      | inl below ↦ (
          let under : x < b = omega arith in
          ap (insert_atom a) (insert_atom-skip b x xs under) ∙ insert_atom-skip a x (insert_atom b xs) below ∙
          ap (λ l. x ∷ l) (insert_swap a b xs lt) ∙
          sym (ap (insert_atom b) (insert_atom-skip a x xs below) ∙ insert_atom-skip b x (insert_atom a xs) under)
          )
      | inr ge ↦ elim (cases_lt a x) [
        | inl over ↦ before_it over
        | inr le ↦ (let e : x ≡ a = omega arith in at_it e)
      ]
    ]
  where
    -- the smaller atom stands in the list already
    at_it : x ≡ a → insert_atom a (insert_atom b (x ∷ xs)) ≡ insert_atom b (insert_atom a (x ∷ xs))
    at_it e =
        let under : x < b = omega arith in
        ap (insert_atom a) (insert_atom-skip b x xs under) ∙ insert_atom-here a x (insert_atom b xs) e ∙
        sym (ap (insert_atom b) (insert_atom-here a x xs e) ∙ insert_atom-skip b x xs under)

    -- it comes before all of the list
    first_of_all : a < x → insert_atom b (insert_atom a (x ∷ xs)) ≡ a ∷ insert_atom b (x ∷ xs)
    first_of_all over = ap (insert_atom b) (insert_atom-before a x xs over) ∙ insert_atom-skip b a (x ∷ xs) lt

    before_it : a < x → insert_atom a (insert_atom b (x ∷ xs)) ≡ insert_atom b (insert_atom a (x ∷ xs))
    before_it over =
        elim (cases_lt x b) [
          | inl under ↦ (
              ap (insert_atom a) (insert_atom-skip b x xs under) ∙ insert_atom-before a x (insert_atom b xs) over ∙
              ap (λ l. a ∷ l) (sym (insert_atom-skip b x xs under)) ∙ sym (first_of_all over)
              )
          | inr ge ↦ elim (cases_lt b x) [
            | inl under ↦ (
                ap (insert_atom a) (insert_atom-before b x xs under) ∙ insert_atom-before a b (x ∷ xs) lt ∙
                ap (λ l. a ∷ l) (sym (insert_atom-before b x xs under)) ∙ sym (first_of_all over)
                )
            | inr le ↦ (
                let e : x ≡ b = omega arith in
                ap (insert_atom a) (insert_atom-here b x xs e) ∙ insert_atom-before a x xs over ∙
                ap (λ l. a ∷ l) (sym (insert_atom-here b x xs e)) ∙ sym (first_of_all over)
                )
          ]
        ]

-- an atom of the first list is put in before or after the second one
union_insert : (a : ℕ) (xs ys : List ℕ) → union (insert_atom a xs) ys ≡ insert_atom a (union xs ys)
union_insert a [] ys = refl
union_insert a (x ∷ xs) ys =
    elim (cases_lt x a) [
      | inl lt ↦ (
          ap (λ l. union l ys) (insert_atom-skip a x xs lt) ∙ ap (insert_atom x) (union_insert a xs ys) ∙
          insert_swap x a (union xs ys) lt
          )
      | inr ge ↦ elim (cases_lt a x) [
        | inl lt ↦ ap (λ l. union l ys) (insert_atom-before a x xs lt)
        | inr le ↦ (
            let e : x ≡ a = omega arith in
            ap (λ l. union l ys) (insert_atom-here a x xs e) ∙ sym (ap (λ v. insert_atom v (insert_atom x (union xs ys))) (sym e) ∙ insert_twice x (union xs ys))
            )
      ]
    ]

pub union_grouped : (xs ys zs : List ℕ) → union xs (union ys zs) ≡ union (union xs ys) zs
union_grouped [] ys zs = refl
union_grouped (x ∷ xs) ys zs = ap (insert_atom x) (union_grouped xs ys zs) ∙ sym (union_insert x (union xs ys) zs)

-- an atom below all of a set
insert_least : (a k n : ℕ) (xs : List ℕ) → a < k → IsSetFrom k n xs → insert_atom a xs ≡ a ∷ xs
insert_least a k n [] lt h = refl
insert_least a k n (x ∷ xs) lt h = insert_atom-before a x xs (omega (arith, h.0))

from_union_nothing : (k n : ℕ) (xs : List ℕ) → IsSetFrom k n xs → union xs [] ≡ xs
from_union_nothing k n [] h = refl
from_union_nothing k n (x ∷ xs) h = ap (insert_atom x) (from_union_nothing (x + 1) n xs h.2) ∙ insert_least x (x + 1) n xs (omega arith) h.2

pub union_nothing : (n : ℕ) (xs : List ℕ) → IsSet n xs → union xs [] ≡ xs
union_nothing n xs h = from_union_nothing 0 n xs h
