-- Marks beside a list of numbers: a number has one exactly where it is in the list.
use Rattle.std.proofs.Common.{◌≡◌, ℕ, ◌<◌, ◌≤◌, List, [], ◌∷◌, ◌++◌, Bool, true, false, length, get_or, set, replicate, sym, ap, ◌∙◌, inl, inr, arith}
use Rattle.std.specs.Prelude.{◌↔◌, ◌||◌, nat_eq}
use Rattle.std.proofs.lemmas.Bool.{cases_lt}
use Rattle.std.proofs.lemmas.List.{get_or-replicate, get_or_past, get_or-set_same, get_or-set_other, length-replicate}
use Rattle.wy_effects.specs.EffSet.{has}
use Rattle.wy_text.specs.Members.{In}
use Rattle.wy_text.proofs.Lists.{In-push}
use Rattle.wy_effects.proofs.SetLaws.{cases_equal, has-In, In-has, has-absent}

abbrev pub AreMarks : List ℕ → List Bool → Type 0
AreMarks list marks = (k : ℕ) → has k list ≡ get_or marks k false

-- no number has a mark
pub no_marks : (below : ℕ) → AreMarks [] (replicate below false)
no_marks below k = elim (cases_lt k below) [
  | inl lt ↦ sym (get_or-replicate below k false false lt)
  | inr ge ↦ (let past : length (replicate below false) ≤ k = omega (arith, ge, length-replicate below false) in sym (get_or_past (replicate below false) k false past))
]

has_other : (j k : ℕ) (list : List ℕ) → (k ≡ j → ⊥) → has j (list ++ k ∷ []) ≡ has j list
has_other j k [] ne = has-absent j (k ∷ []) (λ i. elim i [ inl e ↦ ne e | inr z ↦ absurd z ])
has_other j k (x ∷ list) ne = ap (λ b. nat_eq x j || b) (has_other j k list ne)

-- one number more
pub more_marks : (list : List ℕ) (marks : List Bool) (k : ℕ) → k < length marks → AreMarks list marks → AreMarks (list ++ k ∷ []) (set marks k true)
more_marks list marks k lt are j =
    elim (cases_equal k j) [
      | inl e ↦
          ap (λ i. has i (list ++ k ∷ [])) (sym e) ∙ has-In k (list ++ k ∷ []) (In-push k list)
          ∙ sym (get_or-set_same marks k true false lt) ∙ ap (λ i. get_or (set marks k true) i false) e
      | inr ne ↦ has_other j k list ne ∙ are j ∙ sym (get_or-set_other marks k j true false (λ e. ne (sym e)))
    ]

-- a mark says whether the number is there
pub marked_in : (list : List ℕ) (marks : List Bool) → AreMarks list marks → (k : ℕ) → (get_or marks k false ≡ true) ↔ In k list
marked_in list marks are k = (λ is. In-has k list (are k ∙ is), λ i. sym (are k) ∙ has-In k list i)

pub unmarked_out : (list : List ℕ) (marks : List Bool) → AreMarks list marks → (k : ℕ) → get_or marks k false ≡ false → In k list → ⊥
unmarked_out list marks are k is i = let both : true ≡ false = sym (has-In k list i) ∙ are k ∙ is in cc
