-- A number is put into the list of a question exactly where it is new.
use Rattle.std.proofs.Common.{◌≡◌, ℕ, List, [], ◌∷◌, ◌++◌, map, inl, inr, refl, sym, subst, rules, true, false}
use Rattle.std.specs.Prelude.{nat_eq, ◌||◌}
use Rattle.std.specs.List.{list_any}
use Rattle.wy_text.specs.Members.{In}
use Rattle.wy_subtype.specs.declared.entry.Entry.{Entry}
use Rattle.wy_subtype.specs.Work.{entry_node, entry_of, IsAdded}

equal_numbers : (a b : ℕ) → nat_eq a b ≡ true → b ≡ a
equal_numbers a b e = search rules

number_itself : (a : ℕ) → nat_eq a a ≡ true
number_itself a = search rules

pub number_in : (n : ℕ) (ns : List ℕ) → list_any (nat_eq n) ns ≡ true → In n ns
number_in n [] e = absurd (cc)
number_in n (m ∷ ns) e =
    elim (nat_eq n m) as (λ b. nat_eq n m ≡ b → b || list_any (nat_eq n) ns ≡ true → In n (m ∷ ns)) [
      | true ↦ λ h g. inl (equal_numbers n m h)
      | false ↦ λ h g. inr (number_in n ns g)
    ] refl e

pub number_not_in : (n : ℕ) (ns : List ℕ) → list_any (nat_eq n) ns ≡ false → In n ns → ⊥
number_not_in n [] e i = i
number_not_in n (m ∷ ns) e i =
    elim (nat_eq n m) as (λ b. nat_eq n m ≡ b → b || list_any (nat_eq n) ns ≡ false → ⊥) [
      | true ↦ λ h g. cc
      | false ↦ λ h g. elim i [
        | inl same ↦ (let P : ℕ → Type 0 = λ v. nat_eq n v ≡ true in let t : nat_eq n m ≡ true = subst P (sym same) (number_itself n) in cc)
        | inr j ↦ number_not_in n ns g j
      ]
    ] refl e

module _ (old : List Entry) (n parent : ℕ) (numbers : List ℕ) (same : numbers ≡ map entry_node old) where
  pub added_before : list_any (nat_eq n) numbers ≡ true → IsAdded old n parent old
  added_before h = let P : List ℕ → Type 0 = λ l. In n l in inl (subst P same (number_in n numbers h), refl)

  pub added_last : (new : List Entry) → list_any (nat_eq n) numbers ≡ false → new ≡ old ++ entry_of n parent ∷ [] → IsAdded old n parent new
  added_last new h e = let P : List ℕ → Type 0 = λ l. In n l → ⊥ in inr (subst P same (number_not_in n numbers h), e)
