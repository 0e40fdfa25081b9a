-- The number of the first instance of a name, as instances are added at the end of a list.
use Rattle.std.proofs.Common.{◌≡◌, ℕ, suc, ◌+◌, List, [], ◌∷◌, ◌++◌, length, Bool, true, false, cond, refl, sym, ap, ◌∙◌, Option, Some, None, is_some, arith, if◌then◌else◌}
use Rattle.std.specs.Prelude.{bytes_eq}
use Rattle.std.proofs.lemmas.Slice.Eq.{bytes_eq-Decides}
use Rattle.wy_types.specs.declared.linked.Instance.{Instance}
use Rattle.wy_types.specs.Ground.{number_from}

or_else : Option ℕ → Option ℕ → Option ℕ
or_else (Some a) b = Some a
or_else None b = b

one_of : ℕ → Bool → Option ℕ
one_of i b = cond b (Some i) None

number_last : (k : ℕ) (q : List ℕ) (xs : List Instance) (x : Instance) → number_from k q (xs ++ x ∷ []) ≡ or_else (number_from k q xs) (one_of (k + length xs) (bytes_eq x.name q))
unfolding or_else one_of
number_last k q [] x = (let start : k + 0 ≡ k = omega arith in ap (λ j. one_of j (bytes_eq x.name q)) (sym start))
number_last k q (y ∷ ys) x =
    let next : (k + 1) + length ys ≡ k + suc (length ys) = omega arith in
    let P : Bool → Type 0 = λ b. (if b then Some k else number_from (k + 1) q (ys ++ x ∷ [])) ≡ or_else (if b then Some k else number_from (k + 1) q ys) (one_of (k + suc (length ys)) (bytes_eq x.name q)) in
    elim (bytes_eq y.name q) as P [
      | true ↦ refl
      | false ↦ number_last (k + 1) q ys x ∙ ap (λ j. or_else (number_from (k + 1) q ys) (one_of j (bytes_eq x.name q))) next
    ]

or_none : (o : Option ℕ) → or_else o None ≡ o
unfolding or_else
or_none (Some a) = refl
or_none None = refl

or_some : (o b : Option ℕ) → is_some o ≡ true → or_else o b ≡ o
unfolding or_else
or_some (Some a) b h = refl
or_some None b h = cc

or_new : (o b : Option ℕ) → is_some o ≡ false → or_else o b ≡ b
unfolding or_else
or_new (Some a) b h = cc
or_new None b h = refl

same : (a b : List ℕ) → bytes_eq a b ≡ true → a ≡ b
same a b e = (bytes_eq-Decides a b).0 e

module _ (xs : List Instance) (x : Instance) where
  at_end : (q : List ℕ) → or_else (number_from 0 q xs) (one_of (length xs) (bytes_eq x.name q)) ≡ number_from 0 q (xs ++ x ∷ [])
  at_end q = (let start : 0 + length xs ≡ length xs = omega arith in ap (λ n. or_else (number_from 0 q xs) (one_of n (bytes_eq x.name q))) (sym start)) ∙ sym (number_last 0 q xs x)

  -- the name was there
  pub number_kept : is_some (number_from 0 x.name xs) ≡ true → (q : List ℕ) → number_from 0 q xs ≡ number_from 0 q (xs ++ x ∷ [])
  unfolding one_of
  number_kept there q =
      let P : Bool → Type 0 = λ b. bytes_eq x.name q ≡ b → number_from 0 q xs ≡ or_else (number_from 0 q xs) (one_of (length xs) b) in
      let h = elim (bytes_eq x.name q) as P [
        | true ↦ λ e. sym (or_some (number_from 0 q xs) _ (ap (λ y. is_some (number_from 0 y xs)) (sym (same x.name q e)) ∙ there))
        | false ↦ λ e. sym (or_none (number_from 0 q xs))
      ] refl in
      h ∙ at_end q

  -- it was not
  pub number_new : is_some (number_from 0 x.name xs) ≡ false → (q : List ℕ) → cond (bytes_eq x.name q) (Some (length xs)) (number_from 0 q xs) ≡ number_from 0 q (xs ++ x ∷ [])
  unfolding one_of
  number_new absent q =
      let P : Bool → Type 0 = λ b. bytes_eq x.name q ≡ b → cond b (Some (length xs)) (number_from 0 q xs) ≡ or_else (number_from 0 q xs) (one_of (length xs) b) in
      let h = elim (bytes_eq x.name q) as P [
        | true ↦ λ e. sym (or_new (number_from 0 q xs) _ (ap (λ y. is_some (number_from 0 y xs)) (sym (same x.name q e)) ∙ absent))
        | false ↦ λ e. sym (or_none (number_from 0 q xs))
      ] refl in
      h ∙ at_end q
