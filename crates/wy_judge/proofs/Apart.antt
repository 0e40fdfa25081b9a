-- Lists one after the other whose elements all differ.
use Rattle.std.proofs.Common.{List, [], ◌∷◌, ◌++◌, inl, inr, sym, subst}
use Rattle.wy_text.specs.Members.{In, Apart}
use Rattle.wy_text.proofs.Lists.{In-left, In-right}

pub Apart-left : {X : Type 0} (xs ys : List X) → Apart (xs ++ ys) → Apart xs
Apart-left [] ys a = tt
Apart-left (x ∷ xs) ys a = (λ i. a.0 (In-left x xs ys i), Apart-left xs ys a.1)

pub Apart-right : {X : Type 0} (xs ys : List X) → Apart (xs ++ ys) → Apart ys
Apart-right [] ys a = a
Apart-right (x ∷ xs) ys a = Apart-right xs ys a.1

-- what is in the first is not in the second
pub Apart-across : {X : Type 0} (x : X) (xs ys : List X) → Apart (xs ++ ys) → In x xs → In x ys → ⊥
Apart-across x [] ys a i j = i
Apart-across {X} x (y ∷ xs) ys a i j =
    elim i [
      | inl e ↦ a.0 (In-right y xs ys (subst (λ (v : X). In v ys) (sym e) j))
      | inr h ↦ Apart-across x xs ys a.1 h j
    ]
