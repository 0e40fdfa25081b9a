-- One turn of a loop over a list.
use Rattle.std.proofs.Common.{◌≡◌, ℕ, ◌+◌, ◌<◌, List, [], ◌∷◌, ◌++◌, map, length, drop, take, get_or, sym, ap, ◌∙◌}
use Rattle.std.proofs.lemmas.List.{take_more, drop_more, map-append}

-- what is done, with the next element
pub taken : {X : Type 0} (xs : List X) (i : ℕ) (x : X) → i < length xs → x ≡ get_or xs i x → take i xs ++ x ∷ [] ≡ take (i + 1) xs
taken {X} xs i x lt at = ap (λ (v : X). take i xs ++ v ∷ []) at ∙ sym (take_more xs i x lt)

-- what is left, from the next element on
pub next_of : {X : Type 0} (xs : List X) (i : ℕ) (x : X) → i < length xs → x ≡ get_or xs i x → drop i xs ≡ x ∷ drop (i + 1) xs
next_of {X} xs i x lt at = drop_more xs i x lt ∙ ap (λ (v : X). v ∷ drop (i + 1) xs) (sym at)

-- what is done, as two functions give it one after the other
pub mapped_more : {X Y Z : Type 0} (f : Y → Z) (g : X → Y) (xs : List X) (i : ℕ) (x : X) → i < length xs → x ≡ get_or xs i x →
    map f (map g (take i xs)) ++ f (g x) ∷ [] ≡ map f (map g (take (i + 1) xs))
mapped_more f g xs i x lt at =
    sym (map-append f (map g (take i xs)) (g x ∷ [])) ∙ ap (map f) (sym (map-append g (take i xs) (x ∷ []))) ∙ ap (λ l. map f (map g l)) (taken xs i x lt at)
