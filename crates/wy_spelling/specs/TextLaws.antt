-- Texts: how many bytes, and the bytes.
use Rattle.std.proofs.Common.{◌≡◌, ℕ, ◌≤◌, List, [], ◌∷◌, ◌++◌, length, refl, ap, ◌∙◌, arith, lit<}
use Rattle.wy_spelling.specs.NumberLaws.{numbers_apart}
use Rattle.wy_spelling.specs.Spelling.{AreApart}
use Rattle.wy_spelling.specs.Plain.{IsTextSpelled, text_bytes}

pub some_text : (t : List ℕ) × IsTextSpelled t
some_text = ([], lit< tt)

pub texts_filled : (t : List ℕ) → 1 ≤ length (text_bytes t)
texts_filled t = omega arith

-- lists of one length are apart in front of what follows
fronts_apart : (xs ys others more : List ℕ) → length xs ≡ length ys → xs ++ others ≡ ys ++ more
    → (xs ≡ ys) × (others ≡ more)
fronts_apart [] [] others more l e = (refl, e)
fronts_apart [] (y ∷ ys) others more l e = absurd cc
fronts_apart (x ∷ xs) [] others more l e = absurd cc
fronts_apart (x ∷ xs) (y ∷ ys) others more l e =
    let head : x ≡ y = cc in
    let shorter : length xs ≡ length ys = cc in
    let tails : xs ++ others ≡ ys ++ more = cc in
    let both = fronts_apart xs ys others more shorter tails in
    (ap (λ (n : ℕ). n ∷ xs) head ∙ ap (λ (t : List ℕ). y ∷ t) both.0, both.1)

pub texts_apart : AreApart IsTextSpelled text_bytes
texts_apart xs ys others more is_x is_y e =
    let one = numbers_apart (length xs) (length ys) (xs ++ others) (ys ++ more) is_x is_y e in
    fronts_apart xs ys others more one.0 one.1
