-- The forms of references.
use Rattle.std.proofs.Common.{◌≡◌, ◌≢◌, ◌⊎◌, ℕ, ◌<◌, ◌≤◌, List, ◌∷◌, get_or, sym, ap, inl, inr, arith}
use Rattle.wy_spelling.specs.Kinds.{number_kind}
use Rattle.wy_spelling.specs.Spelling.{IsNumber, number_bytes}
use Rattle.wy_spelling.proofs.Forms.{IsForm}
use Rattle.wy_image.specs.ReferenceLaws.{reference_kind}
use Rattle.wy_image.specs.Spelled.{IsReferenceSpelled, reference_bytes}
use Rattle.wy_image.specs.declared.typing.Reference.{Reference}
use Rattle.wy_image.specs.declared.typing.Reference.TheVariants as v
use Rattle.wy_image.proofs.Ranges.{one_of_4}

form_most : (x : Reference) → get_or (reference_bytes x) 0 0 ≤ 7
form_most v.Int = omega arith
form_most v.Truth = omega arith
form_most v.Bytes = omega arith
form_most v.Unit = omega arith
form_most (v.Listed n) = omega arith
form_most (v.Literal n) = omega arith
form_most (v.Grant n) = omega arith
form_most (v.Instance n) = omega arith

-- a greater byte is of no form
pub other_form : (bytes : List ℕ) → 7 < get_or bytes 0 0 → (x : Reference)
    → get_or (reference_bytes x) 0 0 ≢ get_or bytes 0 0
other_form bytes more x same = omega (arith, more, form_most x, same)

number_into : (f : ℕ) → (f ≡ 4) ⊎ (f ≡ 5) ⊎ (f ≡ 6) ⊎ (f ≡ 7) → (n : ℕ) → IsNumber n
    → (x : Reference) × IsReferenceSpelled x × (reference_bytes x ≡ f ∷ number_bytes n)
number_into f (inl e) n is = (v.Listed n, is, ap (λ (form : ℕ). form ∷ number_bytes n) (sym e))
number_into f (inr (inl e)) n is = (v.Literal n, is, ap (λ (form : ℕ). form ∷ number_bytes n) (sym e))
number_into f (inr (inr (inl e))) n is = (v.Grant n, is, ap (λ (form : ℕ). form ∷ number_bytes n) (sym e))
number_into f (inr (inr (inr e))) n is = (v.Instance n, is, ap (λ (form : ℕ). form ∷ number_bytes n) (sym e))

number_from : (f : ℕ) → 4 ≤ f → (x : Reference) (others : List ℕ) → IsReferenceSpelled x
    → reference_bytes x ≡ f ∷ others
    → (n : ℕ) × IsNumber n × (others ≡ number_bytes n)
number_from f low v.Int others is e = absurd (let form : 0 ≡ f = cc in omega (arith, low, form))
number_from f low v.Truth others is e = absurd (let form : 1 ≡ f = cc in omega (arith, low, form))
number_from f low v.Bytes others is e = absurd (let form : 2 ≡ f = cc in omega (arith, low, form))
number_from f low v.Unit others is e = absurd (let form : 3 ≡ f = cc in omega (arith, low, form))
number_from f low (v.Listed n) others is e = (n, is, cc)
number_from f low (v.Literal n) others is e = (n, is, cc)
number_from f low (v.Grant n) others is e = (n, is, cc)
number_from f low (v.Instance n) others is e = (n, is, cc)

-- those that have a number
pub number_form : (f : ℕ) → 4 ≤ f → f ≤ 7 → IsForm number_kind reference_kind f
number_form f low high = record { into = number_into f (one_of_4 4 f low high); from = number_from f low }
