-- The forms of arguments.
use Rattle.std.proofs.Common.{◌≡◌, ◌≢◌, ◌⊎◌, ℕ, ◌<◌, ◌≤◌, List, ◌∷◌, get_or, sym, ap, inl, inr, arith}
use Rattle.wy_spelling.specs.Kinds.{number_kind}
use Rattle.wy_spelling.specs.Spelling.{IsNumber, number_bytes}
use Rattle.wy_spelling.proofs.Forms.{IsForm}
use Rattle.wy_image.specs.ArgumentLaws.{argument_kind}
use Rattle.wy_image.specs.Spelled.{IsArgumentSpelled, argument_bytes}
use Rattle.wy_image.specs.declared.file.Argument.{Argument}
use Rattle.wy_image.specs.declared.file.Argument.TheVariants as v
use Rattle.wy_image.proofs.Ranges.{one_of_2}

form_most : (x : Argument) → get_or (argument_bytes x) 0 0 ≤ 1
form_most (v.Grant n) = omega arith
form_most (v.Instance n) = omega arith

-- a greater byte is of no form
pub other_form : (bytes : List ℕ) → 1 < get_or bytes 0 0 → (x : Argument)
    → get_or (argument_bytes x) 0 0 ≢ get_or bytes 0 0
other_form bytes more x same = omega (arith, more, form_most x, same)

number_into : (f : ℕ) → (f ≡ 0) ⊎ (f ≡ 1) → (n : ℕ) → IsNumber n
    → (x : Argument) × IsArgumentSpelled x × (argument_bytes x ≡ f ∷ number_bytes n)
number_into f (inl e) n is = (v.Grant n, is, ap (λ (form : ℕ). form ∷ number_bytes n) (sym e))
number_into f (inr e) n is = (v.Instance n, is, ap (λ (form : ℕ). form ∷ number_bytes n) (sym e))

number_from : (f : ℕ) → 0 ≤ f → (x : Argument) (others : List ℕ) → IsArgumentSpelled x → argument_bytes x ≡ f ∷ others
    → (n : ℕ) × IsNumber n × (others ≡ number_bytes n)
number_from f low (v.Grant n) others is e = (n, is, cc)
number_from f low (v.Instance n) others is e = (n, is, cc)

-- those that have a number
pub number_form : (f : ℕ) → 0 ≤ f → f ≤ 1 → IsForm number_kind argument_kind f
number_form f low high = record { into = number_into f (one_of_2 0 f low high); from = number_from f low }
