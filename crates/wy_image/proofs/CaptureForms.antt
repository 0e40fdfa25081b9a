-- The forms of captured values.
use Rattle.std.proofs.Common.{◌≡◌, ◌≢◌, ◌⊎◌, ℕ, ◌<◌, ◌≤◌, List, ◌∷◌, get_or, sym, ap, inl, inr, arith}
use Rattle.wy_spelling.specs.Kinds.{number_kind}
use Rattle.wy_spelling.specs.Spelling.{IsNumber, number_bytes}
use Rattle.wy_spelling.proofs.Forms.{IsForm}
use Rattle.wy_image.specs.CaptureLaws.{capture_kind}
use Rattle.wy_image.specs.Spelled.{IsCaptureSpelled, capture_bytes}
use Rattle.wy_image.specs.declared.file.Capture.{Capture}
use Rattle.wy_image.specs.declared.file.Capture.TheVariants as v
use Rattle.wy_image.proofs.Ranges.{one_of_2}

form_most : (x : Capture) → get_or (capture_bytes x) 0 0 ≤ 1
form_most (v.Slot n) = omega arith
form_most (v.Value n) = omega arith

-- a greater byte is of no form
pub other_form : (bytes : List ℕ) → 1 < get_or bytes 0 0 → (x : Capture)
    → get_or (capture_bytes x) 0 0 ≢ get_or bytes 0 0
other_form bytes more x same = omega (arith, more, form_most x, same)

number_into : (f : ℕ) → (f ≡ 0) ⊎ (f ≡ 1) → (n : ℕ) → IsNumber n
    → (x : Capture) × IsCaptureSpelled x × (capture_bytes x ≡ f ∷ number_bytes n)
number_into f (inl e) n is = (v.Slot n, is, ap (λ (form : ℕ). form ∷ number_bytes n) (sym e))
number_into f (inr e) n is = (v.Value n, is, ap (λ (form : ℕ). form ∷ number_bytes n) (sym e))

number_from : (f : ℕ) → 0 ≤ f → (x : Capture) (others : List ℕ) → IsCaptureSpelled x → capture_bytes x ≡ f ∷ others
    → (n : ℕ) × IsNumber n × (others ≡ number_bytes n)
number_from f low (v.Slot n) others is e = (n, is, cc)
number_from f low (v.Value n) others is e = (n, is, cc)

-- those that have a number
pub number_form : (f : ℕ) → 0 ≤ f → f ≤ 1 → IsForm number_kind capture_kind f
number_form f low high = record { into = number_into f (one_of_2 0 f low high); from = number_from f low }
