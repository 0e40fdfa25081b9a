-- The forms of constants.
use Rattle.std.proofs.Common.{◌≡◌, ◌≢◌, ◌⊎◌, ℕ, ℤ, Bool, ◌<◌, ◌≤◌, List, ◌∷◌, get_or, refl, sym, ap, inl, inr, arith}
use Rattle.wy_spelling.specs.Kinds.{int_kind, number_kind, text_kind, truth_kind}
use Rattle.wy_spelling.specs.Plain.{IsIntSpelled, IsTextSpelled, IsTruthSpelled, int_bytes, text_bytes, truth_bytes}
use Rattle.wy_spelling.specs.Spelling.{IsNumber, number_bytes}
use Rattle.wy_spelling.proofs.Forms.{IsForm}
use Rattle.wy_image.specs.ConstantLaws.{constant_kind}
use Rattle.wy_image.specs.Spelled.{IsConstantSpelled, constant_bytes}
use Rattle.wy_image.specs.declared.file.Constant.{Constant}
use Rattle.wy_image.specs.declared.file.Constant.TheVariants as v
use Rattle.wy_image.proofs.Ranges.{one_of_2}

form_most : (x : Constant) → get_or (constant_bytes x) 0 0 ≤ 5
form_most (v.Int n) = omega arith
form_most (v.Truth b) = omega arith
form_most v.Unit = omega arith
form_most (v.Text t) = omega arith
form_most (v.Grant n) = omega arith
form_most (v.Instance n) = omega arith

-- a greater byte is of no form
pub other_form : (bytes : List ℕ) → 5 < get_or bytes 0 0 → (x : Constant)
    → get_or (constant_bytes x) 0 0 ≢ get_or bytes 0 0
other_form bytes more x same = omega (arith, more, form_most x, same)

int_from : (x : Constant) (others : List ℕ) → IsConstantSpelled x → constant_bytes x ≡ 0 ∷ others
    → (n : ℤ) × IsIntSpelled n × (others ≡ int_bytes n)
int_from (v.Int n) others is e = (n, is, cc)
int_from x others is e = absurd cc

pub int_form : IsForm int_kind constant_kind 0
int_form = record { into = λ n is. (v.Int n, is, refl); from = int_from }

truth_from : (x : Constant) (others : List ℕ) → IsConstantSpelled x → constant_bytes x ≡ 1 ∷ others
    → (b : Bool) × IsTruthSpelled b × (others ≡ truth_bytes b)
truth_from (v.Truth b) others is e = (b, is, cc)
truth_from x others is e = absurd cc

pub truth_form : IsForm truth_kind constant_kind 1
truth_form = record { into = λ b is. (v.Truth b, is, refl); from = truth_from }

text_from : (x : Constant) (others : List ℕ) → IsConstantSpelled x → constant_bytes x ≡ 3 ∷ others
    → (t : List ℕ) × IsTextSpelled t × (others ≡ text_bytes t)
text_from (v.Text t) others is e = (t, is, cc)
text_from x others is e = absurd cc

pub text_form : IsForm text_kind constant_kind 3
text_form = record { into = λ t is. (v.Text t, is, refl); from = text_from }

number_into : (f : ℕ) → (f ≡ 4) ⊎ (f ≡ 5) → (n : ℕ) → IsNumber n
    → (x : Constant) × IsConstantSpelled x × (constant_bytes x ≡ f ∷ number_bytes n)
number_into f (inl e) n is = (v.Grant n, is, ap (λ (form : ℕ). form ∷ number_bytes n) (sym e))
number_into f (inr e) n is = (v.Instance n, is, ap (λ (form : ℕ). form ∷ number_bytes n) (sym e))

number_from : (f : ℕ) → 4 ≤ f → (x : Constant) (others : List ℕ) → IsConstantSpelled x → constant_bytes x ≡ f ∷ others
    → (n : ℕ) × IsNumber n × (others ≡ number_bytes n)
number_from f low (v.Int n) others is e = absurd (let form : 0 ≡ f = cc in omega (arith, low, form))
number_from f low (v.Truth b) others is e = absurd (let form : 1 ≡ f = cc in omega (arith, low, form))
number_from f low v.Unit others is e = absurd (let form : 2 ≡ f = cc in omega (arith, low, form))
number_from f low (v.Text t) others is e = absurd (let form : 3 ≡ f = cc in omega (arith, low, form))
number_from f low (v.Grant n) others is e = (n, is, cc)
number_from f low (v.Instance n) others is e = (n, is, cc)

-- those that have a number
pub number_form : (f : ℕ) → 4 ≤ f → f ≤ 5 → IsForm number_kind constant_kind f
number_form f low high = record { into = number_into f (one_of_2 4 f low high); from = number_from f low }
