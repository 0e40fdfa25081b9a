-- What goes on behind the byte of a type's form.
use Rattle.std.proofs.Common.{◌≡◌, ℕ, ◌<◌, ◌≤◌, List, [], ◌∷◌, ◌++◌, length, get_or, refl, sym, ap, ◌∙◌, arith}
use Rattle.std.proofs.lemmas.List.{append-nil}
use Rattle.wy_spelling.specs.Spelling.{AreBoth, AreSpelled, IsNumber, IsStuck, both_bytes, list_bytes, number_bytes}
use Rattle.wy_spelling.proofs.Fronts.{GoesOn, stuck_at_first}
use Rattle.wy_cert.specs.Spelled.{IsSetSpelled, IsTypeSpelled, set_bytes, type_bytes}
use Rattle.wy_cert.specs.declared.certificate.CertType.{CertType}
use Rattle.wy_cert.specs.declared.certificate.CertType.TheVariants as typ

-- the form's byte
abbrev pub form_of : CertType → ℕ
form_of t = get_or (type_bytes t) 0 0

form_bound : (t : CertType) → form_of t ≤ 6
form_bound typ.Int = omega arith
form_bound typ.Bool = omega arith
form_bound typ.Text = omega arith
form_bound typ.Unit = omega arith
form_bound (typ.Named d es) = omega arith
form_bound (typ.At d s) = omega arith
form_bound (typ.Own l) = omega arith

pub no_byte : (bytes : List ℕ) → length bytes < 1 → IsStuck IsTypeSpelled type_bytes bytes 0
no_byte bytes none =
    let nothing : length bytes ≡ 0 = omega arith in
    rw nothing at (stuck_at_first IsTypeSpelled type_bytes bytes (typ.Int, 0, [], tt, refl) (λ next behind at t others is e. omega (arith, nothing, ap (λ (s : List ℕ). length s) at)))

pub no_form : (bytes : List ℕ) → 6 < get_or bytes 0 0 → IsStuck IsTypeSpelled type_bytes bytes (length bytes)
no_form bytes more =
    stuck_at_first IsTypeSpelled type_bytes bytes (typ.Int, 0, [], tt, refl)
    (λ next behind at t others is e. omega (arith, more, form_bound t, ap (λ (s : List ℕ). get_or s 0 0) at, ap (λ (s : List ℕ). get_or s 0 0) e))

named_from : (t : CertType) (others : List ℕ) → IsTypeSpelled t → type_bytes t ≡ 4 ∷ others
    → (p : ℕ × List (List ℕ)) × (more : List ℕ) × AreBoth IsNumber (AreSpelled IsSetSpelled) p × (others ≡ both_bytes number_bytes (list_bytes set_bytes) p ++ more)
named_from (typ.Named d es) others is e =
    let tail : both_bytes number_bytes (list_bytes set_bytes) (d, es) ≡ others = cc in
    ((d, es), [], is, sym tail ∙ sym (append-nil (both_bytes number_bytes (list_bytes set_bytes) (d, es))))
named_from t others is e = absurd cc

pub named_goes : GoesOn (AreBoth IsNumber (AreSpelled IsSetSpelled)) (both_bytes number_bytes (list_bytes set_bytes)) IsTypeSpelled type_bytes (4 ∷ [])
named_goes = record {
  into = λ p is. (typ.Named p.0 p.1, [], is, ap (λ (t : List ℕ). 4 ∷ t) (sym (append-nil (both_bytes number_bytes (list_bytes set_bytes) p))));
  from = named_from;
}

at_from : (t : CertType) (others : List ℕ) → IsTypeSpelled t → type_bytes t ≡ 5 ∷ others
    → (p : ℕ × List ℕ) × (more : List ℕ) × AreBoth IsNumber IsSetSpelled p × (others ≡ both_bytes number_bytes set_bytes p ++ more)
at_from (typ.At d s) others is e =
    let tail : both_bytes number_bytes set_bytes (d, s) ≡ others = cc in
    ((d, s), [], is, sym tail ∙ sym (append-nil (both_bytes number_bytes set_bytes (d, s))))
at_from t others is e = absurd cc

pub at_goes : GoesOn (AreBoth IsNumber IsSetSpelled) (both_bytes number_bytes set_bytes) IsTypeSpelled type_bytes (5 ∷ [])
at_goes = record {
  into = λ p is. (typ.At p.0 p.1, [], is, ap (λ (t : List ℕ). 5 ∷ t) (sym (append-nil (both_bytes number_bytes set_bytes p))));
  from = at_from;
}

own_from : (t : CertType) (others : List ℕ) → IsTypeSpelled t → type_bytes t ≡ 6 ∷ others → (l : ℕ) × (more : List ℕ) × IsNumber l × (others ≡ number_bytes l ++ more)
own_from (typ.Own l) others is e =
    let tail : number_bytes l ≡ others = cc in
    (l, [], is, sym tail)
own_from t others is e = absurd cc

pub own_goes : GoesOn IsNumber number_bytes IsTypeSpelled type_bytes (6 ∷ [])
own_goes = record { into = λ l is. (typ.Own l, [], is, refl); from = own_from }
