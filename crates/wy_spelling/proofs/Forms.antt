-- Kinds of several forms: the first byte says the form, and what that form has follows it.
use Rattle.std.proofs.Common.{◌≡◌, ◌≢◌, ℕ, suc, ◌-◌, ◌<◌, ◌≤◌, List, [], ◌∷◌}
use Rattle.std.proofs.Common.{length, get_or, take, drop, refl, sym, ap, ◌∙◌, subst, arith}
use Rattle.std.proofs.lemmas.List.{append-nil, take_all}
use Rattle.wy_spelling.specs.Kinds.{Kind}
use Rattle.wy_spelling.specs.Reading.{IsRefused}
use Rattle.wy_spelling.specs.Spelling.{CanGoOn, IsStuck}
use Rattle.wy_spelling.specs.declared.spelled.ReadError.{ReadError}
use Rattle.wy_spelling.proofs.Fronts.{GoesOn, refused_behind, stuck_at_first}

-- the bytes after the first
abbrev pub behind_first : List ℕ → List ℕ
behind_first bytes = take (length bytes - 1) (drop 1 bytes)

first_is : (bytes : List ℕ) (first : ℕ) → 0 < length bytes → get_or bytes 0 0 ≡ first
    → bytes ≡ first ∷ behind_first bytes
first_is [] first some e = absurd (omega arith)
first_is (b ∷ bytes) first some e =
    ap (λ (n : ℕ). n ∷ bytes) e
    ∙ ap (λ (t : List ℕ). first ∷ t) (sym (take_all (suc (length bytes) - 1) bytes (omega arith)))

module _ (kind : Kind) where
  begins : CanGoOn kind.IsSpelled kind.bytes_of []
  begins = of (kind.bytes_of kind.some.0) refl (kind.filled kind.some.0)
    where
      of : (bytes : List ℕ) → kind.bytes_of kind.some.0 ≡ bytes → 1 ≤ length bytes
          → CanGoOn kind.IsSpelled kind.bytes_of []
      of [] e l = absurd (omega arith)
      of (b ∷ bytes) e l = (kind.some.0, b, bytes, kind.some.1, e)

  -- there is no byte
  pub no_byte : (bytes : List ℕ) → length bytes < 1 → IsStuck kind.IsSpelled kind.bytes_of bytes 0
  no_byte bytes none =
      let nothing : length bytes ≡ 0 = omega arith in
      rw nothing at (stuck_at_first kind.IsSpelled kind.bytes_of bytes begins
      (λ next behind at x others is e. omega (arith, nothing, ap (λ (s : List ℕ). length s) at)))

  -- no value begins with the first byte
  pub no_form : (bytes : List ℕ) → ((x : kind.Value) → get_or (kind.bytes_of x) 0 0 ≢ get_or bytes 0 0)
      → IsStuck kind.IsSpelled kind.bytes_of bytes (length bytes)
  no_form bytes other =
      stuck_at_first kind.IsSpelled kind.bytes_of bytes begins
      (λ next behind at x others is e.
      other x (ap (λ (s : List ℕ). get_or s 0 0) e ∙ sym (ap (λ (s : List ℕ). get_or s 0 0) at)))

-- what a form has, and the whole
module _ (part whole : Kind) where
  -- the form's byte goes on with each value that the form has, and with nothing else
  pub record IsForm (form : ℕ) : Type 0 where
    pub into : (x : part.Value) → part.IsSpelled x
        → (y : whole.Value) × whole.IsSpelled y × (whole.bytes_of y ≡ form ∷ part.bytes_of x)
    pub from : (y : whole.Value) (others : List ℕ) → whole.IsSpelled y → whole.bytes_of y ≡ form ∷ others
        → (x : part.Value) × part.IsSpelled x × (others ≡ part.bytes_of x)

  form_goes : (form : ℕ) → IsForm form → GoesOn part.IsSpelled part.bytes_of whole.IsSpelled whole.bytes_of (form ∷ [])
  form_goes form is_form = record {
    into = λ x is.
        let y = is_form.into x is in
        (y.0, [], y.1, y.2 ∙ ap (λ (t : List ℕ). form ∷ t) (sym (append-nil (part.bytes_of x))));
    from = λ y others is e.
        let x = is_form.from y others is e in
        (x.0, [], x.1, x.2 ∙ sym (append-nil (part.bytes_of x.0)));
  }

  -- a refusal of what the form has is one of the whole
  pub refused_behind_form : (bytes : List ℕ) (form : ℕ) (error : ReadError) → 0 < length bytes → get_or bytes 0 0 ≡ form
      → IsForm form → IsRefused part.IsSpelled part.bytes_of (behind_first bytes) error
      → IsRefused whole.IsSpelled whole.bytes_of bytes error
  refused_behind_form bytes form error some at is_form refused =
      subst (λ (b : List ℕ). IsRefused whole.IsSpelled whole.bytes_of b error) (sym (first_is bytes form some at))
      (refused_behind part.IsSpelled part.bytes_of whole.IsSpelled whole.bytes_of (form ∷ []) (behind_first bytes) error
      part.apart (form_goes form is_form) refused)
