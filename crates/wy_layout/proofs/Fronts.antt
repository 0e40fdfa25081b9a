-- Lines and indentations by how far bytes of a class go.
use Rattle.std.proofs.Common.{◌≡◌, ℕ, zero, suc, ◌-◌, ◌<◌, ◌==◌, Bool, true, false, cond, not, List, [], ◌∷◌, inl, inr, length, get_or, drop, refl, sym, ap, ◌∙◌, arith, subst, ◌⊎◌, ◌||◌, ◌&&◌}
use Rattle.std.proofs.lemmas.Bool.{eq-eqb, eqb-true, true≢false}
use Rattle.wy_lanes.specs.Classes.{is_newline, is_space}
use Rattle.wy_lanes.specs.Runs.{front_len}
use Rattle.wy_layout.specs.Lines.{after_spaces, content_of, ends_line, width}
use Rattle.wy_layout.specs.Cut.{HasReturn, line_len}
use Rattle.wy_layout.proofs.Cutting.{content_goes, content_stops}

-- a line is the gap before a newline
pub line_is : (bs : List ℕ) → front_len (λ b. not (is_newline b)) bs ≡ line_len bs
line_is [] = refl
line_is (b ∷ bs) = go (b == 10) (line_is bs)
  where
    go : (t : Bool) → front_len (λ b. not (is_newline b)) bs ≡ line_len bs → cond (not t) (suc (front_len (λ b. not (is_newline b)) bs)) 0 ≡ cond t 0 (suc (line_len bs))
    go true h = refl
    go false h = ap suc h

-- an indentation is the run of spaces
pub width_is : (bs : List ℕ) → front_len is_space bs ≡ width bs
width_is [] = refl
width_is (b ∷ bs) = ap (λ (n : ℕ). cond (b == 32) (suc n) 0) (width_is bs)

pub after_is : (bs : List ℕ) → drop (width bs) bs ≡ after_spaces bs
after_is [] = refl
after_is (b ∷ bs) = go (b == 32) (after_is bs)
  where
    go : (t : Bool) → drop (width bs) bs ≡ after_spaces bs → drop (cond t (suc (width bs)) 0) (b ∷ bs) ≡ cond t (after_spaces bs) (b ∷ bs)
    go true h = h
    go false h = refl

------------------------------------------------------------
-- What stands before a line's end

-- how many bytes of a line of so many bytes do: one less where it ends with a carriage return before a newline
abbrev Stands : List ℕ → ℕ → ℕ → Type 0
Stands bs len n = (HasReturn bs len × (n ≡ len - 1)) ⊎ ((HasReturn bs len → ⊥) × (n ≡ len))

none : (bs : List ℕ) (len : ℕ) → len ≡ 0 → HasReturn bs len → ⊥
none bs len e h = let l = h.0 in omega (arith, l, e)

-- a newline is at the front
at_newline : (b : ℕ) (bs : List ℕ) → (b == 10) ≡ true → (line_len (b ∷ bs) ≡ 0) × (content_of (b ∷ bs) ≡ [])
at_newline b [] e = (rw e refl, content_stops (b ∷ []) e)
at_newline b (c ∷ cs) e = (rw e refl, content_stops (b ∷ c ∷ cs) (rw e refl))

past_other : (b : ℕ) (bs : List ℕ) → (b == 10) ≡ false → line_len (b ∷ bs) ≡ suc (line_len bs)
past_other b bs e = rw e refl

same_place : (a : ℕ) (bs : List ℕ) (k : ℕ) → get_or (a ∷ bs) (suc (suc k) - 1) 0 ≡ get_or bs (suc k - 1) 0
same_place a bs k =
    let e1 : suc (suc k) - 1 ≡ suc k = omega arith in
    let e2 : suc k - 1 ≡ k = omega arith in
    ap (λ (i : ℕ). get_or (a ∷ bs) i 0) e1 ∙ sym (ap (λ (i : ℕ). get_or bs i 0) e2)

-- one byte more in front of a line that is not empty
one_more : (a : ℕ) (bs : List ℕ) (m n : ℕ) → 0 < m → Stands bs m n → Stands (a ∷ bs) (suc m) (suc n)
one_more a bs zero n some s = absurd (omega (arith, some))
one_more a bs (suc k) n some (inl r) = inl ((omega arith, (let l = r.0.1 in omega (arith, l)), same_place a bs k ∙ r.0.2), (let e = r.1 in omega (arith, e)))
one_more a bs (suc k) n some (inr r) = inr ((λ h. r.0 (omega arith, (let l = h.1 in omega (arith, l)), sym (same_place a bs k) ∙ h.2)), ap suc r.1)

ends : (a b : ℕ) (cs : List ℕ) → (a == 10) ≡ false → (b == 10) ≡ true → ends_line (a ∷ b ∷ cs) ≡ (a == 13)
ends a b cs e f = rw e rw f (go (a == 13))
  where
    go : (t : Bool) → (false || (t && true)) ≡ t
    go true = refl
    go false = refl

no_end : (a b : ℕ) (cs : List ℕ) → (a == 10) ≡ false → (b == 10) ≡ false → ends_line (a ∷ b ∷ cs) ≡ false
no_end a b cs e f = rw e rw f (go (a == 13))
  where
    go : (t : Bool) → (false || (t && false)) ≡ false
    go true = refl
    go false = refl

pub stands : (bs : List ℕ) → Stands bs (line_len bs) (length (content_of bs))
stands [] = inr (none [] 0 refl, refl)
stands (a ∷ []) =
    elim (a == 10) as (λ t. (a == 10) ≡ t → Stands (a ∷ []) (line_len (a ∷ [])) (length (content_of (a ∷ [])))) [
      | true ↦ λ e. (let z = at_newline a [] e in inr (none (a ∷ []) (line_len (a ∷ [])) z.0, ap length z.1 ∙ sym z.0))
      | false ↦ λ e. (let l : line_len (a ∷ []) ≡ 1 = past_other a [] e in
          inr ((λ h. (let w = h.1 in omega (arith, w, l))), ap length (content_goes a [] e) ∙ sym l))
    ] refl
stands (a ∷ b ∷ cs) =
    elim (a == 10) as (λ t. (a == 10) ≡ t → Stands (a ∷ b ∷ cs) (line_len (a ∷ b ∷ cs)) (length (content_of (a ∷ b ∷ cs)))) [
      | true ↦ λ e. (let z = at_newline a (b ∷ cs) e in inr (none (a ∷ b ∷ cs) (line_len (a ∷ b ∷ cs)) z.0, ap length z.1 ∙ sym z.0))
      | false ↦ λ e. other e (stands (b ∷ cs))
    ] refl
  where
    other : (a == 10) ≡ false → Stands (b ∷ cs) (line_len (b ∷ cs)) (length (content_of (b ∷ cs))) → Stands (a ∷ b ∷ cs) (line_len (a ∷ b ∷ cs)) (length (content_of (a ∷ b ∷ cs)))
    other e later =
        let l = past_other a (b ∷ cs) e in
        elim (b == 10) as (λ t. (b == 10) ≡ t → Stands (a ∷ b ∷ cs) (line_len (a ∷ b ∷ cs)) (length (content_of (a ∷ b ∷ cs)))) [
          | true ↦ λ f. (let z = at_newline b cs f in
              let l1 : line_len (a ∷ b ∷ cs) ≡ 1 = l ∙ ap suc z.0 in
              elim (a == 13) as (λ t. (a == 13) ≡ t → Stands (a ∷ b ∷ cs) (line_len (a ∷ b ∷ cs)) (length (content_of (a ∷ b ∷ cs)))) [
                | true ↦ λ g. (let n0 : length (content_of (a ∷ b ∷ cs)) ≡ 0 = ap length (content_stops (a ∷ b ∷ cs) (ends a b cs e f ∙ g)) in
                    inl ((omega (arith, l1), omega (arith, l1), ap (λ (n : ℕ). get_or (a ∷ b ∷ cs) (n - 1) 0) l1 ∙ eqb-true a 13 g), omega (arith, n0, l1)))
                | false ↦ λ g. (let n1 : length (content_of (a ∷ b ∷ cs)) ≡ 1 = ap length (content_goes a (b ∷ cs) (ends a b cs e f ∙ g) ∙ ap (λ (xs : List ℕ). a ∷ xs) z.1) in
                    inr ((λ h. true≢false (sym (eq-eqb a 13 (sym (ap (λ (n : ℕ). get_or (a ∷ b ∷ cs) (n - 1) 0) l1) ∙ h.2)) ∙ g)), n1 ∙ sym l1))
              ] refl)
          | false ↦ λ f. (let goes = ap length (content_goes a (b ∷ cs) (no_end a b cs e f)) in
              let some = past_other b cs f in
              let more = one_more a (b ∷ cs) (line_len (b ∷ cs)) (length (content_of (b ∷ cs))) (omega (arith, some)) later in
              subst (λ (m : ℕ). Stands (a ∷ b ∷ cs) m (length (content_of (a ∷ b ∷ cs)))) (sym l) (subst (λ (n : ℕ). Stands (a ∷ b ∷ cs) (suc (line_len (b ∷ cs))) n) (sym goes) more))
        ] refl

pub returned : (bs : List ℕ) → HasReturn bs (line_len bs) → line_len bs - 1 ≡ length (content_of bs)
returned bs h = elim (stands bs) [ inl r ↦ sym r.1 | inr r ↦ absurd (r.0 h) ]

pub unreturned : (bs : List ℕ) → (HasReturn bs (line_len bs) → ⊥) → line_len bs ≡ length (content_of bs)
unreturned bs n = elim (stands bs) [ inl r ↦ absurd (n r.0) | inr r ↦ sym r.1 ]
