-- Cutting a line off.
use Rattle.std.proofs.Common.{◌≡◌, ℕ, suc, ◌+◌, ◌<◌, ◌≤◌, ◌==◌, Bool, true, false, cond, List, [], ◌∷◌, length, drop, take, refl, ap, ◌∙◌, arith}
use Rattle.wy_layout.specs.Lines.{Line, later_lines, line_at, next_row, content_of, ends_line}
use Rattle.wy_layout.specs.declared.row.Row.{Row}
use Rattle.wy_layout.specs.Cut.{line_len}

pub len_within : (bs : List ℕ) → line_len bs ≤ length bs
len_within [] = omega arith
len_within (b ∷ bs) = go (b == 10) (len_within bs)
  where
    go : (t : Bool) → line_len bs ≤ length bs → cond t 0 (suc (line_len bs)) ≤ length (b ∷ bs)
    go true h = omega arith
    go false h = omega arith

-- the last line
pub last : (row : Row) (at : ℕ) (bs : List ℕ) → line_len bs ≡ length bs → later_lines row at bs ≡ []
last row at [] h = refl
last row at (b ∷ bs) h = go (b == 10) h (λ k. last row (suc at) bs k)
  where
    go : (t : Bool) → cond t 0 (suc (line_len bs)) ≡ length (b ∷ bs) → (line_len bs ≡ length bs → later_lines row (suc at) bs ≡ []) →
        cond t (line_at (next_row row (suc at)) bs ∷ later_lines (next_row row (suc at)) (suc at) bs) (later_lines row (suc at) bs) ≡ []
    go true h ih = absurd (omega arith)
    go false h ih = ih (omega arith)

abbrev lines_from : Row → ℕ → List ℕ → List Line
lines_from row at bs = line_at (next_row row at) bs ∷ later_lines (next_row row at) at bs

-- the next line
pub later : (row : Row) (at : ℕ) (bs : List ℕ) → line_len bs < length bs → later_lines row at bs ≡ lines_from row (at + suc (line_len bs)) (drop (suc (line_len bs)) bs)
later row at [] h = absurd (omega arith)
later row at (b ∷ bs) h = go (b == 10) h (λ k. later row (suc at) bs k)
  where
    go : (t : Bool) → cond t 0 (suc (line_len bs)) < length (b ∷ bs) → (line_len bs < length bs → later_lines row (suc at) bs ≡ lines_from row (suc at + suc (line_len bs)) (drop (suc (line_len bs)) bs)) →
        cond t (lines_from row (suc at) bs) (later_lines row (suc at) bs) ≡
        lines_from row (at + suc (cond t 0 (suc (line_len bs)))) (drop (suc (cond t 0 (suc (line_len bs)))) (b ∷ bs))
    go true h ih = let e : suc at ≡ at + 1 = omega arith in ap (λ (n : ℕ). lines_from row n bs) e
    go false h ih = let e : suc at + suc (line_len bs) ≡ at + suc (suc (line_len bs)) = omega arith in
        ih (omega arith) ∙ ap (λ (n : ℕ). lines_from row n (drop (suc (line_len bs)) bs)) e

pub content_stops : (z : List ℕ) → ends_line z ≡ true → content_of z ≡ []
content_stops [] e = refl
content_stops (c ∷ cs) e = rw e refl

pub content_goes : (c : ℕ) (cs : List ℕ) → ends_line (c ∷ cs) ≡ false → content_of (c ∷ cs) ≡ c ∷ content_of cs
content_goes c cs e = rw e refl

pub content_take : (z : List ℕ) → take (length (content_of z)) z ≡ content_of z
content_take [] = refl
content_take (c ∷ cs) = go (ends_line (c ∷ cs)) (content_take cs)
  where
    go : (b : Bool) → take (length (content_of cs)) cs ≡ content_of cs → take (length (cond b [] (c ∷ content_of cs))) (c ∷ cs) ≡ cond b [] (c ∷ content_of cs)
    go true h = refl
    go false h = ap (λ (z : List ℕ). c ∷ z) h
