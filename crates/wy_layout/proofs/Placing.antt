-- The places of tokens are those of their offsets.
use Rattle.std.proofs.Common.{◌≡◌, ℕ, zero, suc, ◌+◌, ◌-◌, ◌≤◌, ◌==◌, Bool, true, false, cond, List, [], ◌∷◌, ◌++◌, length, take, take_all, replicate, refl, sym, ap, subst, ◌∙◌, arith}
use Rattle.std.specs.List.{AllByRecursion}
use Rattle.wy_text.specs.declared.fault.Place.{Place}
use Rattle.wy_text.specs.declared.token.Token.{Token}
use Rattle.wy_text.specs.declared.token.TokenKind.TheVariants as kind
use Rattle.wy_layout.specs.Words.{kind_of}
use Rattle.wy_layout.specs.Counts.{counted}
use Rattle.wy_layout.specs.Widths.{Step, deeper, back, wrong, opens}
use Rattle.wy_layout.specs.Lines.{Line, spot, lines, later_lines, line_at, next_row, first_row, row_of, place_at, content_of, ends_line, after_spaces, after_blanks, is_done}
use Rattle.wy_layout.specs.Layout.{mark, marks, off, begin, finish, step, Words, count_in, HasTokensOr, LineTokens, widths, Lays, Lexes}
use Rattle.wy_layout.specs.declared.count.Count.{Count}
use Rattle.wy_layout.specs.declared.row.Row.{Row}
use Rattle.wy_layout.proofs.LineWords.{shrinks, blanks_within}
use Rattle.wy_layout.proofs.Least.{spaces_within}

-- ---- the row of an offset

-- no newline stands in what is before a line's end
row_content : (row : Row) (at k : ℕ) (bs : List ℕ) → k ≤ length (content_of bs) → row_of row at (take k bs) ≡ row
row_content row at zero bs h = refl
row_content row at (suc k) [] h = refl
row_content row at (suc k) (b ∷ bs) h = go (ends_line (b ∷ bs)) refl (b == 10) refl h (λ j. row_content row (suc at) k bs j)
  where
    newline_ends : (b : ℕ) (bs : List ℕ) → (b == 10) ≡ true → ends_line (b ∷ bs) ≡ true
    newline_ends b [] h = h
    newline_ends b (c ∷ cs) h = rw h refl

    go : (e : Bool) → ends_line (b ∷ bs) ≡ e → (n : Bool) → (b == 10) ≡ n → suc k ≤ length (cond e [] (b ∷ content_of bs)) → (k ≤ length (content_of bs) → row_of row (suc at) (take k bs) ≡ row) →
        row_of (cond n (next_row row (suc at)) row) (suc at) (take k bs) ≡ row
    go true e n q h ih = absurd (omega arith)
    go false e true q h ih = absurd (let t = sym (newline_ends b bs q) ∙ e in cc)
    go false e false q h ih = ih (omega arith)

-- each line's offsets have its row, in the bytes from an offset on, which is in a row
abbrev pub RowsRight : Row → ℕ → List ℕ → List Line → Type 0
RowsRight row at bs [] = Unit {0}
RowsRight row at bs (l ∷ ls) = ((o : ℕ) → l.row.start ≤ o → o ≤ finish l → (at ≤ o) × (row_of row at (take (o - at) bs) ≡ l.row)) × RowsRight row at bs ls

shift : (row row' : Row) (at b : ℕ) (bs : List ℕ) (ls : List Line) → cond (b == 10) (next_row row (suc at)) row ≡ row' → RowsRight row' (suc at) bs ls → RowsRight row at (b ∷ bs) ls
shift row row' at b bs [] e h = tt
shift row row' at b bs (l ∷ ls) e (h, k) = (λ o s f. moved o (h o s f), shift row row' at b bs ls e k)
  where
    moved : (o : ℕ) → (suc at ≤ o) × (row_of row' (suc at) (take (o - suc at) bs) ≡ l.row) → (at ≤ o) × (row_of row at (take (o - at) (b ∷ bs)) ≡ l.row)
    moved o (a, r) =
        let n : o - at ≡ suc (o - suc at) = omega arith in
        (omega arith, ap (λ (m : ℕ). row_of row at (take m (b ∷ bs))) n ∙ ap (λ (w : Row). row_of w (suc at) (take (o - suc at) bs)) e ∙ r)

here_right : (row : Row) (bs : List ℕ) (o : ℕ) → row.start ≤ o → o ≤ finish (line_at row bs) → (row.start ≤ o) × (row_of row row.start (take (o - row.start) bs) ≡ row)
here_right row bs o s f = (s, row_content row row.start (o - row.start) bs (omega arith))

later_right : (row : Row) (at : ℕ) (bs : List ℕ) → RowsRight row at bs (later_lines row at bs)
later_right row at [] = tt
later_right row at (b ∷ bs) = go (b == 10) refl (later_right row (suc at) bs) (later_right (next_row row (suc at)) (suc at) bs)
  where
    go : (t : Bool) → (b == 10) ≡ t → RowsRight row (suc at) bs (later_lines row (suc at) bs) → RowsRight (next_row row (suc at)) (suc at) bs (later_lines (next_row row (suc at)) (suc at) bs) →
        RowsRight row at (b ∷ bs) (cond t (line_at (next_row row (suc at)) bs ∷ later_lines (next_row row (suc at)) (suc at) bs) (later_lines row (suc at) bs))
    go true e h k = shift row (next_row row (suc at)) at b bs (line_at (next_row row (suc at)) bs ∷ later_lines (next_row row (suc at)) (suc at) bs)
        (ap (λ (t : Bool). cond t (next_row row (suc at)) row) e) ((λ o s f. here_right (next_row row (suc at)) bs o s f), k)
    go false e h k = shift row row at b bs (later_lines row (suc at) bs) (ap (λ (t : Bool). cond t (next_row row (suc at)) row) e) h

rows_right : (row : Row) (bs : List ℕ) → RowsRight row row.start bs (lines row bs)
rows_right row bs = ((λ o s f. here_right row bs o s f), later_right row row.start bs)

-- the row of the end
abbrev last_row : Row → List Line → Row
last_row row [] = row
last_row row (l ∷ ls) = last_row l.row ls

last_is : (row : Row) (at : ℕ) (bs : List ℕ) → last_row row (later_lines row at bs) ≡ row_of row at bs
last_is row at [] = refl
last_is row at (b ∷ bs) = go (b == 10) (last_is row (suc at) bs) (last_is (next_row row (suc at)) (suc at) bs)
  where
    go : (t : Bool) → last_row row (later_lines row (suc at) bs) ≡ row_of row (suc at) bs → last_row (next_row row (suc at)) (later_lines (next_row row (suc at)) (suc at) bs) ≡ row_of (next_row row (suc at)) (suc at) bs →
        last_row row (cond t (line_at (next_row row (suc at)) bs ∷ later_lines (next_row row (suc at)) (suc at) bs) (later_lines row (suc at) bs)) ≡ row_of (cond t (next_row row (suc at)) row) (suc at) bs
    go true h k = k
    go false h k = h

-- ---- the tokens

-- each token has the place that an offset has
abbrev pub Placed : (ℕ → Place) → List Token → Type 0
Placed place ts = AllByRecursion (λ t. t.place ≡ place t.start) ts

-- the row's offsets from one to another have these places
abbrev Right : (ℕ → Place) → Row → ℕ → ℕ → Type 0
Right place row from to = (o : ℕ) → from ≤ o → o ≤ to → spot row o ≡ place o

both_placed : (place : ℕ → Place) (us vs : List Token) → Placed place us → Placed place vs → Placed place (us ++ vs)
both_placed place [] vs h k = k
both_placed place (u ∷ us) vs (h, hs) k = (h, both_placed place us vs hs k)

outs_placed : (place : ℕ → Place) (t : Token) (n : ℕ) → t.place ≡ place t.start → Placed place (replicate n t)
outs_placed place t zero h = tt
outs_placed place t (suc n) h = (h, outs_placed place t n h)

marks_placed : (place : ℕ → Place) (row : Row) (s : Step) (at : ℕ) → spot row at ≡ place at → Placed place (marks row s at)
marks_placed place row deeper at h = (h, tt)
marks_placed place row (back n) at h = outs_placed place (mark row kind.Out at) n h
marks_placed place row (wrong n) at h = outs_placed place (mark row kind.Out at) n h

words_placed : (place : ℕ → Place) (row : Row) (c : Count) (at : ℕ) (u : List ℕ) (ts : List Token) → Right place row at (at + length u) → Words row c at u ts → Placed place ts
words_placed place row c at u [] right h = tt
words_placed place row c at u (t ∷ ts) right (e, word, r, w, s, q) =
    let a = shrinks word (after_blanks u) r w.within in
    let b = blanks_within u in (
      ap (λ (x : Token). x.place) s ∙ right (off at u (after_blanks u)) (omega arith) (omega arith) ∙ ap (λ (x : Token). place x.start) (sym s),
      words_placed place row (counted c (kind_of word)) (off at u r) r ts (λ o f g. right o (omega arith) (omega arith)) q,
    )

line_placed : (place : ℕ → Place) (n : ℕ) (ws : List ℕ) (l : Line) (us : List Token) → Right place l.row l.row.start (finish l) → LineTokens n ws l us → Placed place us
line_placed place n ws l us right (t, h) = go (is_done (after_spaces l.content)) h
  where
    go : (b : Bool) → HasTokensOr b n ws l us → Placed place us
    go true h = subst (Placed place) (sym h) tt
    go false h =
        let a = spaces_within l.content in
        subst (Placed place) (sym h.parts)
        (both_placed place (marks l.row (step ws l) (begin l)) (h.words ++ mark l.row kind.Nl (finish l) ∷ []) (marks_placed place l.row (step ws l) (begin l) (right (begin l) (omega arith) (omega arith)))
        (both_placed place h.words (mark l.row kind.Nl (finish l) ∷ [])
        (words_placed place l.row (count_in n ws l) (begin l) (after_spaces l.content) h.words (λ o f g. right o (omega arith) (omega arith)) h.are_words)
        (right (finish l) (omega arith) (omega arith), tt)))

abbrev pub AllRight : (ℕ → Place) → List Line → Type 0
AllRight place [] = Unit {0}
AllRight place (l ∷ ls) = Right place l.row l.row.start (finish l) × AllRight place ls

lays_placed : (place : ℕ → Place) (row : Row) (e n : ℕ) (ws : List ℕ) (ls : List Line) (ts : List Token) → AllRight place ls → spot (last_row row ls) e ≡ place e → Lays row e n ws ls ts → Placed place ts
lays_placed place row e n ws [] ts right end (r, p) =
    subst (Placed place) (sym p) (both_placed place (marks row (back (length (opens ws) - 1)) e) (mark row kind.End e ∷ []) (marks_placed place row (back (length (opens ws) - 1)) e end) (end, tt))
lays_placed place row e n ws (l ∷ ls) ts (right, more_right) end (us, more, t, p, h) =
    subst (Placed place) (sym p) (both_placed place us more (line_placed place n ws l us right t) (lays_placed place l.row e (n + length us) (widths ws l) ls more more_right end h))

all_right : (file : ℕ) (bs : List ℕ) (ls : List Line) → RowsRight (first_row file) 0 bs ls → AllRight (place_at file bs) ls
all_right file bs [] h = tt
all_right file bs (l ∷ ls) (h, k) = (λ o f g. there o (h o f g), all_right file bs ls k)
  where
    there : (o : ℕ) → (0 ≤ o) × (row_of (first_row file) 0 (take (o - 0) bs) ≡ l.row) → spot l.row o ≡ place_at file bs o
    there o (a, r) = let n : o - 0 ≡ o = omega arith in ap (λ (row : Row). spot row o) (sym r) ∙ ap (λ (m : ℕ). spot (row_of (first_row file) 0 (take m bs)) o) n

pub places_are : (file : ℕ) (bs : List ℕ) (ts : List Token) → Lexes file bs ts → Placed (place_at file bs) ts
places_are file bs ts h =
    lays_placed (place_at file bs) (first_row file) (length bs) 0 [] (lines (first_row file) bs) ts (all_right file bs (lines (first_row file) bs) (rows_right (first_row file) bs))
    (ap (λ (row : Row). spot row (length bs)) (last_is (first_row file) 0 bs ∙ ap (row_of (first_row file) 0) (sym (take_all (length bs) bs (omega arith))))) h.laid
