-- The spans of a file's tokens stand in order.
use Rattle.std.proofs.Common.{◌≡◌, ℕ, zero, suc, ◌+◌, ◌-◌, ◌≤◌, ◌==◌, Bool, true, false, cond, List, [], ◌∷◌, ◌++◌, length, replicate, sym, ap, subst, ◌∙◌, refl, arith}
use Rattle.wy_text.specs.declared.token.Token.{Token}
use Rattle.wy_text.specs.declared.token.TokenKind.TheVariants as kind
use Rattle.wy_layout.specs.Words.{kind_of}
use Rattle.wy_layout.specs.Counts.{counted}
use Rattle.wy_layout.specs.Widths.{Step, deeper, back, wrong, opens}
use Rattle.wy_layout.specs.Lines.{Line, lines, later_lines, line_at, next_row, first_row, content_of, ends_line, after_spaces, after_blanks, is_done}
use Rattle.wy_layout.specs.Layout.{mark, marks, off, begin, finish, step, Words, count_in, HasTokensOr, LineTokens, widths, Lays, Lexes}
use Rattle.wy_layout.specs.Spans.{SpansFrom}
use Rattle.wy_layout.specs.declared.count.Count.{Count}
use Rattle.wy_layout.specs.declared.row.Row.{Row}
use Rattle.wy_layout.proofs.LineWords.{shrinks, blanks_within}
use Rattle.wy_layout.proofs.Least.{spaces_within}
use Rattle.wy_layout.proofs.Whole.{EndsBy, lines_end}

joined : (at m e : ℕ) (us vs : List Token) → SpansFrom at m us → SpansFrom m e vs → SpansFrom at e (us ++ vs)
joined at m e [] vs h k = earlier vs k
  where
    earlier : (vs : List Token) → SpansFrom m e vs → SpansFrom at e vs
    earlier [] k = omega arith
    earlier (v ∷ vs) k = let a = k.0 in (omega arith, k.1, k.2)
joined at m e (u ∷ us) vs h k = (h.0, h.1, joined u.end m e us vs h.2 k)

outs_from : (row : Row) (n at : ℕ) → SpansFrom at at (replicate n (mark row kind.Out at))
outs_from row zero at = omega arith
outs_from row (suc n) at = (omega arith, omega arith, outs_from row n at)

marks_from : (row : Row) (s : Step) (at : ℕ) → SpansFrom at at (marks row s at)
marks_from row deeper at = (omega arith, omega arith, omega arith)
marks_from row (back n) at = outs_from row n at
marks_from row (wrong n) at = outs_from row n at

words_from : (row : Row) (c : Count) (at : ℕ) (u : List ℕ) (ts : List Token) → Words row c at u ts → SpansFrom at (at + length u) ts
words_from row c at u [] h = omega arith
words_from row c at u (t ∷ ts) (e, word, r, w, s, q) =
    let a = shrinks word (after_blanks u) r w.within in
    let b = blanks_within u in
    let start : t.start ≡ off at u (after_blanks u) = ap (λ (x : Token). x.start) s in
    let end : t.end ≡ off at u r = ap (λ (x : Token). x.end) s in
    let there : off at u r + length r ≡ at + length u = omega arith in (
      omega arith,
      omega arith,
      subst (λ (x : ℕ). SpansFrom x (at + length u) ts) (sym end) (subst (λ (x : ℕ). SpansFrom (off at u r) x ts) there (words_from row (counted c (kind_of word)) (off at u r) r ts q)),
    )

line_from : (n : ℕ) (ws : List ℕ) (l : Line) (us : List Token) → l.row.start ≤ finish l → LineTokens n ws l us → SpansFrom l.row.start (finish l) us
line_from n ws l us o (t, h) = go (is_done (after_spaces l.content)) h
  where
    go : (b : Bool) → HasTokensOr b n ws l us → SpansFrom l.row.start (finish l) us
    go true h = subst (SpansFrom l.row.start (finish l)) (sym h) o
    go false h =
        let a = spaces_within l.content in
        let there : begin l + length (after_spaces l.content) ≡ finish l = omega arith in
        subst (SpansFrom l.row.start (finish l)) (sym h.parts)
        (joined l.row.start (begin l) (finish l) (marks l.row (step ws l) (begin l)) (h.words ++ mark l.row kind.Nl (finish l) ∷ [])
        (joined l.row.start (begin l) (begin l) [] (marks l.row (step ws l) (begin l)) (omega arith) (marks_from l.row (step ws l) (begin l)))
        (joined (begin l) (finish l) (finish l) h.words (mark l.row kind.Nl (finish l) ∷ [])
        (subst (λ (x : ℕ). SpansFrom (begin l) x h.words) there (words_from l.row (count_in n ws l) (begin l) (after_spaces l.content) h.words h.are_words))
        (omega arith, omega arith, omega arith)))

-- each line begins behind the one before it
abbrev InOrder : ℕ → List Line → Type 0
InOrder n [] = Unit {0}
InOrder n (l ∷ ls) = (n ≤ l.row.start) × InOrder (finish l) ls

order_mono : (m n : ℕ) (ls : List Line) → m ≤ n → InOrder n ls → InOrder m ls
order_mono m n [] h k = tt
order_mono m n (l ∷ ls) h k = (let a = k.0 in omega arith, k.1)

later_order : (row : Row) (at : ℕ) (bs : List ℕ) → InOrder (at + length (content_of bs)) (later_lines row at bs)
later_order row at [] = tt
later_order row at (b ∷ bs) = go (b == 10) refl (ends_line (b ∷ bs)) refl (later_order row (suc at) bs) (later_order (next_row row (suc at)) (suc at) bs)
  where
    newline_ends : (b : ℕ) (bs : List ℕ) → (b == 10) ≡ true → ends_line (b ∷ bs) ≡ true
    newline_ends b [] h = h
    newline_ends b (c ∷ cs) h = rw h refl

    go : (t : Bool) → (b == 10) ≡ t → (e : Bool) → ends_line (b ∷ bs) ≡ e → InOrder (suc at + length (content_of bs)) (later_lines row (suc at) bs) →
        InOrder (suc at + length (content_of bs)) (later_lines (next_row row (suc at)) (suc at) bs) →
        InOrder (at + length (cond e [] (b ∷ content_of bs))) (cond t (line_at (next_row row (suc at)) bs ∷ later_lines (next_row row (suc at)) (suc at) bs) (later_lines row (suc at) bs))
    go true h true e ih ih' = (omega arith, ih')
    go true h false e ih ih' = absurd (let k = sym (newline_ends b bs h) ∙ e in cc)
    go false h true e ih ih' = order_mono _ _ (later_lines row (suc at) bs) (omega arith) ih
    go false h false e ih ih' = order_mono _ _ (later_lines row (suc at) bs) (omega arith) ih

lays_from : (row : Row) (e n m : ℕ) (ws : List ℕ) (ls : List Line) (ts : List Token) → m ≤ e → InOrder m ls → EndsBy e ls → Lays row e n ws ls ts → SpansFrom m e ts
lays_from row e n m ws [] ts o i b (r, p) =
    subst (SpansFrom m e) (sym p) (joined m e e (marks row (back (length (opens ws) - 1)) e) (mark row kind.End e ∷ [])
    (joined m e e [] (marks row (back (length (opens ws) - 1)) e) o (marks_from row (back (length (opens ws) - 1)) e)) (omega arith, omega arith, omega arith))
lays_from row e n m ws (l ∷ ls) ts o i b (us, more, t, p, h) =
    let first = i.0 in let within = b.0 in
    subst (SpansFrom m e) (sym p)
    (joined m (finish l) e us more
    (joined m l.row.start (finish l) [] us first (line_from n ws l us within t))
    (lays_from l.row e (n + length us) (finish l) (widths ws l) ls more b.1 i.1 b.2 h))

pub spans_are : (file : ℕ) (bs : List ℕ) (ts : List Token) → Lexes file bs ts → SpansFrom 0 (length bs) ts
spans_are file bs ts h =
    lays_from (first_row file) (length bs) 0 0 [] (lines (first_row file) bs) ts (omega arith) (omega arith, later_order (first_row file) 0 bs) (lines_end (first_row file) (length bs) bs (omega arith)) h.laid
