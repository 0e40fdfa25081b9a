-- What the tokens of a file keep, and what its faults are.
use Rattle.std.proofs.Common.{◌≡◌, ℕ, pos, zero, suc, ◌+◌, ◌-◌, ◌<◌, ◌≤◌, ◌==◌, nat_lt, nat_le, Bool, true, false, cond, ◌&&◌, Option, Some, None, List, [], ◌∷◌, ◌++◌, length, length-append, take, replicate, refl, sym, ap, subst, ◌∙◌, arith, append_assoc, ◌⊎◌, inl, inr, ltb-false}
use Rattle.std.specs.Str.Lossy.{utf8_valid_len}
use Rattle.wy_text.specs.declared.token.Token.{Token}
use Rattle.wy_text.specs.declared.token.TokenKind.{TokenKind}
use Rattle.wy_text.specs.declared.token.TokenKind.TheVariants as kind
use Rattle.wy_text.specs.Spelling.{spelling_of}
use Rattle.wy_layout.specs.Words.{Word, name, number, text, fixed, same, lookup, is_some, among, reserved, symbols, or_else, kind_of, edge, IsWord, fits, passes}
use Rattle.wy_text.specs.TokenLists.{most_indents, most_marks, is_counted, marks_after, braces_after, indents_after, IndentsWithin, is_line_end, MarksWithin, is_end, EndsOnce}
use Rattle.wy_layout.specs.Counts.{most_file_bytes, most_tokens, IsWhole, counted, passed}
use Rattle.wy_layout.specs.Widths.{Step, deeper, back, wrong, not_open, step_of, opens, above, rest, is_top}
use Rattle.wy_layout.specs.Lines.{Line, lines, later_lines, line_at, next_row, first_row, content_of, ends_line, place_at, width, after_spaces, after_blanks, is_done}
use Rattle.wy_layout.specs.Layout.{mark, marks, begin, finish, off, step, opening, IsNext, IsFull, Words, count_in, HasTokensOr, LineTokens, widths, Lays, FileFault, FaultAt, IsLeast, IsFirst, IsRefused, Lexes, judged_text}
use Rattle.wy_layout.specs.Lexed.{Lexed, tokens, refused, lex_bytes, stack_after, pushed}
use Rattle.wy_layout.specs.Outs.{refusal_of}
use Rattle.wy_layout.specs.declared.count.Count.{Count}
use Rattle.wy_layout.specs.declared.refusal.Fault.{Fault}
use Rattle.wy_layout.specs.declared.refusal.Fault.TheVariants as fault
use Rattle.wy_layout.specs.declared.row.Row.{Row}
use Rattle.wy_layout.proofs.Scanning.{and_left, and_right}
use Rattle.wy_layout.proofs.OpenWidths.{IsClosed, rest_count}
use Rattle.wy_layout.proofs.Least.{line_place, open_fits, stack_here}
use Rattle.wy_layout.proofs.Filewise.{LexIs, lex_is}
use Rattle.wy_layout.proofs.Laying.{length_replicate}

-- ---- kinds of words

abbrev is_word_kind : TokenKind → Bool
is_word_kind kind.Nl = false
is_word_kind kind.In = false
is_word_kind kind.Out = false
is_word_kind kind.End = false
is_word_kind other = true

pub record IsPlain (k : TokenKind) : Type 0 where
  pub no_line_end : is_line_end k ≡ false
  pub no_end : is_end k ≡ false
  pub flat : (indents : ℕ) → indents_after indents k ≡ indents

plain_of : (k : TokenKind) → is_word_kind k ≡ true → IsPlain k
plain_of kind.Nl h = absurd (let t : false ≡ true = h in cc)
plain_of kind.In h = absurd (let t : false ≡ true = h in cc)
plain_of kind.Out h = absurd (let t : false ≡ true = h in cc)
plain_of kind.End h = absurd (let t : false ≡ true = h in cc)
plain_of other h = record { no_line_end = refl; no_end = refl; flat = λ indents. refl }

abbrev every : List TokenKind → Bool
every [] = true
every (k ∷ ks) = is_word_kind k && every ks

listed : (w : List ℕ) (ks : List TokenKind) (k : TokenKind) → every ks ≡ true → lookup w ks ≡ Some k → is_word_kind k ≡ true
listed w [] k a e = absurd cc
listed w (j ∷ ks) k a e = go (same w (spelling_of j)) e (λ h. listed w ks k (and_right (is_word_kind j) (every ks) a) h)
  where
    one : Some j ≡ Some k → j ≡ k
    one e = cc

    go : (b : Bool) → cond b (Some j) (lookup w ks) ≡ Some k → (lookup w ks ≡ Some k → is_word_kind k ≡ true) → is_word_kind k ≡ true
    go true e ih = ap is_word_kind (sym (one e)) ∙ and_left (is_word_kind j) (every ks) a
    go false e ih = ih e

fixed_plain : (v : List ℕ) → (among v reserved ≡ true) ⊎ (among v symbols ≡ true) → is_word_kind (or_else (lookup v reserved) (lookup v symbols)) ≡ true
fixed_plain v h = go (lookup v reserved) refl (lookup v symbols) refl h
  where
    go : (x : Option TokenKind) → lookup v reserved ≡ x → (y : Option TokenKind) → lookup v symbols ≡ y → (is_some x ≡ true) ⊎ (is_some y ≡ true) → is_word_kind (or_else x y) ≡ true
    go (Some k) e y d h = listed v reserved k refl e
    go None e (Some k) d h = listed v symbols k refl d
    go None e None d (inl h) = absurd (let t : false ≡ true = h in cc)
    go None e None d (inr h) = absurd (let t : false ≡ true = h in cc)

word_plain : (word : Word) (w : List ℕ) → IsWord word w → is_word_kind (kind_of word) ≡ true
word_plain (name v) w h = refl
word_plain (text v) w h = refl
word_plain (fixed v) w (e, h) = fixed_plain v (subst (λ (z : List ℕ). (among z reserved ≡ true) ⊎ (among z symbols ≡ true)) (sym e) h)
word_plain (number n) w h = go (n == edge)
  where
    go : (b : Bool) → is_word_kind (cond b kind.Edge (kind.Number (pos n))) ≡ true
    go true = refl
    go false = refl

next_plain : (c : Count) (word : Word) (u r : List ℕ) → IsNext c word u r → IsPlain (kind_of word)
next_plain c word u r h = plain_of (kind_of word) (word_plain word h.within.written h.within.longest.is_word)

-- ---- the marks

marks_fit : (c : Count) (k : TokenKind) → passed c k ≡ fits → c.marks ≤ most_marks → marks_after c.marks c.open_braces k ≤ most_marks
marks_fit c k h m = go (nat_le most_tokens c.tokens) (is_counted c.open_braces k) (nat_le most_marks c.marks) refl h
  where
    not_le : (a b : ℕ) → nat_le a b ≡ false → b < a
    not_le a b h = grind arith

    go : (a b d : Bool) → nat_le most_marks c.marks ≡ d → cond a (passes fault.Tokens) (cond (b && d) (passes fault.Marks) fits) ≡ fits → cond b (suc c.marks) c.marks ≤ most_marks
    go true b d e h = absurd cc
    go false true true e h = absurd cc
    go false true false e h = let l = not_le most_marks c.marks e in omega arith
    go false false d e h = m

-- what a list keeps in front of what keeps it: a line's words and its end
abbrev Ending : Row → ℕ → List Token → List Token
Ending row end more = mark row kind.Nl end ∷ more

words_marks : (row : Row) (c : Count) (at : ℕ) (u : List ℕ) (ts : List Token) (end : ℕ) (more : List Token) → Words row c at u ts → c.marks ≤ most_marks → MarksWithin 0 0 more →
    MarksWithin c.marks c.open_braces (ts ++ Ending row end more)
words_marks row c at u [] end more h m k = (m, k)
words_marks row c at u (t ∷ ts) end more (e, word, r, w, s, q) m k =
    let p = next_plain c word (after_blanks u) r w in
    let is_kind : t.kind ≡ kind_of word = ap (λ (x : Token). x.kind) s in
    let fit = marks_fit c (kind_of word) w.fitting m in
    let ih = words_marks row (counted c (kind_of word)) (off at u r) r ts end more q fit k in (
      subst (λ (k : TokenKind). marks_after c.marks c.open_braces k ≤ most_marks) (sym is_kind) fit,
      there t.kind is_kind (p.no_line_end) ih,
    )
  where
    there : (k' : TokenKind) → k' ≡ kind_of word → is_line_end (kind_of word) ≡ false →
        MarksWithin (marks_after c.marks c.open_braces (kind_of word)) (braces_after c.open_braces (kind_of word)) (ts ++ Ending row end more) →
        MarksWithin (cond (is_line_end k') 0 (marks_after c.marks c.open_braces k')) (cond (is_line_end k') 0 (braces_after c.open_braces k')) (ts ++ Ending row end more)
    there k' e n ih = subst (λ (j : TokenKind). MarksWithin (cond (is_line_end j) 0 (marks_after c.marks c.open_braces j)) (cond (is_line_end j) 0 (braces_after c.open_braces j)) (ts ++ Ending row end more)) (sym e)
        (subst (λ (b : Bool). MarksWithin (cond b 0 (marks_after c.marks c.open_braces (kind_of word))) (cond b 0 (braces_after c.open_braces (kind_of word))) (ts ++ Ending row end more)) (sym n) ih)

outs_marks : (row : Row) (n at : ℕ) (more : List Token) → MarksWithin 0 0 more → MarksWithin 0 0 (replicate n (mark row kind.Out at) ++ more)
outs_marks row zero at more k = k
outs_marks row (suc n) at more k = (omega arith, outs_marks row n at more k)

before_marks : (row : Row) (s : Step) (at : ℕ) (more : List Token) → MarksWithin 0 0 more → MarksWithin 0 0 (marks row s at ++ more)
before_marks row deeper at more k = (omega arith, k)
before_marks row (back n) at more k = outs_marks row n at more k
before_marks row (wrong n) at more k = outs_marks row n at more k

-- a line's tokens, and what stands behind them
full_parts : (row : Row) (ms us : List Token) (end : ℕ) (more : List Token) → (ms ++ (us ++ mark row kind.Nl end ∷ [])) ++ more ≡ ms ++ (us ++ Ending row end more)
full_parts row ms us end more = append_assoc ms (us ++ mark row kind.Nl end ∷ []) more ∙ ap (λ (z : List Token). ms ++ z) (append_assoc us (mark row kind.Nl end ∷ []) more)

line_marks : (n : ℕ) (ws : List ℕ) (l : Line) (us more : List Token) → LineTokens n ws l us → MarksWithin 0 0 more → MarksWithin 0 0 (us ++ more)
line_marks n ws l us more (t, h) k = go (is_done (after_spaces l.content)) h
  where
    go : (b : Bool) → HasTokensOr b n ws l us → MarksWithin 0 0 (us ++ more)
    go true h = subst (λ (z : List Token). MarksWithin 0 0 (z ++ more)) (sym h) k
    go false h = subst (λ (z : List Token). MarksWithin 0 0 z) (sym (ap (λ (z : List Token). z ++ more) h.parts ∙ full_parts l.row (marks l.row (step ws l) (begin l)) h.words (finish l) more))
        (before_marks l.row (step ws l) (begin l) (h.words ++ Ending l.row (finish l) more)
        (words_marks l.row (count_in n ws l) (begin l) (after_spaces l.content) h.words (finish l) more h.are_words (omega arith) k))

lays_marks : (row : Row) (e n : ℕ) (ws : List ℕ) (ls : List Line) (ts : List Token) → Lays row e n ws ls ts → MarksWithin 0 0 ts
lays_marks row e n ws [] ts (r, p) = subst (MarksWithin 0 0) (sym p) (outs_marks row (length (opens ws) - 1) e (mark row kind.End e ∷ []) (omega arith, tt))
lays_marks row e n ws (l ∷ ls) ts (us, more, t, p, h) = subst (MarksWithin 0 0) (sym p) (line_marks n ws l us more t (lays_marks l.row e (n + length us) (widths ws l) ls more h))

-- ---- the indents

words_indents : (row : Row) (c : Count) (at : ℕ) (u : List ℕ) (ts : List Token) (end : ℕ) (more : List Token) (d : ℕ) → Words row c at u ts → d ≤ most_indents → IndentsWithin d more →
    IndentsWithin d (ts ++ Ending row end more)
words_indents row c at u [] end more d h m k = (m, k)
words_indents row c at u (t ∷ ts) end more d (e, word, r, w, s, q) m k =
    let p = next_plain c word (after_blanks u) r w in
    let is_kind : t.kind ≡ kind_of word = ap (λ (x : Token). x.kind) s in
    let flat : indents_after d t.kind ≡ d = ap (indents_after d) is_kind ∙ p.flat d in
    let ih = words_indents row (counted c (kind_of word)) (off at u r) r ts end more d q m k in
    (omega arith, subst (λ (x : ℕ). IndentsWithin x (ts ++ Ending row end more)) (sym flat) ih)

outs_indents : (row : Row) (n at : ℕ) (more : List Token) (d : ℕ) → d ≤ most_indents → IndentsWithin (d - n) more → IndentsWithin d (replicate n (mark row kind.Out at) ++ more)
outs_indents row zero at more d m k = let e : d - 0 ≡ d = omega arith in subst (λ (x : ℕ). IndentsWithin x more) e k
outs_indents row (suc n) at more d m k = let e : d - suc n ≡ (d - 1) - n = omega arith in
    (omega arith, outs_indents row n at more (d - 1) (omega arith) (subst (λ (x : ℕ). IndentsWithin x more) e k))

-- how many are open but for 0, behind what stands before a line
abbrev after_step : Step → ℕ → ℕ
after_step deeper d = suc d
after_step (back n) d = d - n
after_step (wrong n) d = d - n

before_indents : (row : Row) (s : Step) (n at : ℕ) (more : List Token) (d : ℕ) → opening s n (suc d) ≡ fits → d ≤ most_indents → (after_step s d ≤ most_indents → IndentsWithin (after_step s d) more) →
    IndentsWithin d (marks row s at ++ more)
before_indents row deeper n at more d o m k = let s = room d (nat_lt most_tokens (n + 1)) o in (s, k s)
  where
    by_limit : (d : ℕ) (b : Bool) → nat_lt most_indents (suc d) ≡ b → cond b (passes fault.Indents) fits ≡ fits → suc d ≤ most_indents
    by_limit d true e o = absurd cc
    by_limit d false e o = ltb-false most_indents (suc d) e

    room : (d : ℕ) (a : Bool) → cond a (passes fault.Tokens) (cond (nat_lt most_indents (suc d)) (passes fault.Indents) fits) ≡ fits → suc d ≤ most_indents
    room d true o = absurd cc
    room d false o = by_limit d (nat_lt most_indents (suc d)) refl o
before_indents row (back j) n at more d o m k = outs_indents row j at more d m (k (omega arith))
before_indents row (wrong j) n at more d o m k = outs_indents row j at more d m (k (omega arith))

some_open : (ws : List ℕ) → 1 ≤ length (opens ws)
some_open [] = omega arith
some_open (w ∷ ws) = omega arith

-- the open widths behind a line
depth_after : (w : ℕ) (st : List ℕ) → 1 ≤ length st → (IsClosed (step_of w st) → ⊥) → length (stack_after w st) - 1 ≡ after_step (step_of w st) (length st - 1)
depth_after w st one ok = go (is_top w (rest w st)) (above w st) (rest_count w st) ok
  where
    go : (b : Bool) (n : ℕ) → length (rest w st) + n ≡ length st → (IsClosed (cond b (back n) (not_open n)) → ⊥) →
        length (cond b (rest w st) (pushed n w (rest w st))) - 1 ≡ after_step (cond b (back n) (not_open n)) (length st - 1)
    go true n r ok = omega arith
    go false zero r ok = omega arith
    go false (suc n) r ok = absurd (ok tt)

line_indents : (n : ℕ) (ws : List ℕ) (l : Line) (us more : List Token) → LineTokens n ws l us → length (opens ws) - 1 ≤ most_indents →
    (length (opens (widths ws l)) - 1 ≤ most_indents → IndentsWithin (length (opens (widths ws l)) - 1) more) → IndentsWithin (length (opens ws) - 1) (us ++ more)
line_indents n ws l us more (t, h) m k = go (is_done (after_spaces l.content)) refl h
  where
    blank : is_done (after_spaces l.content) ≡ true → opens (widths ws l) ≡ opens ws
    blank d = rw d refl

    go : (b : Bool) → is_done (after_spaces l.content) ≡ b → HasTokensOr b n ws l us → IndentsWithin (length (opens ws) - 1) (us ++ more)
    go true d h = subst (λ (z : List Token). IndentsWithin (length (opens ws) - 1) (z ++ more)) (sym h)
        (subst (λ (st : List ℕ). length st - 1 ≤ most_indents → IndentsWithin (length st - 1) more) (blank d) k m)
    go false d h =
        let one = some_open ws in
        let here : IsFull l = record { no_tab = t; full = d } in
        let ok = open_fits (step ws l) n (length (opens ws)) h.opens_well in
        let e : length (opens (widths ws l)) - 1 ≡ after_step (step ws l) (length (opens ws) - 1) =
        ap (λ (st : List ℕ). length st - 1) (sym (stack_here n ws l here h.opens_well)) ∙ depth_after (width l.content) (opens ws) one ok in
        let depth : length (opens ws) ≡ suc (length (opens ws) - 1) = omega arith in
        subst (λ (z : List Token). IndentsWithin (length (opens ws) - 1) z) (sym (ap (λ (z : List Token). z ++ more) h.parts ∙ full_parts l.row (marks l.row (step ws l) (begin l)) h.words (finish l) more))
        (before_indents l.row (step ws l) n (begin l) (h.words ++ Ending l.row (finish l) more) (length (opens ws) - 1)
        (ap (opening (step ws l) n) (sym depth) ∙ h.opens_well) m
        (λ r. words_indents l.row (count_in n ws l) (begin l) (after_spaces l.content) h.words (finish l) more (after_step (step ws l) (length (opens ws) - 1)) h.are_words r
        (subst (λ (x : ℕ). x ≤ most_indents → IndentsWithin x more) e k r)))

lays_indents : (row : Row) (e n : ℕ) (ws : List ℕ) (ls : List Line) (ts : List Token) → Lays row e n ws ls ts → length (opens ws) - 1 ≤ most_indents → IndentsWithin (length (opens ws) - 1) ts
lays_indents row e n ws [] ts (r, p) m = subst (IndentsWithin (length (opens ws) - 1)) (sym p) (outs_indents row (length (opens ws) - 1) e (mark row kind.End e ∷ []) (length (opens ws) - 1) m (omega arith, tt))
lays_indents row e n ws (l ∷ ls) ts (us, more, t, p, h) m =
    subst (IndentsWithin (length (opens ws) - 1)) (sym p) (line_indents n ws l us more t m (λ r. lays_indents l.row e (n + length us) (widths ws l) ls more h r))

-- ---- the end

ends_behind : (us more : List Token) → EndsOnce more → (t : Token) → is_end t.kind ≡ false → EndsOnce (us ++ more) → EndsOnce (t ∷ (us ++ more))
ends_behind us more k t n h = go (us ++ more) h
  where
    go : (ts : List Token) → EndsOnce ts → EndsOnce (t ∷ ts)
    go [] h = absurd h
    go (u ∷ ts) h = (n, h)

words_end : (row : Row) (c : Count) (at : ℕ) (u : List ℕ) (ts : List Token) (end : ℕ) (more : List Token) → Words row c at u ts → EndsOnce more → EndsOnce (ts ++ Ending row end more)
words_end row c at u [] end more h k = ends_behind [] more k (mark row kind.Nl end) refl k
words_end row c at u (t ∷ ts) end more (e, word, r, w, s, q) k =
    let p = next_plain c word (after_blanks u) r w in
    let is_kind : t.kind ≡ kind_of word = ap (λ (x : Token). x.kind) s in
    let ih = words_end row (counted c (kind_of word)) (off at u r) r ts end more q k in
    go (ts ++ Ending row end more) ih (ap is_end is_kind ∙ p.no_end)
  where
    go : (vs : List Token) → EndsOnce vs → is_end t.kind ≡ false → EndsOnce (t ∷ vs)
    go [] h n = absurd h
    go (v ∷ vs) h n = (n, h)

outs_end : (row : Row) (n at : ℕ) (more : List Token) → EndsOnce more → EndsOnce (replicate n (mark row kind.Out at) ++ more)
outs_end row zero at more k = k
outs_end row (suc n) at more k = ends_behind (replicate n (mark row kind.Out at)) more k (mark row kind.Out at) refl (outs_end row n at more k)

before_end : (row : Row) (s : Step) (at : ℕ) (more : List Token) → EndsOnce more → EndsOnce (marks row s at ++ more)
before_end row deeper at more k = ends_behind [] more k (mark row kind.In at) refl k
before_end row (back n) at more k = outs_end row n at more k
before_end row (wrong n) at more k = outs_end row n at more k

line_end : (n : ℕ) (ws : List ℕ) (l : Line) (us more : List Token) → LineTokens n ws l us → EndsOnce more → EndsOnce (us ++ more)
line_end n ws l us more (t, h) k = go (is_done (after_spaces l.content)) h
  where
    go : (b : Bool) → HasTokensOr b n ws l us → EndsOnce (us ++ more)
    go true h = subst (λ (z : List Token). EndsOnce (z ++ more)) (sym h) k
    go false h = subst EndsOnce (sym (ap (λ (z : List Token). z ++ more) h.parts ∙ full_parts l.row (marks l.row (step ws l) (begin l)) h.words (finish l) more))
        (before_end l.row (step ws l) (begin l) (h.words ++ Ending l.row (finish l) more)
        (words_end l.row (count_in n ws l) (begin l) (after_spaces l.content) h.words (finish l) more h.are_words k))

lays_end : (row : Row) (e n : ℕ) (ws : List ℕ) (ls : List Line) (ts : List Token) → Lays row e n ws ls ts → EndsOnce ts
lays_end row e n ws [] ts (r, p) = subst EndsOnce (sym p) (outs_end row (length (opens ws) - 1) e (mark row kind.End e ∷ []) refl)
lays_end row e n ws (l ∷ ls) ts (us, more, t, p, h) = subst EndsOnce (sym p) (line_end n ws l us more t (lays_end l.row e (n + length us) (widths ws l) ls more h))

-- ---- how many

lays_few : (row : Row) (e n : ℕ) (ws : List ℕ) (ls : List Line) (ts : List Token) → Lays row e n ws ls ts → n + length ts ≤ most_tokens
lays_few row e n ws [] ts (r, p) =
    let a = ap length p in let b = length-append (replicate (length (opens ws) - 1) (mark row kind.Out e)) (mark row kind.End e ∷ []) in
    let c = length_replicate (length (opens ws) - 1) (mark row kind.Out e) in let d = some_open ws in
    omega arith
lays_few row e n ws (l ∷ ls) ts (us, more, t, p, h) =
    let a = ap length p in let b = length-append us more in let ih = lays_few l.row e (n + length us) (widths ws l) ls more h in
    omega arith

pub whole_is : (file : ℕ) (bs : List ℕ) (ts : List Token) → Lexes file bs ts → IsWhole ts
whole_is file bs ts h =
    let few = lays_few (first_row file) (length bs) 0 [] (lines (first_row file) bs) ts h.laid in
    record {
      ends = lays_end (first_row file) (length bs) 0 [] (lines (first_row file) bs) ts h.laid;
      few = omega arith;
      indents = lays_indents (first_row file) (length bs) 0 [] (lines (first_row file) bs) ts h.laid (omega arith);
      marks = lays_marks (first_row file) (length bs) 0 [] (lines (first_row file) bs) ts h.laid;
    }

-- ---- a fault stands in the file

abbrev pub EndsBy : ℕ → List Line → Type 0
EndsBy e [] = Unit {0}
EndsBy e (l ∷ ls) = (l.row.start ≤ finish l) × (finish l ≤ e) × EndsBy e ls

content_within : (bs : List ℕ) → length (content_of bs) ≤ length bs
content_within [] = omega arith
content_within (c ∷ cs) = go (ends_line (c ∷ cs)) (content_within cs)
  where
    go : (b : Bool) → length (content_of cs) ≤ length cs → length (cond b [] (c ∷ content_of cs)) ≤ length (c ∷ cs)
    go true h = omega arith
    go false h = omega arith

later_ends : (row : Row) (at e : ℕ) (bs : List ℕ) → at + length bs ≤ e → EndsBy e (later_lines row at bs)
later_ends row at e [] h = tt
later_ends row at e (b ∷ bs) h = go (b == 10) (later_ends row (suc at) e bs (omega arith)) (later_ends (next_row row (suc at)) (suc at) e bs (omega arith))
  where
    go : (t : Bool) → EndsBy e (later_lines row (suc at) bs) → EndsBy e (later_lines (next_row row (suc at)) (suc at) bs) →
        EndsBy e (cond t (line_at (next_row row (suc at)) bs ∷ later_lines (next_row row (suc at)) (suc at) bs) (later_lines row (suc at) bs))
    go true k q = let c = content_within bs in (omega arith, omega arith, q)
    go false k q = k

pub lines_end : (row : Row) (e : ℕ) (bs : List ℕ) → row.start + length bs ≤ e → EndsBy e (lines row bs)
lines_end row e bs h = let c = content_within bs in (omega arith, omega arith, later_ends row row.start e bs h)

fault_end : (e n : ℕ) (ws : List ℕ) (ls : List Line) (f : Fault) (o : ℕ) → EndsBy e ls → FileFault e n ws ls f o → o ≤ e
fault_end e n ws [] f o k (r, g, p) = omega arith
fault_end e n ws (l ∷ ls) f o k (inl h) = let a = line_place n ws l f o h in let b = a.1 in let c = k.1 in omega arith
fault_end e n ws (l ∷ ls) f o k (inr (us, t, h)) = fault_end e (n + length us) (widths ws l) ls f o k.2 h

judged_short : (bs : List ℕ) → length (judged_text bs) ≤ length bs
judged_short bs = go bs (utf8_valid_len bs + 1)
  where
    go : (bs : List ℕ) (v : ℕ) → length (take v bs) ≤ length bs
    go bs zero = omega arith
    go [] (suc v) = omega arith
    go (b ∷ bs) (suc v) = let ih = go bs v in omega arith

fault_within : (file : ℕ) (bs : List ℕ) (f : Fault) (o : ℕ) → FaultAt file bs f o → o ≤ length bs
fault_within file bs f o (inl g) = let a = g.1 in let b = g.2 in omega arith
fault_within file bs f o (inr g) =
    let a = fault_end (length (judged_text bs)) 0 [] (lines (first_row file) (judged_text bs)) f o (lines_end (first_row file) (length (judged_text bs)) (judged_text bs) (omega arith)) g.1 in
    let b = judged_short bs in omega arith

-- ---- what the code gives

pub lexes_of : (file : ℕ) (bs : List ℕ) (ts : List Token) → length bs ≤ most_file_bytes → lex_bytes file bs ≡ tokens ts → Lexes file bs ts
lexes_of file bs ts s e = go (subst (LexIs file bs) e (lex_is file bs))
  where
    go : LexIs file bs (tokens ts) → Lexes file bs ts
    go h = record { short = s; is_text = h.0; laid = h.1 }

pub whole_of : (file : ℕ) (bs : List ℕ) (ts : List Token) → length bs ≤ most_file_bytes → lex_bytes file bs ≡ tokens ts → IsWhole ts
whole_of file bs ts s e = whole_is file bs ts (lexes_of file bs ts s e)

pub offset_of : (file : ℕ) (bs : List ℕ) (f : Fault) (o : ℕ) → lex_bytes file bs ≡ refused f o → o ≤ length bs
offset_of file bs f o e = go (subst (LexIs file bs) e (lex_is file bs))
  where
    go : LexIs file bs (refused f o) → o ≤ length bs
    go h = fault_within file bs f o h.stands

pub refused_of : (file : ℕ) (bs : List ℕ) (f : Fault) (o : ℕ) → length bs ≤ most_file_bytes → lex_bytes file bs ≡ refused f o → IsRefused file bs (refusal_of f (place_at file bs o))
refused_of file bs f o s e = by_fault f (first (subst (LexIs file bs) e (lex_is file bs)))
  where
    first : LexIs file bs (refused f o) → IsFirst file bs f (place_at file bs o)
    first h = record { short = s; offset = o; least = h; is_place = refl }

    by_fault : (f : Fault) → IsFirst file bs f (place_at file bs o) → IsRefused file bs (refusal_of f (place_at file bs o))
    by_fault fault.NameBytes h = (place_at file bs o, h)
    by_fault fault.Tokens h = (place_at file bs o, h)
    by_fault fault.Indents h = (place_at file bs o, h)
    by_fault fault.Marks h = (place_at file bs o, h)
    by_fault fault.NotUtf8 h = h
    by_fault fault.TabIndent h = h
    by_fault fault.BadDedent h = h
    by_fault fault.BadCharacter h = h
    by_fault fault.OpenText h = h
    by_fault fault.BadEscape h = h
    by_fault fault.NumberTooLarge h = h

pub either_way : (file : ℕ) (bs : List ℕ) → length bs ≤ most_file_bytes → ((ts : List Token) × Lexes file bs ts) ⊎ ((f : Fault) × (o : ℕ) × IsLeast file bs f o)
either_way file bs s = go (lex_bytes file bs) (lex_is file bs)
  where
    go : (x : Lexed) → LexIs file bs x → ((ts : List Token) × Lexes file bs ts) ⊎ ((f : Fault) × (o : ℕ) × IsLeast file bs f o)
    go (tokens ts) h = inl (ts, record { short = s; is_text = h.0; laid = h.1 })
    go (refused f o) h = inr (f, o, h)
