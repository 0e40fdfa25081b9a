-- What the tokens of a file's bytes say: names are names, numbers are within the greatest, texts are bytes.
use Rattle.std.proofs.Common.{◌≡◌, ℕ, zero, suc, pos, negsuc, ◌+◌, ◌-◌, ◌/◌, ◌<◌, ◌≤◌, ◌==◌, nat_lt, Bool, true, false, cond, ◌&&◌, ◌||◌, Option, Some, None, List, [], ◌∷◌, ◌++◌, length, map, take, replicate, refl, sym, subst, arith, IsUtf8, inl, inr, ltb-true, take_all}
use Rattle.std.specs.List.{AllByRecursion}
use Rattle.std.specs.Char.{is_ascii_hexdigit}
use Rattle.std.specs.Str.{is_utf8}
use Rattle.std.specs.Str.Lossy.{utf8_valid_len, valid_len_up_to}
use Rattle.std.proofs.lemmas.Str.{IsUtf8-from_is_utf8, IsUtf8-nil}
use lib.Utf8.{scalar, scalars, scalar_cases, encode, encodes, next}
use Rattle.wy_text.specs.declared.token.Token.{Token}
use Rattle.wy_text.specs.declared.token.TokenKind.{TokenKind}
use Rattle.wy_text.specs.declared.token.TokenKind.TheVariants as kind
use Rattle.wy_text.specs.Spelling.{spelling_of}
use Rattle.wy_layout.specs.Names.{is_name}
use Rattle.wy_layout.specs.Texts.{Piece, plain, short, hex, spelling, byte_of, spell, hex_value, IsText, good, Good}
use Rattle.wy_layout.specs.Words.{Word, name, number, text, fixed, IsWord, over, fits, passes, edge, among, lookup, same, or_else, reserved, symbols, kind_of, number_kind}
use Rattle.wy_layout.specs.Counts.{counted}
use Rattle.wy_layout.specs.Widths.{Step, deeper, back, wrong, opens}
use Rattle.wy_layout.specs.Lines.{Line, lines, later_lines, line_at, next_row, first_row, content_of, ends_line, after_spaces, after_blanks, is_done}
use Rattle.wy_layout.specs.Layout.{mark, marks, off, begin, finish, step, IsNext, Words, count_in, HasTokensOr, LineTokens, widths, Lays, Lexes}
use Rattle.wy_layout.specs.declared.count.Count.{Count}
use Rattle.wy_layout.specs.declared.refusal.Fault.TheVariants as fault
use Rattle.wy_layout.specs.declared.row.Row.{Row}
use Rattle.wy_layout.proofs.Scanning.{and_left, and_right}
use Rattle.wy_syntax.specs.Tokens.{Tok, toks}

-- a kind that a word of a file has
abbrev pub Fair : TokenKind → Type 0
Fair (kind.Name v) = (is_name v ≡ true) × (among v reserved ≡ false) × (over (name v) ≡ fits)
Fair (kind.Number (pos n)) = n < edge
Fair (kind.Number (negsuc n)) = ⊥
Fair (kind.Text v) = AllByRecursion (λ b. b < 256) v
Fair other = Unit {0}

-- each token is of such a kind
abbrev pub AllFair : List Tok → Type 0
AllFair [] = Unit {0}
AllFair (t ∷ ts) = Fair t.kind × AllFair ts

abbrev AreFair : List Token → Type 0
AreFair [] = Unit {0}
AreFair (t ∷ ts) = Fair t.kind × AreFair ts

fair_append : (ts us : List Token) → AreFair ts → AreFair us → AreFair (ts ++ us)
fair_append [] us h k = k
fair_append (t ∷ ts) us h k = (h.0, fair_append ts us h.1 k)

fair_toks : (ts : List Token) → AreFair ts → AllFair (toks ts)
fair_toks [] h = h
fair_toks (t ∷ ts) h = (h.0, fair_toks ts h.1)

-- ---- bytes

abbrev AreBytes : List ℕ → Type 0
AreBytes v = AllByRecursion (λ b. b < 256) v

bytes_append : (u v : List ℕ) → AreBytes u → AreBytes v → AreBytes (u ++ v)
bytes_append [] v h k = k
bytes_append (b ∷ u) v h k = (h.0, bytes_append u v h.1 k)

bytes_front : (u v : List ℕ) → AreBytes (u ++ v) → AreBytes u
bytes_front [] v h = tt
bytes_front (b ∷ u) v h = (h.0, bytes_front u v h.1)

bytes_back : (u v : List ℕ) → AreBytes (u ++ v) → AreBytes v
bytes_back [] v h = h
bytes_back (b ∷ u) v h = bytes_back u v h.1

char_bytes : (c : ℕ) → c < 1114112 → AreBytes (encode c)
unfolding encode
char_bytes c h = go (nat_lt c 128) refl (nat_lt c 2048) refl (nat_lt c 65536) refl
  where
    go : (x : Bool) → nat_lt c 128 ≡ x → (y : Bool) → nat_lt c 2048 ≡ y → (z : Bool) → nat_lt c 65536 ≡ z → AreBytes (cond x (c ∷ []) (cond y ((192 + c / 64) ∷ next c ∷ []) (cond z ((224 + c / 4096) ∷ next (c / 64) ∷ next c ∷ []) ((240 + c / 262144) ∷ next (c / 4096) ∷ next (c / 64) ∷ next c ∷ []))))
    go true e y f z g = let a = ltb-true c 128 e in (omega arith, tt)
    go false e true f z g = let a = ltb-true c 2048 f in (omega arith, (omega arith, tt))
    go false e false f true g = let a = ltb-true c 65536 g in (omega arith, (omega arith, (omega arith, tt)))
    go false e false f false g = (omega arith, (omega arith, (omega arith, (omega arith, tt))))

chars_bytes : (cs : List ℕ) → scalars cs ≡ true → AreBytes (encodes cs)
chars_bytes [] h = tt
chars_bytes (c ∷ cs) h = bytes_append (encode c) (encodes cs) (char_bytes c (elim (scalar_cases c (and_left (scalar c) (scalars cs) h)) [ inl k ↦ omega arith | inr k ↦ k.1 ])) (chars_bytes cs (and_right (scalar c) (scalars cs) h))

utf8_bytes : (bs : List ℕ) → IsUtf8 bs → AreBytes bs
utf8_bytes bs (cs, h) = subst AreBytes h.1 (chars_bytes cs h.0)

-- a file whose bytes are all text
valid_utf8 : (bs : List ℕ) (n : ℕ) → n ≤ valid_len_up_to bs n → IsUtf8 (take n bs)
valid_utf8 bs zero h = IsUtf8-nil
valid_utf8 bs (suc n) h = go (is_utf8 (take (suc n) bs)) refl h
  where
    never : (n : ℕ) → valid_len_up_to bs n ≤ n
    never zero = omega arith
    never (suc n) = pick (is_utf8 (take (suc n) bs)) (never n)
      where
        pick : (b : Bool) → valid_len_up_to bs n ≤ n → cond b (suc n) (valid_len_up_to bs n) ≤ suc n
        pick true k = omega arith
        pick false k = omega arith

    go : (b : Bool) → is_utf8 (take (suc n) bs) ≡ b → suc n ≤ cond b (suc n) (valid_len_up_to bs n) → IsUtf8 (take (suc n) bs)
    go true e h = IsUtf8-from_is_utf8 (take (suc n) bs) e
    go false e h = absurd (let l = never n in omega arith)

lexed_utf8 : (bs : List ℕ) → length bs ≤ utf8_valid_len bs → IsUtf8 bs
unfolding utf8_valid_len
lexed_utf8 bs h = subst IsUtf8 (take_all (length bs) bs (omega arith)) (valid_utf8 bs (length bs) h)

-- ---- parts of a line

content_bytes : (u : List ℕ) → AreBytes u → AreBytes (content_of u)
content_bytes [] h = tt
content_bytes (c ∷ u) h = go (ends_line (c ∷ u)) (content_bytes u h.1)
  where
    go : (b : Bool) → AreBytes (content_of u) → AreBytes (cond b [] (c ∷ content_of u))
    go true k = tt
    go false k = (h.0, k)

spaces_bytes : (u : List ℕ) → AreBytes u → AreBytes (after_spaces u)
spaces_bytes [] h = tt
spaces_bytes (c ∷ u) h = go (c == 32) (spaces_bytes u h.1)
  where
    go : (b : Bool) → AreBytes (after_spaces u) → AreBytes (cond b (after_spaces u) (c ∷ u))
    go true k = k
    go false k = h

blanks_bytes : (u : List ℕ) → AreBytes u → AreBytes (after_blanks u)
blanks_bytes [] h = tt
blanks_bytes (c ∷ u) h = go ((c == 32) || (c == 9)) (blanks_bytes u h.1)
  where
    go : (b : Bool) → AreBytes (after_blanks u) → AreBytes (cond b (after_blanks u) (c ∷ u))
    go true k = k
    go false k = h

-- ---- words

-- a kind of a word that is written in one way alone
abbrev is_fixed : TokenKind → Bool
is_fixed (kind.Name v) = false
is_fixed (kind.Number n) = false
is_fixed (kind.Text v) = false
is_fixed other = true

fixed_fair : (k : TokenKind) → is_fixed k ≡ true → Fair k
fixed_fair (kind.Name v) h = absurd (let t : false ≡ true = h in cc)
fixed_fair (kind.Number n) h = absurd (let t : false ≡ true = h in cc)
fixed_fair (kind.Text v) h = absurd (let t : false ≡ true = h in cc)
fixed_fair other h = tt

abbrev all_fixed : List TokenKind → Bool
all_fixed [] = true
all_fixed (k ∷ ks) = is_fixed k && all_fixed ks

abbrev FixedOr : Option TokenKind → Type 0
FixedOr None = Unit {0}
FixedOr (Some k) = is_fixed k ≡ true

listed : (w : List ℕ) (ks : List TokenKind) → all_fixed ks ≡ true → FixedOr (lookup w ks)
listed w [] a = tt
listed w (k ∷ ks) a = go (same w (spelling_of k)) (listed w ks (and_right (is_fixed k) (all_fixed ks) a))
  where
    go : (b : Bool) → FixedOr (lookup w ks) → FixedOr (cond b (Some k) (lookup w ks))
    go true ih = and_left (is_fixed k) (all_fixed ks) a
    go false ih = ih

table_fair : (v : List ℕ) → Fair (or_else (lookup v reserved) (lookup v symbols))
table_fair v = fixed_fair (or_else (lookup v reserved) (lookup v symbols)) (go (lookup v reserved) (lookup v symbols) (listed v reserved refl) (listed v symbols refl))
  where
    go : (x y : Option TokenKind) → FixedOr x → FixedOr y → is_fixed (or_else x y) ≡ true
    go (Some k) y h j = h
    go None (Some k) h j = j
    go None None h j = refl

number_fair : (n : ℕ) → over (number n) ≡ fits → Fair (number_kind n)
number_fair n o = go (n == edge) refl (nat_lt edge n) refl o
  where
    small : (n == edge) ≡ false → nat_lt edge n ≡ false → n < edge
    small e h = grind arith

    go : (b : Bool) → (n == edge) ≡ b → (d : Bool) → nat_lt edge n ≡ d → cond d (passes fault.NumberTooLarge) fits ≡ fits → Fair (cond b kind.Edge (kind.Number (pos n)))
    go true e d f o = tt
    go false e true f o = absurd (let t : passes fault.NumberTooLarge ≡ fits = o in cc)
    go false e false f o = small e f

hex_small : (h : ℕ) → is_ascii_hexdigit h ≡ true → hex_value h < 16
hex_small h e = grind arith

piece_byte : (p : Piece) → good p ≡ true → AreBytes (spelling p) → byte_of p < 256
piece_byte (plain c) g h = h.0
piece_byte (short c) g h = let k : c < 256 = h.1.0 in go (c == 110) (c == 116) k
  where
    go : (a b : Bool) → c < 256 → cond a 10 (cond b 9 c) < 256
    go true b k = omega arith
    go false true k = omega arith
    go false false k = k
piece_byte (hex h l) g k =
    let a = hex_small h (and_left (is_ascii_hexdigit h) (is_ascii_hexdigit l) g) in
    let b = hex_small l (and_right (is_ascii_hexdigit h) (is_ascii_hexdigit l) g) in
    omega arith

pieces_bytes : (ps : List Piece) → Good ps → AreBytes (spell ps) → AreBytes (map byte_of ps)
pieces_bytes [] g h = tt
pieces_bytes (p ∷ ps) g h = (piece_byte p g.0 (bytes_front (spelling p) (spell ps) h), pieces_bytes ps g.1 (bytes_back (spelling p) (spell ps) h))

text_fair : (v w : List ℕ) → IsText v w → AreBytes w → AreBytes v
text_fair v w h k =
    let q : AreBytes (34 ∷ (spell h.pieces ++ 34 ∷ [])) = subst AreBytes h.quoted k in
    subst AreBytes (sym h.stands_for) (pieces_bytes h.pieces h.are_good (bytes_front (spell h.pieces) (34 ∷ []) q.1))

word_fair : (word : Word) (w : List ℕ) → IsWord word w → over word ≡ fits → AreBytes w → Fair (kind_of word)
word_fair (name v) w (e, h, r) o k = (subst (λ (z : List ℕ). is_name z ≡ true) (sym e) h, subst (λ (z : List ℕ). among z reserved ≡ false) (sym e) r, o)
word_fair (number n) w h o k = number_fair n o
word_fair (text v) w h o k = text_fair v w h k
word_fair (fixed v) w h o k = table_fair v

next_fair : (word : Word) (u r : List ℕ) (c : Count) → IsNext c word u r → AreBytes u → Fair (kind_of word) × AreBytes r
next_fair word u r c h k =
    let parts : AreBytes (h.within.written ++ r) = subst AreBytes h.within.parts k in
    (word_fair word h.within.written h.within.longest.is_word h.within.limits (bytes_front h.within.written r parts), bytes_back h.within.written r parts)

-- ---- the tokens of lines

words_fair : (row : Row) (c : Count) (at : ℕ) (u : List ℕ) (ts : List Token) → Words row c at u ts → AreBytes u → AreFair ts
words_fair row c at u [] h k = tt
words_fair row c at u (t ∷ ts) (d, word, r, h, e, more) k =
    let f = next_fair word (after_blanks u) r c h (blanks_bytes u k) in
    (subst (λ (z : Token). Fair z.kind) (sym e) f.0, words_fair row (counted c (kind_of word)) (off at u r) r ts more f.1)

marks_fair : (row : Row) (s : Step) (at : ℕ) → AreFair (marks row s at)
marks_fair row deeper at = (tt, tt)
marks_fair row (back n) at = go n
  where
    go : (n : ℕ) → AreFair (replicate n (mark row kind.Out at))
    go zero = tt
    go (suc n) = (tt, go n)
marks_fair row (wrong n) at = go n
  where
    go : (n : ℕ) → AreFair (replicate n (mark row kind.Out at))
    go zero = tt
    go (suc n) = (tt, go n)

line_fair : (n : ℕ) (ws : List ℕ) (l : Line) (ts : List Token) → LineTokens n ws l ts → AreBytes l.content → AreFair ts
line_fair n ws l ts h k = go (is_done (after_spaces l.content)) h.1
  where
    go : (b : Bool) → HasTokensOr b n ws l ts → AreFair ts
    go true e = subst AreFair (sym e) tt
    go false h = subst AreFair (sym h.parts) (fair_append (marks l.row (step ws l) (begin l)) (h.words ++ mark l.row kind.Nl (finish l) ∷ []) (marks_fair l.row (step ws l) (begin l))
        (fair_append h.words (mark l.row kind.Nl (finish l) ∷ []) (words_fair l.row (count_in n ws l) (begin l) (after_spaces l.content) h.words h.are_words (spaces_bytes l.content k)) (tt, tt)))

abbrev LinesBytes : List Line → Type 0
LinesBytes [] = Unit {0}
LinesBytes (l ∷ ls) = AreBytes l.content × LinesBytes ls

later_bytes : (row : Row) (at : ℕ) (bs : List ℕ) → AreBytes bs → LinesBytes (later_lines row at bs)
later_bytes row at [] h = tt
later_bytes row at (b ∷ bs) h = go (b == 10) (later_bytes row (suc at) bs h.1) (later_bytes (next_row row (suc at)) (suc at) bs h.1)
  where
    go : (t : Bool) → LinesBytes (later_lines row (suc at) bs) → LinesBytes (later_lines (next_row row (suc at)) (suc at) bs) →
        LinesBytes (cond t (line_at (next_row row (suc at)) bs ∷ later_lines (next_row row (suc at)) (suc at) bs) (later_lines row (suc at) bs))
    go true k j = (content_bytes bs h.1, j)
    go false k j = k

lays_fair : (row : Row) (e n : ℕ) (ws : List ℕ) (ls : List Line) (ts : List Token) → Lays row e n ws ls ts → LinesBytes ls → AreFair ts
lays_fair row e n ws [] ts h k = subst AreFair (sym h.1) (fair_append (marks row (back (length (opens ws) - 1)) e) (mark row kind.End e ∷ []) (marks_fair row (back (length (opens ws) - 1)) e) (tt, tt))
lays_fair row e n ws (l ∷ ls) ts (us, more, t, p, h) k = subst AreFair (sym p) (fair_append us more (line_fair n ws l us t k.0) (lays_fair l.row e (n + length us) (widths ws l) ls more h k.1))

-- each token of a file is of such a kind
pub lexed_fair : (file : ℕ) (bs : List ℕ) (ts : List Token) → Lexes file bs ts → AllFair (toks ts)
lexed_fair file bs ts h =
    let b = utf8_bytes bs (lexed_utf8 bs h.is_text) in
    fair_toks ts (lays_fair (first_row file) (length bs) 0 [] (lines (first_row file) bs) ts h.laid (content_bytes bs b, later_bytes (first_row file) 0 bs b))
