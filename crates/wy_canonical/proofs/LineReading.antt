-- Words, blanks, lines and the end of a file, each by what is read behind it.
use Rattle.std.proofs.Common.{◌≡◌, ℕ, zero, suc, ◌+◌, ◌*◌, ◌-◌, ◌<◌, ◌≤◌, ◌==◌, nat_lt, Bool, true, false, not, cond, ◌&&◌, ◌||◌, List, [], ◌∷◌, ◌++◌, length, replicate, refl, sym, ap, subst, ◌∙◌, arith, append_assoc, IsUtf8, le-ltb}
use Rattle.std.proofs.lemmas.Str.{IsUtf8-append, IsUtf8-nil}
use Rattle.wy_text.specs.declared.token.Token.{Token}
use Rattle.wy_text.specs.declared.token.TokenKind.{TokenKind}
use Rattle.wy_text.specs.declared.token.TokenKind.TheVariants as kind
use Rattle.wy_layout.specs.Words.{Word, kind_of, Within, fits, passes}
use Rattle.wy_layout.specs.Printed.{Apart}
use Rattle.wy_text.specs.TokenLists.{most_indents}
use Rattle.wy_layout.specs.Counts.{counted_from, most_tokens}
use Rattle.wy_layout.specs.Widths.{Step, deeper, back, wrong, not_open, step_of, is_top, rest, above}
use Rattle.wy_layout.specs.Lines.{Line, lines, later_lines, line_at, next_row, content_of, width, after_spaces, after_blanks, is_done, has_tab}
use Rattle.wy_layout.specs.Layout.{mark, marks, mark_count, begin, finish, opening, wrong_step, closing, rank}
use Rattle.wy_layout.specs.Lexed.{Found, good, bad_at, words_of, pushed, stack_after, LineOut, laid, broken, with_end, sooner, line_words, by_opening, by_step, line_out, Lexed, tokens, refused, join, by_out, end_of, lex_lines}
use Rattle.wy_layout.specs.declared.refusal.Fault.{Fault}
use Rattle.wy_layout.specs.declared.refusal.Fault.TheVariants as fault
use Rattle.wy_layout.specs.declared.row.Row.{Row}
use Rattle.wy_layout.proofs.Scanning.{and_left, and_right, eq_is}
use Rattle.wy_syntax.specs.Tokens.{Tok, tok_of, toks}
use Rattle.wy_syntax.specs.Languages.{Lang, Sign, ◌⨟◌}
use Rattle.wy_syntax.specs.Canonical.{indented}
use Rattle.wy_canonical.proofs.PrintedNames.{flat, utf8_small}
use Rattle.wy_canonical.proofs.PrintedWords.{one_of, IsPrinted, slashless, free, flat_content}
use Rattle.wy_canonical.proofs.Reading.{is_limit, FoundIn, LexedIn, WordsIn, no_words, one_word, words_map, stack, LinesIn, LaterIn, Behind, RestIn}

-- ---- lists of tokens

pub one_sign : (k : TokenKind) (t : Tok) → t.kind ≡ k → Sign k (t ∷ [])
one_sign k t e = record { token = t; only = refl; kind = e }

pub sign_then : (k : TokenKind) (P : Lang) (t : Tok) (us : List Tok) → t.kind ≡ k → P us → (Sign k ⨟ P) (t ∷ us)
sign_then k P t us e p = record { front = t ∷ []; back = us; parts = refl; first = one_sign k t e; second = p }

toks_append : (ts us : List Token) → toks (ts ++ us) ≡ toks ts ++ toks us
toks_append [] us = refl
toks_append (t ∷ ts) us = ap (λ (z : List Tok). tok_of t ∷ z) (toks_append ts us)

lexed_map : (P Q : Lang) → ((us : List Tok) → P us → Q us) → (x : Lexed) → LexedIn P x → LexedIn Q x
lexed_map P Q f (tokens ts) h = f (toks ts) h
lexed_map P Q f (refused g o) h = h

-- ---- a larger language

pub later_map : (n : ℕ) (z : List ℕ) (P Q : Lang) → ((us : List Tok) → P us → Q us) → LaterIn n z P → LaterIn n z Q
later_map n z P Q f h = record { reads = λ row₀ row at e k. lexed_map P Q f (lex_lines row₀ e k (stack n) (later_lines row at z)) (h.reads row₀ row at e k) }

pub behind_map : (n : ℕ) (z : List ℕ) (P Q : Lang) → ((us : List Tok) → P us → Q us) → (us : List Tok) → Behind n z P us → Behind n z Q us
behind_map n z P Q f us h = record { later = later_map n z (λ vs. (t : Tok) → t.kind ≡ kind.Nl → P (us ++ t ∷ vs)) (λ vs. (t : Tok) → t.kind ≡ kind.Nl → Q (us ++ t ∷ vs)) (λ vs p t e. f (us ++ t ∷ vs) (p t e)) h.later }

pub rest_map : (n : ℕ) (z : List ℕ) (P Q : Lang) → ((us : List Tok) → P us → Q us) → RestIn n z P → RestIn n z Q
rest_map n z P Q f h = record { utf8 = h.utf8; words = words_map (content_of z) (Behind n z P) (Behind n z Q) (behind_map n z P Q f) h.words }

pub lines_map : (n : ℕ) (r : List ℕ) (P Q : Lang) → ((us : List Tok) → P us → Q us) → LinesIn n r P → LinesIn n r Q
lines_map n r P Q f h = record { utf8 = h.utf8; reads = λ row₀ row e k. lexed_map P Q f (lex_lines row₀ e k (stack n) (lines row r)) (h.reads row₀ row e k) }

-- ---- a word

past : ℕ → List ℕ → ℕ
past at [] = at
past at (b ∷ w) = past (suc at) w

flat_later : (w z : List ℕ) (row : Row) (at : ℕ) → flat w ≡ true → later_lines row at (w ++ z) ≡ later_lines row (past at w) z
unfolding past
flat_later [] z row at h = refl
flat_later (b ∷ w) z row at h =
    let e = no_line (b == 10) (b == 13) (and_left (not ((b == 10) || (b == 13))) (flat w) h) in
    ap (λ (x : Bool). cond x (line_at (next_row row (suc at)) (w ++ z) ∷ later_lines (next_row row (suc at)) (suc at) (w ++ z)) (later_lines row (suc at) (w ++ z))) e
    ∙ flat_later w z row (suc at) (and_right (not ((b == 10) || (b == 13))) (flat w) h)
  where
    no_line : (x y : Bool) → not (x || y) ≡ true → x ≡ false
    no_line true y h = absurd (let t : false ≡ true = h in cc)
    no_line false y h = refl

flat_behind : (n : ℕ) (w z : List ℕ) (P : Lang) → flat w ≡ true → LaterIn n z P → LaterIn n (w ++ z) P
flat_behind n w z P f h = record { reads = λ row₀ row at e k. subst (λ (ls : List Line). LexedIn P (lex_lines row₀ e k (stack n) ls)) (sym (flat_later w z row at f)) (h.reads row₀ row (past at w) e k) }

-- a printed word, and the rest behind it
pub rest_word : (n : ℕ) (word : Word) (w z : List ℕ) (P : Lang) → IsPrinted word w → Apart word (content_of z) → slashless (content_of z) ≡ true → RestIn n z P → RestIn n (w ++ z) (Sign (kind_of word) ⨟ P)
rest_word n word w z P h apart s k = record {
  utf8 = IsUtf8-append w z h.utf8 k.utf8;
  words = subst (λ (u : List ℕ). WordsIn u (Behind n (w ++ z) (Sign (kind_of word) ⨟ P))) (sym (flat_content w z h.is_flat))
      (one_word word w (content_of z) (Behind n (w ++ z) (Sign (kind_of word) ⨟ P)) (Behind n z P) h apart s there k.words);
}
  where
    there : (t : Tok) (us : List Tok) → t.kind ≡ kind_of word → Behind n z P us → Behind n (w ++ z) (Sign (kind_of word) ⨟ P) (t ∷ us)
    there t us e b = record {
      later = flat_behind n w z (λ vs. (t' : Tok) → t'.kind ≡ kind.Nl → (Sign (kind_of word) ⨟ P) (t ∷ us ++ t' ∷ vs)) h.is_flat
          (later_map n z (λ vs. (t' : Tok) → t'.kind ≡ kind.Nl → P (us ++ t' ∷ vs)) (λ vs. (t' : Tok) → t'.kind ≡ kind.Nl → (Sign (kind_of word) ⨟ P) (t ∷ us ++ t' ∷ vs))
          (λ vs p t' e'. sign_then (kind_of word) P t (us ++ t' ∷ vs) e (p t' e')) b.later);
    }

-- ---- a blank

blank_words : (u : List ℕ) (P : Lang) → WordsIn u P → WordsIn (32 ∷ u) P
blank_words u P h = record { reads = λ v e n row c at l. h.reads v e n row c at l }

pub rest_blank : (n : ℕ) (z : List ℕ) (P : Lang) → RestIn n z P → RestIn n (32 ∷ z) P
rest_blank n z P h = record {
  utf8 = IsUtf8-append (32 ∷ []) z (utf8_small 32 (omega arith)) h.utf8;
  words = subst (λ (u : List ℕ). WordsIn u (Behind n (32 ∷ z) P)) (sym (flat_content (32 ∷ []) z refl)) (blank_words (content_of z) (Behind n (32 ∷ z) P) (words_map (content_of z) (Behind n z P) (Behind n (32 ∷ z) P) there h.words));
}
  where
    there : (us : List Tok) → Behind n z P us → Behind n (32 ∷ z) P us
    there us b = record { later = flat_behind n (32 ∷ []) z (λ vs. (t : Tok) → t.kind ≡ kind.Nl → P (us ++ t ∷ vs)) refl b.later }

-- ---- the end of a line

ended : (r : List ℕ) → content_of (10 ∷ r) ≡ []
ended [] = refl
ended (c ∷ r) = refl

pub rest_end : (n : ℕ) (r : List ℕ) (P : Lang) → LinesIn n r P → RestIn n (10 ∷ r) (Sign kind.Nl ⨟ P)
rest_end n r P h = record {
  utf8 = IsUtf8-append (10 ∷ []) r (utf8_small 10 (omega arith)) h.utf8;
  words = subst (λ (u : List ℕ). WordsIn u (Behind n (10 ∷ r) (Sign kind.Nl ⨟ P))) (sym (ended r)) (no_words (Behind n (10 ∷ r) (Sign kind.Nl ⨟ P)) (record {
    later = record {
      reads = λ row₀ row at e k.
          lexed_map P (λ vs. (t : Tok) → t.kind ≡ kind.Nl → (Sign kind.Nl ⨟ P) (t ∷ vs)) (λ vs p t e. sign_then kind.Nl P t vs e p) (lex_lines row₀ e k (stack n) (lines (next_row row (suc at)) r)) (h.reads row₀ (next_row row (suc at)) e k);
    };
  }));
}

-- ---- the open widths

less : (a b : ℕ) → a < b → nat_lt a b ≡ true
less a b h = grind arith

same : (a b : ℕ) → a ≡ b → (a == b) ≡ true
same a b h = grind arith

not_same : (a b : ℕ) → b < a → (a == b) ≡ false
not_same a b h = grind arith

pub record IsBack (j n m : ℕ) : Type 0 where
  pub left : rest (2 * n) (stack m) ≡ stack n
  pub count : above (2 * n) (stack m) ≡ j

is_back : (j n m : ℕ) → m ≡ j + n → IsBack j n m
is_back zero zero zero e = record { left = refl; count = refl }
is_back zero zero (suc m) e = absurd (omega arith)
is_back zero (suc n) zero e = absurd (omega arith)
is_back zero (suc n) (suc m) e = let f : m ≡ n = omega arith in subst (λ (x : ℕ). IsBack zero (suc n) (suc x)) (sym f) here
  where
    here : IsBack zero (suc n) (suc n)
    here = let l = le-ltb (2 * suc n) (2 * suc n) (omega arith) in record { left = rw l refl; count = rw l refl }
is_back (suc j) n zero e = absurd (omega arith)
is_back (suc j) n (suc m) e =
    let k = is_back j n m (omega arith) in
    let l = less (2 * n) (2 * suc m) (omega arith) in
    let a = k.left in let b = k.count in
    record { left = rw l a; count = rw l (ap suc b) }

top : (n : ℕ) → is_top (2 * n) (stack n) ≡ true
top zero = refl
top (suc n) = same (2 * suc n) (2 * suc n) refl

back_step : (j n m : ℕ) → m ≡ j + n → step_of (2 * n) (stack m) ≡ back j
back_step j n m e =
    let k = is_back j n m e in
    ap (λ (st : List ℕ). cond (is_top (2 * n) st) (back (above (2 * n) (stack m))) (not_open (above (2 * n) (stack m)))) k.left
    ∙ ap (λ (b : Bool). cond b (back (above (2 * n) (stack m))) (not_open (above (2 * n) (stack m)))) (top n)
    ∙ ap back k.count

back_stack : (j n m : ℕ) → m ≡ j + n → stack_after (2 * n) (stack m) ≡ stack n
back_stack j n m e =
    let k = is_back j n m e in
    ap (λ (st : List ℕ). cond (is_top (2 * n) st) st (pushed (above (2 * n) (stack m)) (2 * n) st)) k.left
    ∙ ap (λ (b : Bool). cond b (stack n) (pushed (above (2 * n) (stack m)) (2 * n) (stack n))) (top n)

pub record IsDeeper (n : ℕ) : Type 0 where
  pub left : rest (2 * suc n) (stack n) ≡ stack n
  pub count : above (2 * suc n) (stack n) ≡ 0
  pub new : is_top (2 * suc n) (stack n) ≡ false

is_deeper : (n : ℕ) → IsDeeper n
is_deeper zero = record { left = refl; count = refl; new = refl }
is_deeper (suc n) =
    let l = le-ltb (2 * suc (suc n)) (2 * suc n) (omega arith) in
    record { left = rw l refl; count = rw l refl; new = not_same (2 * suc (suc n)) (2 * suc n) (omega arith) }

deeper_step : (n : ℕ) → step_of (2 * suc n) (stack n) ≡ deeper
deeper_step n =
    let k = is_deeper n in
    ap (λ (st : List ℕ). cond (is_top (2 * suc n) st) (back (above (2 * suc n) (stack n))) (not_open (above (2 * suc n) (stack n)))) k.left
    ∙ ap (λ (b : Bool). cond b (back (above (2 * suc n) (stack n))) (not_open (above (2 * suc n) (stack n)))) k.new
    ∙ ap not_open k.count

deeper_stack : (n : ℕ) → stack_after (2 * suc n) (stack n) ≡ stack (suc n)
deeper_stack n =
    let k = is_deeper n in
    ap (λ (st : List ℕ). cond (is_top (2 * suc n) st) st (pushed (above (2 * suc n) (stack n)) (2 * suc n) st)) k.left
    ∙ ap (λ (b : Bool). cond b (stack n) (pushed (above (2 * suc n) (stack n)) (2 * suc n) (stack n))) k.new
    ∙ ap (λ (c : ℕ). pushed c (2 * suc n) (stack n)) k.count

-- ---- a line

-- what opens a line, or stands behind an opening symbol: no blank, no line's end, no second character of a symbol, no slash
abbrev pub opens : List ℕ → Bool
opens [] = false
opens (c ∷ cs) = not (one_of c (9 ∷ 10 ∷ 13 ∷ 32 ∷ 38 ∷ 43 ∷ 47 ∷ 61 ∷ 124 ∷ []))

unlike : (c : ℕ) (ns : List ℕ) (n : ℕ) → not (one_of c ns) ≡ true → one_of n ns ≡ true → (c == n) ≡ false
unlike c ns n h k = go (c == n) refl
  where
    go : (b : Bool) → (c == n) ≡ b → (c == n) ≡ false
    go false e = e
    go true e = let t : false ≡ true = sym (ap not (ap (λ (x : ℕ). one_of x ns) (eq_is c n e) ∙ k)) ∙ h in absurd cc

abbrev shut : List ℕ
shut = 9 ∷ 10 ∷ 13 ∷ 32 ∷ 38 ∷ 43 ∷ 47 ∷ 61 ∷ 124 ∷ []

pub opens_free : (u : List ℕ) → opens u ≡ true → free u ≡ true
opens_free [] h = refl
opens_free (c ∷ cs) h =
    let a = unlike c shut 61 h refl in let b = unlike c shut 43 h refl in let d = unlike c shut 38 h refl in let e = unlike c shut 124 h refl in let f = unlike c shut 47 h refl in
    rw (a, b, d, e, f) refl

pub opens_append : (u v : List ℕ) → opens u ≡ true → opens (u ++ v) ≡ true
opens_append [] v h = absurd (let t : false ≡ true = h in cc)
opens_append (c ∷ u) v h = h

pub record OpensLine (u : List ℕ) : Type 0 where
  pub no_space : after_spaces u ≡ u
  pub no_width : width u ≡ 0
  pub no_tab : has_tab u ≡ false
  pub full : is_done u ≡ false

opens_line : (z : List ℕ) → opens z ≡ true → OpensLine (content_of z)
opens_line [] h = absurd (let t : false ≡ true = h in cc)
opens_line (c ∷ z) h = subst OpensLine (sym (flat_content (c ∷ []) z flat_here)) (record {
  no_space = rw not_space refl;
  no_width = rw not_space refl;
  no_tab = unlike c shut 9 h refl;
  full = full (content_of z);
})
  where
    not_space : (c == 32) ≡ false
    not_space = unlike c shut 32 h refl

    flat_here : flat (c ∷ []) ≡ true
    flat_here = let a = unlike c shut 10 h refl in let b = unlike c shut 13 h refl in rw (a, b) refl

    full : (u : List ℕ) → is_done (c ∷ u) ≡ false
    full [] = refl
    full (b ∷ u) = let s = unlike c shut 47 h refl in rw s refl

indent_flat : (n : ℕ) → flat (indented n) ≡ true
indent_flat zero = refl
indent_flat (suc n) = indent_flat n

indent_utf8 : (n : ℕ) → IsUtf8 (indented n)
indent_utf8 zero = IsUtf8-nil
indent_utf8 (suc n) = IsUtf8-append (32 ∷ 32 ∷ []) (indented n) (IsUtf8-append (32 ∷ []) (32 ∷ []) (utf8_small 32 (omega arith)) (utf8_small 32 (omega arith))) (indent_utf8 n)

indent_width : (n : ℕ) (u : List ℕ) → width u ≡ 0 → width (indented n ++ u) ≡ 2 * n
indent_width zero u h = h
indent_width (suc n) u h = let ih = indent_width n u h in omega arith

indent_spaces : (n : ℕ) (u : List ℕ) → after_spaces u ≡ u → after_spaces (indented n ++ u) ≡ u
indent_spaces zero u h = h
indent_spaces (suc n) u h = indent_spaces n u h

-- the step is none that is wrong
abbrev IsGood : Step → Type 0
IsGood deeper = Unit {0}
IsGood (back j) = Unit {0}
IsGood (wrong j) = ⊥

opening_limit : (s : Step) (n depth : ℕ) (f : Fault) → IsGood s → opening s n depth ≡ passes f → is_limit f ≡ true
opening_limit s n depth f g e = go s g (nat_lt most_tokens (n + mark_count s)) e
  where
    one : (f g : Fault) → passes f ≡ passes g → f ≡ g
    one f g e = cc

    deep : (b : Bool) → cond b (passes fault.Indents) fits ≡ passes f → is_limit f ≡ true
    deep true e = ap is_limit (sym (one fault.Indents f e))
    deep false e = absurd (let t : fits ≡ passes f = e in cc)

    go : (s : Step) → IsGood s → (b : Bool) → cond b (passes fault.Tokens) (wrong_step s depth) ≡ passes f → is_limit f ≡ true
    go s g true e = ap is_limit (sym (one fault.Tokens f e))
    go deeper g false e = deep (nat_lt most_indents depth) e
    go (back j) g false e = absurd (let t : fits ≡ passes f = e in cc)
    go (wrong j) g false e = absurd g

-- what the marks before a line make of a language
pub record LineIs (m n k : ℕ) (s : Step) (P Q : Lang) : Type 0 where
  pub step : step_of (2 * k) (stack m) ≡ s
  pub widths : stack_after (2 * k) (stack m) ≡ stack n
  pub is_good : IsGood s
  pub before : (row : Row) (at : ℕ) (us : List Tok) → Q us → P (toks (marks row s at) ++ us)

-- the tokens of a line
abbrev whole : Row → Step → ℕ → List Token → ℕ → List Token
whole row s at us fin = marks row s at ++ (us ++ mark row kind.Nl fin ∷ [])

ended_in : (P R : Lang) (row : Row) (s : Step) (at n fin : ℕ) (st : List ℕ) (next : List Token → List ℕ → Lexed) (x : Found) →
    ((us : List Token) → R (toks us) → LexedIn P (join (whole row s at us fin) (next (whole row s at us fin) st))) → FoundIn R x → LexedIn P (by_out (with_end row (marks row s at) n fin st x) next)
ended_in P R row s at n fin st next (good us) f h = go (nat_lt (n + length us) most_tokens)
  where
    go : (b : Bool) → LexedIn P (by_out (cond b (laid (whole row s at us fin) st) (broken fault.Tokens fin)) next)
    go true = f us h
    go false = refl
ended_in P R row s at n fin st next (bad_at g o) f h = h

sooner_in : (P R : Lang) (f : Fault) (at : ℕ) (next : List Token → List ℕ → Lexed) (x : Found) → is_limit f ≡ true → FoundIn R x → LexedIn P (by_out (sooner f at x) next)
sooner_in P R f at next (good us) l h = l
sooner_in P R f at next (bad_at g o) l h = go ((o == at) && nat_lt (rank g) (rank f))
  where
    go : (b : Bool) → LexedIn P (by_out (cond b (broken g o) (broken f at)) next)
    go true = h
    go false = l

-- what follows a line's words
abbrev After : ℕ → List ℕ → Lang → Row → ℕ → List Line → Type 0
After n z Q row e later = (us : List Tok) → Behind n z Q us → (c : ℕ) → LexedIn (λ vs. (t : Tok) → t.kind ≡ kind.Nl → Q (us ++ t ∷ vs)) (lex_lines row e c (stack n) later)

toks_whole : (row : Row) (s : Step) (at : ℕ) (us : List Token) (fin : ℕ) (vs : List Token) → toks (whole row s at us fin ++ vs) ≡ toks (marks row s at) ++ (toks us ++ tok_of (mark row kind.Nl fin) ∷ toks vs)
toks_whole row s at us fin vs =
    toks_append (whole row s at us fin) vs
    ∙ ap (λ (x : List Tok). x ++ toks vs) (toks_append (marks row s at) (us ++ mark row kind.Nl fin ∷ []) ∙ ap (λ (x : List Tok). toks (marks row s at) ++ x) (toks_append us (mark row kind.Nl fin ∷ [])))
    ∙ append_assoc (toks (marks row s at)) (toks us ++ tok_of (mark row kind.Nl fin) ∷ []) (toks vs)
    ∙ ap (λ (x : List Tok). toks (marks row s at) ++ x) (append_assoc (toks us) (tok_of (mark row kind.Nl fin) ∷ []) (toks vs))

joined_in : (P Q : Lang) (row : Row) (s : Step) (at : ℕ) (us : List Token) (fin : ℕ) (x : Lexed) → ((vs : List Tok) → Q vs → P (toks (marks row s at) ++ vs)) →
    LexedIn (λ vs. (t : Tok) → t.kind ≡ kind.Nl → Q (toks us ++ t ∷ vs)) x → LexedIn P (join (whole row s at us fin) x)
joined_in P Q row s at us fin (tokens vs) f h = subst P (sym (toks_whole row s at us fin vs)) (f (toks us ++ tok_of (mark row kind.Nl fin) ∷ toks vs) (h (tok_of (mark row kind.Nl fin)) refl))
joined_in P Q row s at us fin (refused g o) f h = h

opened : (s : Step) (st : List ℕ) (c w : ℕ) (l : Line) → width l.content ≡ w → has_tab (after_spaces l.content) ≡ false → is_done (after_spaces l.content) ≡ false → step_of w st ≡ s →
    line_out c st l ≡ by_opening (opening s c (length st)) s c st l
unfolding line_out
opened s st c w l e t d f =
    ap (λ (b : Bool). cond b (broken fault.TabIndent (begin l)) (cond (is_done (after_spaces l.content)) (laid [] st) (by_step (step_of (width l.content) st) c st l))) t
    ∙ ap (λ (b : Bool). cond b (laid [] st) (by_step (step_of (width l.content) st) c st l)) d
    ∙ ap (λ (x : Step). by_step x c st l) (ap (λ (x : ℕ). step_of x st) e ∙ f)

words_found : (u : List ℕ) (R : Lang) (l : Line) (c : ℕ) → after_spaces l.content ≡ u → WordsIn u R → FoundIn R (line_words l c)
unfolding words_of
words_found u R l c e r = r.reads (after_spaces l.content) (ap after_blanks e) (suc (length (after_spaces l.content))) l.row (counted_from c) (begin l) (omega arith)

-- a line that is no blank one
line_reads : (m n k : ℕ) (s : Step) (z : List ℕ) (P Q : Lang) (l : Line) (later : List Line) (e c : ℕ) → LineIs m n k s P Q → opens z ≡ true → WordsIn (content_of z) (Behind n z Q) →
    width l.content ≡ 2 * k → after_spaces l.content ≡ content_of z → After n z Q l.row e later →
    LexedIn P (by_out (line_out c (stack m) l) (λ us st. lex_lines l.row e (c + length us) st later))
line_reads m n k s z P Q l later e c h o r w a after =
    let q = opens_line z o in
    let found = words_found (content_of z) (Behind n z Q) l (c + mark_count s) a r in
    subst (λ (x : LineOut). LexedIn P (by_out x (λ us st. lex_lines l.row e (c + length us) st later)))
    (sym (opened s (stack m) c (2 * k) l w (ap has_tab a ∙ q.no_tab) (ap is_done a ∙ q.full) h.step))
    (go (opening s c (length (stack m))) refl found)
  where
    go : (x : Within) → opening s c (length (stack m)) ≡ x → FoundIn (Behind n z Q) (line_words l (c + mark_count s)) →
        LexedIn P (by_out (by_opening x s c (stack m) l) (λ us st. lex_lines l.row e (c + length us) st later))
    go fits y found =
        subst (λ (st : List ℕ). LexedIn P (by_out (with_end l.row (marks l.row s (begin l)) (c + mark_count s) (finish l) st (line_words l (c + mark_count s))) (λ us st. lex_lines l.row e (c + length us) st later)))
        (sym (ap (λ (x : ℕ). stack_after x (stack m)) w ∙ h.widths))
        (ended_in P (Behind n z Q) l.row s (begin l) (c + mark_count s) (finish l) (stack n) (λ us st. lex_lines l.row e (c + length us) st later) (line_words l (c + mark_count s))
        (λ us b. joined_in P Q l.row s (begin l) us (finish l) (lex_lines l.row e (c + length (whole l.row s (begin l) us (finish l))) (stack n) later) (h.before l.row (begin l)) (after (toks us) b (c + length (whole l.row s (begin l) us (finish l))))) found)
    go (passes f) y found = sooner_in P (Behind n z Q) f (begin l) (λ us st. lex_lines l.row e (c + length us) st later) (line_words l (c + mark_count s)) (opening_limit s c (length (stack m)) f h.is_good y) found

-- a line, by what stands before it
line_in : (m n k : ℕ) (s : Step) (z : List ℕ) (P Q : Lang) → LineIs m n k s P Q → opens z ≡ true → RestIn n z Q → LinesIn m (indented k ++ z) P
line_in m n k s z P Q h o r = record {
  utf8 = IsUtf8-append (indented k) z (indent_utf8 k) r.utf8;
  reads = λ row₀ row e c. line_reads m n k s z P Q (line_at row (indented k ++ z)) (later_lines row row.start (indented k ++ z)) e c h o r.words
      (ap width (flat_content (indented k) z (indent_flat k)) ∙ indent_width k (content_of z) (let q = opens_line z o in q.no_width))
      (ap after_spaces (flat_content (indented k) z (indent_flat k)) ∙ indent_spaces k (content_of z) (let q = opens_line z o in q.no_space))
      (λ us b c. let d = flat_behind n (indented k) z (λ vs. (t : Tok) → t.kind ≡ kind.Nl → Q (us ++ t ∷ vs)) (indent_flat k) b.later in d.reads row row row.start e c);
}

-- ---- lines at an indentation, whatever is open above it

abbrev pub outs : ℕ → Lang → Lang
outs zero P = P
outs (suc j) P = outs j (Sign kind.Out ⨟ P)

-- the text r begins no deeper than n indentations: where more are open, an Out stands before its tokens for each of them
pub record UpIn (n : ℕ) (r : List ℕ) (P : Lang) : Type 0 where
  pub reads : (j m : ℕ) → m ≡ j + n → LinesIn m r (outs j P)

-- where no more are open
pub up_here : (n : ℕ) (r : List ℕ) (P : Lang) → UpIn n r P → LinesIn n r P
up_here n r P h = h.reads 0 n (omega arith)

-- where one more is open
pub up_out : (n : ℕ) (r : List ℕ) (P : Lang) → UpIn n r P → UpIn (suc n) r (Sign kind.Out ⨟ P)
up_out n r P h = record { reads = λ j m e. h.reads (suc j) m (omega arith) }

outs_map : (j : ℕ) (P Q : Lang) → ((us : List Tok) → P us → Q us) → (us : List Tok) → outs j P us → outs j Q us
outs_map zero P Q f us h = f us h
outs_map (suc j) P Q f us h = outs_map j (Sign kind.Out ⨟ P) (Sign kind.Out ⨟ Q) (λ vs x. record { front = x.front; back = x.back; parts = x.parts; first = x.first; second = f x.back x.second }) us h

pub up_map : (n : ℕ) (r : List ℕ) (P Q : Lang) → ((us : List Tok) → P us → Q us) → UpIn n r P → UpIn n r Q
up_map n r P Q f h = record { reads = λ j m e. lines_map m r (outs j P) (outs j Q) (outs_map j P Q f) (h.reads j m e) }

slide : (j : ℕ) (t : Token) (us : List Tok) → toks (replicate (suc j) t) ++ us ≡ toks (replicate j t) ++ tok_of t ∷ us
slide zero t us = refl
slide (suc j) t us = ap (λ (z : List Tok). tok_of t ∷ z) (slide j t us)

some_outs : (j : ℕ) (row : Row) (at : ℕ) (P : Lang) (us : List Tok) → P us → outs j P (toks (replicate j (mark row kind.Out at)) ++ us)
some_outs zero row at P us h = h
some_outs (suc j) row at P us h = subst (outs j (Sign kind.Out ⨟ P)) (sym (slide j (mark row kind.Out at) us)) (some_outs j row at (Sign kind.Out ⨟ P) (tok_of (mark row kind.Out at) ∷ us) (sign_then kind.Out P (tok_of (mark row kind.Out at)) us refl h))

-- a line at an indentation
pub up_line : (n : ℕ) (z : List ℕ) (P : Lang) → opens z ≡ true → RestIn n z P → UpIn n (indented n ++ z) P
up_line n z P o r = record { reads = λ j m e. line_in m n n (back j) z (outs j P) P (record { step = back_step j n m e; widths = back_stack j n m e; is_good = tt; before = λ row at us q. some_outs j row at P us q }) o r }

-- a line that is one deeper
pub deeper_line : (n : ℕ) (z : List ℕ) (P : Lang) → opens z ≡ true → RestIn (suc n) z P → LinesIn n (indented (suc n) ++ z) (Sign kind.In ⨟ P)
deeper_line n z P o r = line_in n (suc n) (suc n) deeper z (Sign kind.In ⨟ P) P (record { step = deeper_step n; widths = deeper_stack n; is_good = tt; before = λ row at us q. sign_then kind.In P (tok_of (mark row kind.In at)) us refl q }) o r

-- a blank line
blank_out : (st : List ℕ) (c : ℕ) (row : Row) (r : List ℕ) → line_out c st (line_at row (10 ∷ r)) ≡ laid [] st
unfolding line_out
blank_out st c row [] = refl
blank_out st c row (b ∷ r) = refl

none_joined : (P : Lang) (x : Lexed) → LexedIn P x → LexedIn P (join [] x)
none_joined P (tokens ts) h = h
none_joined P (refused f o) h = h

blank_in : (m : ℕ) (r : List ℕ) (P : Lang) → LinesIn m r P → LinesIn m (10 ∷ r) P
blank_in m r P h = record {
  utf8 = IsUtf8-append (10 ∷ []) r (utf8_small 10 (omega arith)) h.utf8;
  reads = λ row₀ row e c. subst (λ (x : LineOut). LexedIn P (by_out x (λ us st. lex_lines row e (c + length us) st (lines (next_row row (suc row.start)) r)))) (sym (blank_out (stack m) c row r))
      (none_joined P (lex_lines row e (c + 0) (stack m) (lines (next_row row (suc row.start)) r)) (h.reads row (next_row row (suc row.start)) e (c + 0)));
}

pub up_blank : (n : ℕ) (r : List ℕ) (P : Lang) → UpIn n r P → UpIn n (10 ∷ r) P
up_blank n r P h = record { reads = λ j m e. blank_in m r (outs j P) (h.reads j m e) }

-- the end of a file
stack_length : (m : ℕ) → length (stack m) ≡ suc m
stack_length zero = refl
stack_length (suc m) = ap suc (stack_length m)

end_in : (j m : ℕ) → m ≡ j + 0 → LinesIn m [] (outs j (Sign kind.End))
unfolding line_out
end_in j m e = record { utf8 = IsUtf8-nil; reads = λ row₀ row e c. none_joined (outs j (Sign kind.End)) (end_of row e (c + 0) (stack m)) (go row e (nat_lt most_tokens (c + 0 + length (stack m)))) }
  where
    count : length (stack m) - 1 ≡ j
    count = let l = stack_length m in omega arith

    go : (row : Row) (e : ℕ) (b : Bool) → LexedIn (outs j (Sign kind.End)) (cond b (refused fault.Tokens e) (tokens (closing row e (stack m))))
    go row e true = refl
    go row e false = subst (outs j (Sign kind.End)) (sym (toks_append (replicate (length (stack m) - 1) (mark row kind.Out e)) (mark row kind.End e ∷ [])))
        (subst (λ (i : ℕ). outs j (Sign kind.End) (toks (replicate i (mark row kind.Out e)) ++ tok_of (mark row kind.End e) ∷ [])) (sym count)
        (some_outs j row e (Sign kind.End) (tok_of (mark row kind.End e) ∷ []) (one_sign kind.End (tok_of (mark row kind.End e)) refl)))

-- the end of a file closes all that is open
pub up_end : UpIn 0 [] (Sign kind.End)
up_end = record { reads = λ j m e. end_in j m e }
