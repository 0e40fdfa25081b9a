-- What a text is read as: by its words in a line, and by its lines behind a stack of open widths.
use Rattle.std.proofs.Common.{◌≡◌, ℕ, zero, suc, ◌*◌, ◌<◌, nat_le, Bool, true, false, cond, ◌&&◌, List, [], ◌∷◌, ◌++◌, length, refl, sym, ap, subst, ◌∙◌, arith, IsUtf8, inr}
use Rattle.wy_text.specs.declared.token.Token.{Token}
use Rattle.wy_text.specs.declared.token.TokenKind.{TokenKind}
use Rattle.wy_text.specs.declared.token.TokenKind.TheVariants as kind
use Rattle.wy_layout.specs.Words.{Word, kind_of, Within, fits, passes}
use Rattle.wy_layout.specs.Faults.{IsWithin}
use Rattle.wy_layout.specs.Printed.{Apart}
use Rattle.wy_text.specs.TokenLists.{is_counted, most_marks}
use Rattle.wy_layout.specs.Counts.{counted, passed, most_tokens}
use Rattle.wy_layout.specs.Lines.{lines, later_lines, content_of, after_blanks, is_done}
use Rattle.wy_layout.specs.Layout.{token, off}
use Rattle.wy_layout.specs.Read.{Read, next_at}
use Rattle.wy_layout.specs.Lexed.{Found, good, bad_at, onto, next, read_words, Lexed, tokens, refused, lex_lines}
use Rattle.wy_layout.specs.declared.count.Count.{Count}
use Rattle.wy_layout.specs.declared.refusal.Fault.{Fault}
use Rattle.wy_layout.specs.declared.refusal.Fault.TheVariants as fault
use Rattle.wy_layout.specs.declared.row.Row.{Row}
use Rattle.wy_layout.proofs.WordRead.{next_read, wrong_next}
use Rattle.wy_layout.proofs.LineWords.{shrinks, blanks_within}
use Rattle.wy_layout.proofs.Apart.{word_stands}
use Rattle.wy_syntax.specs.Tokens.{Tok, tok_of, toks}
use Rattle.wy_syntax.specs.Languages.{Lang}
use Rattle.wy_canonical.proofs.PrintedWords.{IsPrinted, slashless, fine_done, fine_blanks}

-- ---- limits

-- the fault is that a limit is passed
abbrev pub is_limit : Fault → Bool
is_limit fault.NameBytes = true
is_limit fault.Tokens = true
is_limit fault.Indents = true
is_limit fault.Marks = true
is_limit other = false

-- words are read that the language has, or a limit is passed
abbrev pub FoundIn : Lang → Found → Type 0
FoundIn P (good ts) = P (toks ts)
FoundIn P (bad_at f o) = is_limit f ≡ true

-- and the same of lines
abbrev pub LexedIn : Lang → Lexed → Type 0
LexedIn P (tokens ts) = P (toks ts)
LexedIn P (refused f o) = is_limit f ≡ true

passed_limit : (c : Count) (k : TokenKind) (f : Fault) → passed c k ≡ passes f → is_limit f ≡ true
passed_limit c k f e = go (nat_le most_tokens c.tokens) (is_counted c.open_braces k && nat_le most_marks c.marks) e
  where
    same : (f g : Fault) → passes f ≡ passes g → f ≡ g
    same f g e = cc

    go : (a b : Bool) → cond a (passes fault.Tokens) (cond b (passes fault.Marks) fits) ≡ passes f → is_limit f ≡ true
    go true b e = ap is_limit (sym (same fault.Tokens f e))
    go false true e = ap is_limit (sym (same fault.Marks f e))
    go false false e = absurd (let t : fits ≡ passes f = e in cc)

-- ---- the words of a line

-- whatever blanks stand before, the text u is read as words of the language
pub record WordsIn (u : List ℕ) (P : Lang) : Type 0 where
  pub reads : (v : List ℕ) → after_blanks v ≡ after_blanks u → (n : ℕ) (row : Row) (c : Count) (at : ℕ) → length v < n → FoundIn P (read_words n row c at v)

pub no_words : (P : Lang) → P [] → WordsIn [] P
no_words P p = record { reads = λ v e n row c at h. go v e n row c at h }
  where
    go : (v : List ℕ) → after_blanks v ≡ [] → (n : ℕ) (row : Row) (c : Count) (at : ℕ) → length v < n → FoundIn P (read_words n row c at v)
    go v e zero row c at h = absurd (omega arith)
    go v e (suc n) row c at h = let d : is_done (after_blanks v) ≡ true = ap is_done e in rw d p

onto_in : (t : Token) (P Q : Lang) (x : Found) → ((us : List Tok) → Q us → P (tok_of t ∷ us)) → FoundIn Q x → FoundIn P (onto t x)
onto_in t P Q (good ts) f h = f (toks ts) h
onto_in t P Q (bad_at g o) f h = h

-- a printed word, and what is read behind it
pub one_word : (word : Word) (w u : List ℕ) (P Q : Lang) → IsPrinted word w → Apart word u → slashless u ≡ true →
    ((t : Tok) (us : List Tok) → t.kind ≡ kind_of word → Q us → P (t ∷ us)) → WordsIn u Q → WordsIn (w ++ u) P
one_word word w u P Q h apart s f k = record { reads = λ v e n row c at l. go v e n row c at l }
  where
    is_in : IsWithin word (w ++ u) u
    is_in = word_stands word w u h.is_word h.limits apart

    here : (v : List ℕ) → after_blanks v ≡ after_blanks (w ++ u) → after_blanks v ≡ w ++ u
    here v e = e ∙ fine_blanks w u h.begins

    go : (v : List ℕ) → after_blanks v ≡ after_blanks (w ++ u) → (n : ℕ) (row : Row) (c : Count) (at : ℕ) → length v < n → FoundIn P (read_words n row c at v)
    go v e zero row c at l = absurd (omega arith)
    go v e (suc n) row c at l =
        let d : is_done (after_blanks v) ≡ false = ap is_done (here v e) ∙ fine_done w u h.begins s in
        subst (λ (b : Bool). FoundIn P (cond b (good []) (next row c at v (next_at c (after_blanks v)) (λ c' at' r. read_words n row c' at' r)))) (sym d)
        (subst (λ (z : List ℕ). FoundIn P (next row c at v (next_at c z) (λ c' at' r. read_words n row c' at' r))) (sym (here v e)) (by_count (passed c (kind_of word)) refl))
      where
        short : length u < n
        short =
            let a = shrinks word (w ++ u) u is_in in
            let b = blanks_within v in
            let c = ap length (here v e) in
            omega arith

        by_count : (x : Within) → passed c (kind_of word) ≡ x → FoundIn P (next row c at v (next_at c (w ++ u)) (λ c' at' r. read_words n row c' at' r))
        by_count fits x =
            subst (λ (y : Read). FoundIn P (next row c at v y (λ c' at' r. read_words n row c' at' r))) (sym (next_read c word (w ++ u) u (record { within = is_in; fitting = x })))
            (onto_in (token row (kind_of word) (off at v (after_blanks v)) (off at v u)) P Q (read_words n row (counted c (kind_of word)) (off at v u) u)
            (λ us q. f (tok_of (token row (kind_of word) (off at v (after_blanks v)) (off at v u))) us refl q)
            (k.reads u refl n row (counted c (kind_of word)) (off at v u) short))
        by_count (passes g) x =
            subst (λ (y : Read). FoundIn P (next row c at v y (λ c' at' r. read_words n row c' at' r))) (sym (wrong_next c g (w ++ u) (w ++ u) (inr (record { place = refl; word = word; behind = u; within = is_in; passing = x }))))
            (passed_limit c (kind_of word) g x)

pub words_map : (u : List ℕ) (P Q : Lang) → ((us : List Tok) → P us → Q us) → WordsIn u P → WordsIn u Q
words_map u P Q f k = record { reads = λ v e n row c at l. go (read_words n row c at v) (k.reads v e n row c at l) }
  where
    go : (x : Found) → FoundIn P x → FoundIn Q x
    go (good ts) h = f (toks ts) h
    go (bad_at g o) h = h

-- ---- lines

-- the open widths at an indentation
abbrev pub stack : ℕ → List ℕ
stack zero = 0 ∷ []
stack (suc n) = (2 * suc n) ∷ stack n

-- in the lines of the text r behind the open widths the language's tokens are read
pub record LinesIn (n : ℕ) (r : List ℕ) (P : Lang) : Type 0 where
  pub utf8 : IsUtf8 r
  pub reads : (row₀ row : Row) (e k : ℕ) → LexedIn P (lex_lines row₀ e k (stack n) (lines row r))

-- in the lines behind this one
pub record LaterIn (n : ℕ) (z : List ℕ) (P : Lang) : Type 0 where
  pub reads : (row₀ row : Row) (at e k : ℕ) → LexedIn P (lex_lines row₀ e k (stack n) (later_lines row at z))

-- a language of a line's words and of the tokens of later lines, with a line's end between
pub record Behind (n : ℕ) (z : List ℕ) (P : Lang) (us : List Tok) : Type 0 where
  pub later : LaterIn n z (λ vs. (t : Tok) → t.kind ≡ kind.Nl → P (us ++ t ∷ vs))

-- in the text z, the rest of a line and further lines, the language's tokens are read
pub record RestIn (n : ℕ) (z : List ℕ) (P : Lang) : Type 0 where
  pub utf8 : IsUtf8 z
  pub words : WordsIn (content_of z) (Behind n z P)
