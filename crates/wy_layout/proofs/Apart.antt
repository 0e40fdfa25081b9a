-- A word that is printed is read as itself, where nothing behind it goes on with it.
use Rattle.std.proofs.Common.{◌≡◌, ℕ, ◌<◌, ◌==◌, Bool, true, false, cond, ◌||◌, List, [], ◌∷◌, ◌++◌, length, take, drop, refl, sym, ap, subst, ◌∙◌, arith, append_assoc, inl, inr}
use Rattle.std.specs.Char.{is_ascii_digit, is_ascii_alphanumeric}
use Rattle.std.specs.Str.{continuation_len}
use Rattle.unicode_ident.specs.Ident.{is_xid_continue}
use Rattle.unicode_ident.proofs.IdentLemmas.{is_xid_continue-ascii}
use Rattle.wy_text.specs.declared.token.TokenKind.{TokenKind}
use Rattle.wy_text.specs.declared.token.TokenKind.TheVariants as kind
use Rattle.wy_text.specs.Spelling.{spelling_of}
use Rattle.wy_layout.specs.Names.{is_name, starts, go_on, head_char}
use Rattle.wy_layout.specs.Texts.{IsText, spell}
use Rattle.wy_layout.specs.Words.{Word, name, number, text, fixed, IsWord, Within, fits, over, is_number, all_digits, value_from, among, reserved, symbols, kind_of}
use Rattle.wy_layout.specs.Faults.{IsWithin}
use Rattle.wy_layout.specs.Read.{scan, text_read, yes, bad, longest_at, limited, by_limit, word_at, name_word, name_len, first_len, digits_len, symbol_read}
use Rattle.wy_layout.specs.Printed.{Ends, Apart}
use Rattle.wy_layout.specs.declared.escape.State.TheVariants as state
use Rattle.wy_layout.specs.declared.refusal.Fault.TheVariants as fault
use Rattle.wy_layout.proofs.Scanning.{and_left, and_right, scan_closed}
use Rattle.wy_layout.proofs.NameRuns.{name_reach, starts_same, head_ascii}
use Rattle.wy_layout.proofs.LongestWord.{at_name, at_digit, at_symbol, no_quote_starts, no_digit_starts, digit_no_quote, digits_reach, symbols_like, other_is, among_holds, reserved_name}
use Rattle.wy_layout.proofs.WordRead.{WordIs, word_is}

front : (w r : List ℕ) → take (length w) (w ++ r) ≡ w
front [] r = refl
front (x ∷ w) r = ap (λ (z : List ℕ). x ∷ z) (front w r)

behind : (w r : List ℕ) → drop (length w) (w ++ r) ≡ r
behind [] r = refl
behind (x ∷ w) r = behind w r

cut : (mk : List ℕ → Word) (n : ℕ) (w r : List ℕ) → n ≡ length w → yes (mk (take n (w ++ r))) (drop n (w ++ r)) ≡ yes (mk w) r
cut mk n w r e = ap (λ (m : ℕ). yes (mk (take m (w ++ r))) (drop m (w ++ r))) e ∙ ap (λ (z : List ℕ). yes (mk z) (drop (length w) (w ++ r))) (front w r) ∙ ap (yes (mk w)) (behind w r)

name_apart : (w r : List ℕ) → is_name w ≡ true → name_len 0 r ≡ 0 → longest_at (w ++ r) ≡ yes (name_word w) r
name_apart [] r h n = absurd cc
name_apart (b ∷ w) r h n =
    let s = and_left (starts (b ∷ w)) (go_on (continuation_len b) w) h in
    let g = and_right (starts (b ∷ w)) (go_on (continuation_len b) w) h in
    let t : starts (b ∷ w ++ r) ≡ true = starts_same b w r g ∙ s in
    let l = name_reach (continuation_len b) w r g in
    at_name b (w ++ r) (no_quote_starts b (w ++ r) t) (no_digit_starts b (w ++ r) t) t ∙ cut name_word (first_len (b ∷ w ++ r)) (b ∷ w) r (omega arith)

number_apart : (w r : List ℕ) → is_number w ≡ true → digits_len r ≡ 0 → longest_at (w ++ r) ≡ yes (number (value_from 0 w)) r
number_apart [] r h n = absurd cc
number_apart (b ∷ w) r h n =
    let s = and_left (is_ascii_digit b) (all_digits w) h in
    let l = digits_reach (b ∷ w) r h in
    at_digit b (w ++ r) (digit_no_quote b s) s ∙ cut (λ v. number (value_from 0 v)) (digits_len (b ∷ w ++ r)) (b ∷ w) r (omega arith)

text_apart : (v w r : List ℕ) → IsText v w → longest_at (w ++ r) ≡ yes (text v) r
text_apart v w r h =
    ap (λ (z : List ℕ). longest_at (z ++ r)) h.quoted
    ∙ ap (text_read (34 ∷ ((spell h.pieces ++ 34 ∷ []) ++ r))) (ap (scan state.Plain) (append_assoc (spell h.pieces) (34 ∷ []) r) ∙ scan_closed h.pieces r h.are_good)
    ∙ ap (λ (z : List ℕ). yes (text z) r) (sym h.stands_for)

-- the second character of a symbol
abbrev second : List ℕ → Bool
second [] = true
second (a ∷ []) = true
second (a ∷ b ∷ u) = (b == 61) || ((b == 43) || ((b == 38) || (b == 124)))

symbol_apart : (w r : List ℕ) → among w symbols ≡ true → Ends r → longest_at (w ++ r) ≡ yes (fixed w) r
symbol_apart [] r h n = absurd (let t : false ≡ true = h in cc)
symbol_apart (a ∷ []) r h n = at_symbol a r (other_is a r (symbols_like (a ∷ []) h)) ∙ one r n
  where
    one : (r : List ℕ) → Ends r → symbol_read (a ∷ r) ≡ yes (fixed (a ∷ [])) r
    one [] n = rw h refl
    one (b ∷ r) n = two (among (a ∷ b ∷ []) symbols) refl
      where
        two : (t : Bool) → among (a ∷ b ∷ []) symbols ≡ t → cond t (yes (fixed (a ∷ b ∷ [])) r) (cond (among (a ∷ []) symbols) (yes (fixed (a ∷ [])) (b ∷ r)) (bad fault.BadCharacter (a ∷ b ∷ r))) ≡ yes (fixed (a ∷ [])) (b ∷ r)
        two true e = absurd (let k : second (a ∷ b ∷ []) ≡ true = among_holds second (a ∷ b ∷ []) symbols refl e in let t : false ≡ true = sym n ∙ k in cc)
        two false e = rw h refl
symbol_apart (a ∷ b ∷ []) r h n = at_symbol a (b ∷ r) (other_is a (b ∷ r) (symbols_like (a ∷ b ∷ []) h)) ∙ rw h refl
symbol_apart (a ∷ b ∷ c ∷ w) r h n = absurd (let k = symbols_like (a ∷ b ∷ c ∷ w) h in let t : false ≡ true = k in cc)

-- ---- as the definition says it

word_reads : (word : Word) (u r : List ℕ) → longest_at u ≡ yes word r → over word ≡ fits → word_at u ≡ yes word r
unfolding word_at
word_reads word u r e o = ap (limited u) e ∙ ap (λ (x : Within). by_limit x word u r) o

within_of : (word : Word) (u r : List ℕ) → longest_at u ≡ yes word r → over word ≡ fits → IsWithin word u r
within_of word u r e o = subst (WordIs u) (word_reads word u r e o) (word_is u)

-- each word that is printed
pub word_stands : (word : Word) (w r : List ℕ) → IsWord word w → over word ≡ fits → Apart word r → IsWithin word (w ++ r) r
word_stands (name v) w r (e, h, a) o n =
    within_of (name v) (w ++ r) r (name_apart w r h n ∙ ap (λ (b : Bool). yes (cond b (fixed w) (name w)) r) a ∙ ap (λ (z : List ℕ). yes (name z) r) (sym e)) o
word_stands (number k) w r (h, e) o n = within_of (number k) (w ++ r) r (number_apart w r h n ∙ ap (λ (m : ℕ). yes (number m) r) (sym e)) o
word_stands (text v) w r h o n = within_of (text v) (w ++ r) r (text_apart v w r h) o
word_stands (fixed v) w r (e, inl a) o n =
    within_of (fixed v) (w ++ r) r (name_apart w r (reserved_name w a) (n.0 (ap (λ (z : List ℕ). among z reserved) e ∙ a)) ∙ ap (λ (b : Bool). yes (cond b (fixed w) (name w)) r) a ∙ ap (λ (z : List ℕ). yes (fixed z) r) (sym e)) o
word_stands (fixed v) w r (e, inr a) o n =
    within_of (fixed v) (w ++ r) r (symbol_apart w r a (n.1 (ap (λ (z : List ℕ). among z symbols) e ∙ a)) ∙ ap (λ (z : List ℕ). yes (fixed z) r) (sym e)) o

-- no name goes on with what is no letter, digit or underscore of ASCII
pub no_name_goes : (c : ℕ) (r : List ℕ) → c < 128 → (is_ascii_alphanumeric c || (c == 95)) ≡ false → name_len 0 (c ∷ r) ≡ 0
no_name_goes c r h n = let e : is_xid_continue (head_char (c ∷ r)) ≡ false = ap is_xid_continue (head_ascii c r h) ∙ is_xid_continue-ascii c h ∙ n in rw e refl

-- ---- kinds by their spelling

abbrev is_spelled : List ℕ → Bool
is_spelled [] = false
is_spelled (b ∷ bs) = true

-- a reserved word or a symbol is the kind that is spelled so
pub spelled_kind : (k : TokenKind) → is_spelled (spelling_of k) ≡ true → kind_of (fixed (spelling_of k)) ≡ k
spelled_kind (kind.Name v) h = absurd (let t : false ≡ true = h in cc)
spelled_kind (kind.Number n) h = absurd (let t : false ≡ true = h in cc)
spelled_kind kind.Edge h = absurd (let t : false ≡ true = h in cc)
spelled_kind (kind.Text v) h = absurd (let t : false ≡ true = h in cc)
spelled_kind kind.Nl h = absurd (let t : false ≡ true = h in cc)
spelled_kind kind.In h = absurd (let t : false ≡ true = h in cc)
spelled_kind kind.Out h = absurd (let t : false ≡ true = h in cc)
spelled_kind kind.End h = absurd (let t : false ≡ true = h in cc)
spelled_kind other h = refl

pub kind_spelled : (k : TokenKind) → (spelling_of k ≡ [] → ⊥) → kind_of (fixed (spelling_of k)) ≡ k
kind_spelled k h = spelled_kind k (full (spelling_of k) h)
  where
    full : (w : List ℕ) → (w ≡ [] → ⊥) → is_spelled w ≡ true
    full [] h = absurd (h refl)
    full (b ∷ w) h = refl
