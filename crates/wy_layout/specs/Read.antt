-- Reading one word: a plain program.
use Rattle.std.specs.Prelude.{ℕ, zero, suc, ◌+◌, ◌*◌, ◌==◌, nat_lt, cond, List, [], ◌∷◌, take, drop}
use Rattle.std.specs.Char.{is_ascii_digit, is_ascii_hexdigit}
use Rattle.std.specs.Str.{continuation_len}
use Rattle.unicode_ident.specs.Ident.{is_xid_continue}
use Rattle.wy_layout.specs.Names.{head_char, starts}
use Rattle.wy_layout.specs.Texts.{is_control, is_short, short_value, hex_value}
use Rattle.wy_layout.specs.Words.{most_name_bytes, Within, fits, passes, over, Word, name, number, text, fixed, reserved, symbols, among, value_from, kind_of}
use Rattle.wy_layout.specs.Counts.{passed}
use Rattle.wy_layout.specs.declared.count.Count.{Count}
use Rattle.wy_layout.specs.declared.refusal.Fault.{Fault}
use Rattle.wy_layout.specs.declared.refusal.Fault.TheVariants as fault
use Rattle.wy_layout.specs.declared.escape.State.{State}
use Rattle.wy_layout.specs.declared.escape.State.TheVariants as state
use Rattle.wy_layout.specs.declared.escape.Move.{Move}
use Rattle.wy_layout.specs.declared.escape.Move.TheVariants as move

-- ---- inside a text

-- an escape that goes on with a wrong byte
abbrev pub wrong_escape : ℕ → Move
wrong_escape c = move.Stop (cond (is_control c) fault.BadCharacter fault.BadEscape)

-- what a byte does
abbrev pub step : State → ℕ → Move
step state.Plain c = cond (c == 34) move.Close (cond (c == 92) (move.Go state.Slash) (cond (is_control c) (move.Stop fault.BadCharacter) (move.Put c)))
step state.Slash c = cond (is_short c) (move.Put (short_value c)) (cond (c == 120) (move.Go state.Hex) (wrong_escape c))
step state.Hex c = cond (is_ascii_hexdigit c) (move.Go (state.Digit c)) (wrong_escape c)
step (state.Digit h) c = cond (is_ascii_hexdigit c) (move.Put (hex_value h * 16 + hex_value c)) (wrong_escape c)

-- the bytes of a text, and what is left behind it; or what is wrong, and what is left from there on
pub data Scan : Type 0 where
  closed : List ℕ → List ℕ → Scan
  stuck : Fault → List ℕ → Scan

-- with a byte before
abbrev pub put : ℕ → Scan → Scan
put v (closed vs r) = closed (v ∷ vs) r
put v (stuck f r) = stuck f r

-- where a byte leads
abbrev pub follow : Move → List ℕ → List ℕ → (State → Scan) → Scan
follow (move.Go s) here next k = k s
follow (move.Put v) here next k = put v (k state.Plain)
follow move.Close here next k = closed [] next
follow (move.Stop f) here next k = stuck f here

-- the inside of a text, from a state on
abbrev pub scan : State → List ℕ → Scan
scan s [] = stuck fault.OpenText []
scan s (c ∷ cs) = follow (step s c) (c ∷ cs) cs (λ t. scan t cs)

-- ---- a word

-- the word, and what is left behind it; or what is wrong, and what is left from there on
pub data Read : Type 0 where
  yes : Word → List ℕ → Read
  bad : Fault → List ℕ → Read

-- a text behind its quote
abbrev pub text_read : List ℕ → Scan → Read
text_read here (closed v r) = yes (text v) r
text_read here (stuck f r) = bad f r

-- how many digits stand at the front
abbrev pub digits_len : List ℕ → ℕ
digits_len [] = 0
digits_len (b ∷ bs) = cond (is_ascii_digit b) (suc (digits_len bs)) 0

-- the number at the front
abbrev pub number_read : List ℕ → Read
number_read u = let n = digits_len u in yes (number (value_from 0 (take n u))) (drop n u)

-- how many bytes go on with a name, where count bytes of a character are still to come
abbrev pub name_len : ℕ → List ℕ → ℕ
name_len count [] = 0
name_len zero (b ∷ bs) = cond (is_xid_continue (head_char (b ∷ bs))) (suc (name_len (continuation_len b) bs)) 0
name_len (suc count) (b ∷ bs) = suc (name_len count bs)

-- how many bytes the name at the front has
abbrev pub first_len : List ℕ → ℕ
first_len [] = 0
first_len (b ∷ bs) = suc (name_len (continuation_len b) bs)

-- a name, or a reserved word
abbrev pub name_word : List ℕ → Word
name_word w = cond (among w reserved) (fixed w) (name w)

-- the name at the front
abbrev pub name_read : List ℕ → Read
name_read u = let n = first_len u in yes (name_word (take n u)) (drop n u)

-- the symbol at the front: of two bytes, else of one
abbrev pub symbol_read : List ℕ → Read
symbol_read u =
    cond (among (take 2 u) symbols) (yes (fixed (take 2 u)) (drop 2 u))
    (cond (among (take 1 u) symbols) (yes (fixed (take 1 u)) (drop 1 u)) (bad fault.BadCharacter u))

-- the longest word, whatever its limits
abbrev pub longest_at : List ℕ → Read
longest_at [] = bad fault.BadCharacter []
longest_at (c ∷ cs) =
    cond (c == 34) (text_read (c ∷ cs) (scan state.Plain cs))
    (cond (is_ascii_digit c) (number_read (c ∷ cs))
    (cond (starts (c ∷ cs)) (name_read (c ∷ cs)) (symbol_read (c ∷ cs))))

-- the word, where it passes no limit
abbrev pub by_limit : Within → Word → List ℕ → List ℕ → Read
by_limit fits word u r = yes word r
by_limit (passes f) word u r = bad f u

-- with the word's own limits
abbrev pub limited : List ℕ → Read → Read
limited u (yes word r) = by_limit (over word) word u r
limited u (bad f r) = bad f r

-- the word at the front of a text
unfoldable pub word_at : List ℕ → Read
word_at u = limited u (longest_at u)

-- with the limits that are counted
abbrev pub by_count : Count → List ℕ → Read → Read
by_count c u (yes word r) = by_limit (passed c (kind_of word)) word u r
by_count c u (bad f r) = bad f r

-- the same with the limits that are counted
unfoldable pub next_at : Count → List ℕ → Read
next_at c u = by_count c u (word_at u)

-- a name, where its length is within the limit
abbrev pub limited_name : List ℕ → Read
limited_name u = let n = first_len u in cond (nat_lt most_name_bytes n) (bad fault.NameBytes u) (yes (name_word (take n u)) (drop n u))
