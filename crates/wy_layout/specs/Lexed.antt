-- Reading lines: a plain program.
use Rattle.std.specs.Prelude.{ℕ, zero, suc, ◌+◌, ◌==◌, nat_lt, Bool, ◌&&◌, ◌||◌, cond, List, [], ◌∷◌, ◌++◌, length}
use Rattle.std.specs.Str.Lossy.{utf8_valid_len}
use Rattle.wy_text.specs.declared.token.Token.{Token}
use Rattle.wy_text.specs.declared.token.TokenKind.TheVariants as kind
use Rattle.wy_layout.specs.Words.{kind_of, Within, fits, passes}
use Rattle.wy_layout.specs.Counts.{counted, counted_from, most_tokens}
use Rattle.wy_layout.specs.declared.count.Count.{Count}
use Rattle.wy_layout.specs.Read.{Read, yes, bad, next_at}
use Rattle.wy_layout.specs.Widths.{Step, step_of, is_top, rest, above}
use Rattle.wy_layout.specs.Lines.{Line, width, after_spaces, after_blanks, is_done, has_tab, lines, first_row}
use Rattle.wy_layout.specs.Layout.{token, mark, marks, mark_count, off, begin, finish, opening, closing, rank, judged_text}
use Rattle.wy_layout.specs.declared.refusal.Fault.{Fault}
use Rattle.wy_layout.specs.declared.refusal.Fault.TheVariants as fault
use Rattle.wy_layout.specs.declared.row.Row.{Row}

-- ---- the words of a line

-- the tokens of a text, or what is wrong, and where
pub data Found : Type 0 where
  good : List Token → Found
  bad_at : Fault → ℕ → Found

-- with a token before
abbrev pub onto : Token → Found → Found
onto t (good ts) = good (t ∷ ts)
onto t (bad_at f o) = bad_at f o

-- a word's token, and what the text behind it gives
abbrev pub next : Row → Count → ℕ → List ℕ → Read → (Count → ℕ → List ℕ → Found) → Found
next row c at u (yes word r) more = onto (token row (kind_of word) (off at u (after_blanks u)) (off at u r)) (more (counted c (kind_of word)) (off at u r) r)
next row c at u (bad f r) more = bad_at f (off at u r)

-- the words of a text, at most so many
abbrev pub read_words : ℕ → Row → Count → ℕ → List ℕ → Found
read_words zero row c at u = good []
read_words (suc n) row c at u = cond (is_done (after_blanks u)) (good []) (next row c at u (next_at c (after_blanks u)) (λ c' at' r. read_words n row c' at' r))

-- the words of a text, all of them
unfoldable pub words_of : Row → Count → ℕ → List ℕ → Found
words_of row c at u = read_words (suc (length u)) row c at u

-- ---- a line, with the stack of open widths (the greatest first)

-- a width on top, where nothing was taken off
abbrev pub pushed : ℕ → ℕ → List ℕ → List ℕ
pushed zero w st = w ∷ st
pushed (suc n) w st = st

-- the stack behind a line of a width
abbrev pub stack_after : ℕ → List ℕ → List ℕ
stack_after w st = cond (is_top w (rest w st)) (rest w st) (pushed (above w st) w (rest w st))

-- its tokens, and the stack behind it; or what is wrong
pub data LineOut : Type 0 where
  laid : List Token → List ℕ → LineOut
  broken : Fault → ℕ → LineOut

-- tokens before, and the end of the line behind, where there is room for it
abbrev pub with_end : Row → List Token → ℕ → ℕ → List ℕ → Found → LineOut
with_end row ms n end st (good us) = cond (nat_lt (n + length us) most_tokens) (laid (ms ++ (us ++ mark row kind.Nl end ∷ [])) st) (broken fault.Tokens end)
with_end row ms n end st (bad_at f o) = broken f o

-- what stands before the words is wrong, but for what comes first in them at the same place
abbrev pub sooner : Fault → ℕ → Found → LineOut
sooner f at (good us) = broken f at
sooner f at (bad_at g o) = cond ((o == at) && nat_lt (rank g) (rank f)) (broken g o) (broken f at)

-- the words of a line, behind so many tokens
abbrev pub line_words : Line → ℕ → Found
line_words l n = words_of l.row (counted_from n) (begin l) (after_spaces l.content)

-- a line by what is wrong before its words
abbrev pub by_opening : Within → Step → ℕ → List ℕ → Line → LineOut
by_opening fits s n st l = with_end l.row (marks l.row s (begin l)) (n + mark_count s) (finish l) (stack_after (width l.content) st) (line_words l (n + mark_count s))
by_opening (passes f) s n st l = sooner f (begin l) (line_words l (n + mark_count s))

-- a line by what stands before it
abbrev pub by_step : Step → ℕ → List ℕ → Line → LineOut
by_step s n st l = by_opening (opening s n (length st)) s n st l

-- what a line gives, behind so many tokens
unfoldable pub line_out : ℕ → List ℕ → Line → LineOut
line_out n st l =
    cond (has_tab (after_spaces l.content)) (broken fault.TabIndent (begin l))
    (cond (is_done (after_spaces l.content)) (laid [] st) (by_step (step_of (width l.content) st) n st l))

-- ---- a file

-- the tokens of a file, or what comes first that is wrong, and where
pub data Lexed : Type 0 where
  tokens : List Token → Lexed
  refused : Fault → ℕ → Lexed

-- with tokens before
abbrev pub join : List Token → Lexed → Lexed
join us (tokens vs) = tokens (us ++ vs)
join us (refused f o) = refused f o

-- what the lines behind give, where the line has tokens
abbrev pub by_out : LineOut → (List Token → List ℕ → Lexed) → Lexed
by_out (laid us s) k = join us (k us s)
by_out (broken f o) k = refused f o

-- the end of a file
abbrev pub end_of : Row → ℕ → ℕ → List ℕ → Lexed
end_of row e n st = cond (nat_lt most_tokens (n + length st)) (refused fault.Tokens e) (tokens (closing row e st))

-- what lines give
abbrev pub lex_lines : Row → ℕ → ℕ → List ℕ → List Line → Lexed
lex_lines row e n st [] = end_of row e n st
lex_lines row e n st (l ∷ ls) = by_out (line_out n st l) (λ us s. lex_lines l.row e (n + length us) s ls)

-- the lines of a text
abbrev pub lex_text : ℕ → List ℕ → Lexed
lex_text file z = lex_lines (first_row file) (length z) 0 (0 ∷ []) (lines (first_row file) z)

-- a fault comes before the byte at an offset that begins no character
abbrev pub before_utf8 : Fault → ℕ → ℕ → Bool
before_utf8 f o v = nat_lt o v || ((o == v) && nat_lt (rank f) (rank fault.NotUtf8))

-- what comes first: what is wrong, or the first byte that begins no character
abbrev pub or_utf8 : ℕ → Lexed → Lexed
or_utf8 v (tokens ts) = refused fault.NotUtf8 v
or_utf8 v (refused f o) = cond (before_utf8 f o v) (refused f o) (refused fault.NotUtf8 v)

-- what a file gives
abbrev pub lex_bytes : ℕ → List ℕ → Lexed
lex_bytes file bs = cond (nat_lt (utf8_valid_len bs) (length bs)) (or_utf8 (utf8_valid_len bs) (lex_text file (judged_text bs))) (lex_text file bs)
