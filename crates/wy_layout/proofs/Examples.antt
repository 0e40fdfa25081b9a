-- The definition's plain program, computed on small files.
use Rattle.std.proofs.Common.{◌≡◌, ℕ, pos, [], ◌∷◌, refl, codes}
use Rattle.wy_text.specs.declared.token.Token.{Token}
use Rattle.wy_text.specs.declared.token.TokenKind.{TokenKind}
use Rattle.wy_text.specs.declared.token.TokenKind.TheVariants as kind
use Rattle.wy_layout.specs.Lines.{place_at}
use Rattle.wy_layout.specs.Read.{word_at, next_at}
use Rattle.wy_layout.specs.Lexed.{tokens, refused, words_of, line_out, lex_text, or_utf8}
use Rattle.wy_layout.specs.declared.refusal.Fault.TheVariants as fault

at : TokenKind → ℕ → ℕ → ℕ → ℕ → Token
at k line column start end = record { kind = k; place = record { file = 7; line = line; column = column }; start = start; end = end }

-- a text, a number and the tokens of the layout
indented : lex_text 7 (codes "1\n  \"x\" 27") ≡ tokens (
    at (kind.Number (pos 1)) 1 1 0 1 ∷ at kind.Nl 1 2 1 1 ∷ at kind.In 2 3 4 4 ∷ at (kind.Text (120 ∷ [])) 2 3 4 7 ∷ at (kind.Number (pos 27)) 2 7 8 10 ∷
    at kind.Nl 2 9 10 10 ∷ at kind.Out 2 9 10 10 ∷ at kind.End 2 9 10 10 ∷ [])
unfolding word_at next_at words_of line_out at
indented = refl

-- a comment, a carriage return, a blank line, and the end behind a newline
with_comment : lex_text 7 (codes "20// \"\r\n  \n3\n") ≡ tokens (
    at (kind.Number (pos 20)) 1 1 0 2 ∷ at kind.Nl 1 7 6 6 ∷ at (kind.Number (pos 3)) 3 1 11 12 ∷ at kind.Nl 3 2 12 12 ∷ at kind.End 4 1 13 13 ∷ [])
unfolding word_at next_at words_of line_out at
with_comment = refl

-- a width that isn't open comes before what is wrong in its line
not_open : lex_text 7 (codes "1\n  2\n 3 \"\\q\n") ≡ refused fault.BadDedent 7
unfolding word_at next_at words_of line_out
not_open = refl

not_open_place : place_at 7 (codes "1\n  2\n 3 \"\\q\n") 7 ≡ record { file = 7; line = 3; column = 2 }
not_open_place = refl

-- a text is open at the line's end, before its carriage return
open_text : lex_text 7 (codes "1 // \"\r\n\"\\x4\r\n") ≡ refused fault.OpenText 12
unfolding word_at next_at words_of line_out
open_text = refl

-- the greatest number, and one more
edges : lex_text 7 (codes "9223372036854775808 9223372036854775809") ≡ refused fault.NumberTooLarge 20
unfolding word_at next_at words_of line_out
edges = refl

-- at the place of a byte that begins no character a limit comes before it, and a width that isn't open behind it; what stands behind that byte does not count
limit_first : or_utf8 7 (refused fault.Indents 7) ≡ refused fault.Indents 7
limit_first = refl

byte_first : or_utf8 7 (refused fault.BadDedent 7) ≡ refused fault.NotUtf8 7
byte_first = refl

nothing_behind : or_utf8 7 (refused fault.Tokens 8) ≡ refused fault.NotUtf8 7
nothing_behind = refl
