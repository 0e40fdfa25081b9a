-- The words of the language, and the kinds of token that they are.
use Rattle.std.specs.Prelude.{◌≡◌, ℕ, pos, ◌+◌, ◌*◌, ◌-◌, ◌≤◌, ◌==◌, nat_lt, Bool, true, false, ◌&&◌, cond, List, [], ◌∷◌, ◌++◌, length, ◌⊎◌, Option, Some, None}
use Rattle.std.specs.Char.{is_ascii_digit}
use Rattle.wy_text.specs.declared.token.TokenKind.{TokenKind}
use Rattle.wy_text.specs.declared.token.TokenKind.TheVariants as kind
use Rattle.wy_text.specs.declared.limit.LimitName.TheVariants as limit
use Rattle.wy_text.specs.LimitName.{limit_number}
use Rattle.wy_text.specs.Spelling.{spelling_of}
use Rattle.wy_layout.specs.Names.{is_name}
use Rattle.wy_layout.specs.Texts.{IsText}
use Rattle.wy_layout.specs.declared.refusal.Fault.{Fault}
use Rattle.wy_layout.specs.declared.refusal.Fault.TheVariants as fault

-- a name; a number with its value, however great; a text with the bytes that it stands for; a
-- reserved word or a symbol by its spelling
pub data Word : Type 0 where
  name : List ℕ → Word
  number : ℕ → Word
  text : List ℕ → Word
  fixed : List ℕ → Word

-- ---- the two tables

-- the reserved words
abbrev pub reserved : List TokenKind
reserved = kind.KwType ∷ kind.KwEffect ∷ kind.KwDef ∷ kind.KwModule ∷ kind.KwResource ∷ kind.KwPlain ∷ kind.KwProgram ∷ kind.KwGrant ∷ kind.KwUse ∷ kind.KwInstance ∷ kind.KwImport ∷ kind.KwAt ∷ kind.KwInit ∷ kind.KwVal ∷ kind.KwVar ∷ kind.KwRun ∷ kind.KwNew ∷ kind.KwIf ∷ kind.KwThen ∷ kind.KwElse ∷ kind.KwThis ∷ kind.KwTrue ∷ kind.KwFalse ∷ kind.KwMain ∷ kind.KwInt ∷ kind.KwBool ∷ kind.KwString ∷ kind.KwUnit ∷ kind.KwTextSize ∷ kind.KwTextPart ∷ kind.KwTextCode ∷ kind.KwTextByte ∷ kind.KwTextShow ∷ []

-- the symbols
abbrev pub symbols : List TokenKind
symbols = kind.SymOpenParen ∷ kind.SymCloseParen ∷ kind.SymOpenBracket ∷ kind.SymCloseBracket ∷ kind.SymOpenBrace ∷ kind.SymCloseBrace ∷ kind.SymComma ∷ kind.SymColon ∷ kind.SymDot ∷ kind.SymEqual ∷ kind.SymEqualEqual ∷ kind.SymNotEqual ∷ kind.SymLess ∷ kind.SymLessEqual ∷ kind.SymGreater ∷ kind.SymGreaterEqual ∷ kind.SymPlus ∷ kind.SymMinus ∷ kind.SymStar ∷ kind.SymSlash ∷ kind.SymPercent ∷ kind.SymPlusPlus ∷ kind.SymAndAnd ∷ kind.SymOrOr ∷ kind.SymNot ∷ []

-- two spellings are one
abbrev pub same : List ℕ → List ℕ → Bool
same [] [] = true
same [] (b ∷ v) = false
same (a ∷ u) [] = false
same (a ∷ u) (b ∷ v) = same u v && (a == b)

-- the kind of the table that is spelled so
abbrev pub lookup : List ℕ → List TokenKind → Option TokenKind
lookup w [] = None
lookup w (k ∷ ks) = cond (same w (spelling_of k)) (Some k) (lookup w ks)

-- there is a kind
abbrev pub is_some : Option TokenKind → Bool
is_some None = false
is_some (Some k) = true

-- the table has a kind that is spelled so
abbrev pub among : List ℕ → List TokenKind → Bool
among w ks = is_some (lookup w ks)

-- ---- numbers

-- each byte is a digit
abbrev pub all_digits : List ℕ → Bool
all_digits [] = true
all_digits (b ∷ bs) = is_ascii_digit b && all_digits bs

-- one or more digits
abbrev pub is_number : List ℕ → Bool
is_number [] = false
is_number (b ∷ bs) = is_ascii_digit b && all_digits bs

-- the value of digits behind a value
abbrev pub value_from : ℕ → List ℕ → ℕ
value_from n [] = n
value_from n (b ∷ bs) = value_from (n * 10 + (b - 48)) bs

-- the greatest number that may be written
abbrev pub edge : ℕ
edge = 9223372036854775808

-- ---- words

-- w is written so; a number is a run of digits of any length
abbrev pub IsWord : Word → List ℕ → Type 0
IsWord (name v) w = (v ≡ w) × (is_name w ≡ true) × (among w reserved ≡ false)
IsWord (number n) w = (is_number w ≡ true) × (n ≡ value_from 0 w)
IsWord (text v) w = IsText v w
IsWord (fixed v) w = (v ≡ w) × ((among w reserved ≡ true) ⊎ (among w symbols ≡ true))

-- the word stands before the rest as w, and no longer word stands there
pub record IsLongest (word : Word) (w rest : List ℕ) : Type 0 where
  pub is_word : IsWord word w
  pub longest : (word' : Word) (w' rest' : List ℕ) → w' ++ rest' ≡ w ++ rest → IsWord word' w' → length w' ≤ length w

-- ---- the kind of a word's token

-- the kind of a number
abbrev pub number_kind : ℕ → TokenKind
number_kind n = cond (n == edge) kind.Edge (kind.Number (pos n))

-- the one of two tables that has it
abbrev pub or_else : Option TokenKind → Option TokenKind → TokenKind
or_else (Some k) other = k
or_else None (Some k) = k
or_else None None = kind.End

-- the kind of a word's token
abbrev pub kind_of : Word → TokenKind
kind_of (name v) = kind.Name v
kind_of (number n) = number_kind n
kind_of (text v) = kind.Text v
kind_of (fixed v) = or_else (lookup v reserved) (lookup v symbols)

-- ---- limits of a word

-- a limit is kept, or it is passed
pub data Within : Type 0 where
  fits : Within
  passes : Fault → Within

-- the most bytes of a name
abbrev pub most_name_bytes : ℕ
most_name_bytes = limit_number limit.NameBytes

-- a name has at most 64 bytes, and a number is not above the greatest one
abbrev pub over : Word → Within
over (name v) = cond (nat_lt most_name_bytes (length v)) (passes fault.NameBytes) fits
over (number n) = cond (nat_lt edge n) (passes fault.NumberTooLarge) fits
over (text v) = fits
over (fixed v) = fits
