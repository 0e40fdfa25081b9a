-- Tokens as the grammar sees them, and a number for each kind of token.
use Rattle.std.specs.Prelude.{ℕ, pos, negsuc, Bool, false, ◌||◌, ◌==◌, List, [], ◌∷◌, map}
use Rattle.wy_text.specs.declared.fault.Place.{Place}
use Rattle.wy_text.specs.declared.token.Token.{Token}
use Rattle.wy_text.specs.declared.token.TokenKind.{TokenKind}
use Rattle.wy_text.specs.declared.token.TokenKind.TheVariants as kind

-- a token without where its bytes lie
pub record Tok : Type 0 where
  pub kind : TokenKind
  pub place : Place

abbrev pub tok_of : Token → Tok
tok_of t = record { kind = t.kind; place = t.place }

abbrev pub toks : List Token → List Tok
toks ts = map tok_of ts

-- the kinds' numbers; a Number that is below 0, which no file has, is of no kind that fits anywhere
abbrev pub code_of : TokenKind → ℕ
code_of (kind.Name name) = 1
code_of (kind.Number (pos n)) = 2
code_of (kind.Number (negsuc n)) = 0
code_of kind.Edge = 3
code_of (kind.Text bytes) = 4
code_of kind.KwType = 5
code_of kind.KwEffect = 6
code_of kind.KwDef = 7
code_of kind.KwModule = 8
code_of kind.KwResource = 9
code_of kind.KwPlain = 10
code_of kind.KwProgram = 11
code_of kind.KwGrant = 12
code_of kind.KwUse = 13
code_of kind.KwInstance = 14
code_of kind.KwImport = 15
code_of kind.KwAt = 16
code_of kind.KwInit = 17
code_of kind.KwVal = 18
code_of kind.KwVar = 19
code_of kind.KwRun = 20
code_of kind.KwNew = 21
code_of kind.KwIf = 22
code_of kind.KwThen = 23
code_of kind.KwElse = 24
code_of kind.KwThis = 25
code_of kind.KwTrue = 26
code_of kind.KwFalse = 27
code_of kind.KwMain = 28
code_of kind.KwInt = 29
code_of kind.KwBool = 30
code_of kind.KwString = 31
code_of kind.KwUnit = 32
code_of kind.KwTextSize = 33
code_of kind.KwTextPart = 34
code_of kind.KwTextCode = 35
code_of kind.KwTextByte = 36
code_of kind.KwTextShow = 37
code_of kind.SymOpenParen = 38
code_of kind.SymCloseParen = 39
code_of kind.SymOpenBracket = 40
code_of kind.SymCloseBracket = 41
code_of kind.SymOpenBrace = 42
code_of kind.SymCloseBrace = 43
code_of kind.SymComma = 44
code_of kind.SymColon = 45
code_of kind.SymDot = 46
code_of kind.SymEqual = 47
code_of kind.SymEqualEqual = 48
code_of kind.SymNotEqual = 49
code_of kind.SymLess = 50
code_of kind.SymLessEqual = 51
code_of kind.SymGreater = 52
code_of kind.SymGreaterEqual = 53
code_of kind.SymPlus = 54
code_of kind.SymMinus = 55
code_of kind.SymStar = 56
code_of kind.SymSlash = 57
code_of kind.SymPercent = 58
code_of kind.SymPlusPlus = 59
code_of kind.SymAndAnd = 60
code_of kind.SymOrOr = 61
code_of kind.SymNot = 62
code_of kind.Nl = 63
code_of kind.In = 64
code_of kind.Out = 65
code_of kind.End = 66

abbrev pub code : Tok → ℕ
code t = code_of t.kind

abbrev pub member : ℕ → List ℕ → Bool
member n [] = false
member n (k ∷ ks) = (n == k) || member n ks

-- the first token's number is in the set
abbrev pub starts : List ℕ → List Tok → Bool
starts set [] = false
starts set (t ∷ ts) = member (code t) set
