-- The numbers of kinds, and what a function of the parser gives.
use Rattle.std.specs.Prelude.{◌≡◌, ℕ, List, Result, Ok, Err, map}
use Rattle.std.specs.Borrow.{Bor}
use Rattle.wy_text.specs.declared.token.Token.{Token}
use Rattle.wy_syntax.specs.Tokens.{Tok, toks}
use Rattle.wy_parser.specs.declared.sort.Sort.{Sort}
use Rattle.wy_parser.specs.declared.sort.Sort.TheVariants as sorts
use Rattle.wy_parser.specs.declared.stop.Stop.{Stop}
use Rattle.wy_parser.specs.declared.stop.Stop.TheVariants as stops
use Rattle.wy_parser.specs.Kinds as kinds
use Rattle.wy_parser.specs.Reading.{Out, Yes, No, Deep}

abbrev pub number_of : Sort → ℕ
number_of sorts.Nothing = kinds.Nothing
number_of sorts.Name = kinds.Name
number_of sorts.Number = kinds.Number
number_of sorts.Edge = kinds.Edge
number_of sorts.Text = kinds.Text
number_of sorts.KwType = kinds.KwType
number_of sorts.KwEffect = kinds.KwEffect
number_of sorts.KwDef = kinds.KwDef
number_of sorts.KwModule = kinds.KwModule
number_of sorts.KwResource = kinds.KwResource
number_of sorts.KwPlain = kinds.KwPlain
number_of sorts.KwProgram = kinds.KwProgram
number_of sorts.KwGrant = kinds.KwGrant
number_of sorts.KwUse = kinds.KwUse
number_of sorts.KwInstance = kinds.KwInstance
number_of sorts.KwImport = kinds.KwImport
number_of sorts.KwAt = kinds.KwAt
number_of sorts.KwInit = kinds.KwInit
number_of sorts.KwVal = kinds.KwVal
number_of sorts.KwVar = kinds.KwVar
number_of sorts.KwRun = kinds.KwRun
number_of sorts.KwNew = kinds.KwNew
number_of sorts.KwIf = kinds.KwIf
number_of sorts.KwThen = kinds.KwThen
number_of sorts.KwElse = kinds.KwElse
number_of sorts.KwThis = kinds.KwThis
number_of sorts.KwTrue = kinds.KwTrue
number_of sorts.KwFalse = kinds.KwFalse
number_of sorts.KwMain = kinds.KwMain
number_of sorts.KwInt = kinds.KwInt
number_of sorts.KwBool = kinds.KwBool
number_of sorts.KwString = kinds.KwString
number_of sorts.KwUnit = kinds.KwUnit
number_of sorts.KwTextSize = kinds.KwTextSize
number_of sorts.KwTextPart = kinds.KwTextPart
number_of sorts.KwTextCode = kinds.KwTextCode
number_of sorts.KwTextByte = kinds.KwTextByte
number_of sorts.KwTextShow = kinds.KwTextShow
number_of sorts.SymOpenParen = kinds.SymOpenParen
number_of sorts.SymCloseParen = kinds.SymCloseParen
number_of sorts.SymOpenBracket = kinds.SymOpenBracket
number_of sorts.SymCloseBracket = kinds.SymCloseBracket
number_of sorts.SymOpenBrace = kinds.SymOpenBrace
number_of sorts.SymCloseBrace = kinds.SymCloseBrace
number_of sorts.SymComma = kinds.SymComma
number_of sorts.SymColon = kinds.SymColon
number_of sorts.SymDot = kinds.SymDot
number_of sorts.SymEqual = kinds.SymEqual
number_of sorts.SymEqualEqual = kinds.SymEqualEqual
number_of sorts.SymNotEqual = kinds.SymNotEqual
number_of sorts.SymLess = kinds.SymLess
number_of sorts.SymLessEqual = kinds.SymLessEqual
number_of sorts.SymGreater = kinds.SymGreater
number_of sorts.SymGreaterEqual = kinds.SymGreaterEqual
number_of sorts.SymPlus = kinds.SymPlus
number_of sorts.SymMinus = kinds.SymMinus
number_of sorts.SymStar = kinds.SymStar
number_of sorts.SymSlash = kinds.SymSlash
number_of sorts.SymPercent = kinds.SymPercent
number_of sorts.SymPlusPlus = kinds.SymPlusPlus
number_of sorts.SymAndAnd = kinds.SymAndAnd
number_of sorts.SymOrOr = kinds.SymOrOr
number_of sorts.SymNot = kinds.SymNot
number_of sorts.Nl = kinds.Nl
number_of sorts.In = kinds.In
number_of sorts.Out = kinds.Out
number_of sorts.End = kinds.End

abbrev pub numbers : List Sort → List ℕ
numbers set = map number_of set

-- what a function gives up with is where reading stops, unless memory ran out
abbrev pub Halts : {A : Type 0} → Stop → Out Tok A → Type 0
Halts (stops.At rest) out = out ≡ No (toks rest.now)
Halts stops.Deep out = out ≡ Deep
Halts stops.Memory out = Unit {0}

-- what a function returned is what reading gives, unless memory ran out
abbrev pub Gives : {X A : Type 0} → (X → A) → Result (X × Bor (List Token)) Stop → Out Tok A → Type 0
Gives view (Ok x) out = out ≡ Yes (view x.0) (toks x.1.now)
Gives view (Err e) out = Halts e out
