-- How reserved words and symbols are written.
use Rattle.std.specs.Prelude.{codes, ℕ, List, []}
use Rattle.wy_text.specs.declared.token.TokenKind.{TokenKind}
use Rattle.wy_text.specs.declared.token.TokenKind.TheVariants as kind

-- the bytes of a reserved word or a symbol; none for the tokens that are written in many ways or in none
abbrev pub spelling_of : TokenKind → List ℕ
spelling_of (kind.Name name) = []
spelling_of (kind.Number value) = []
spelling_of kind.Edge = []
spelling_of (kind.Text bytes) = []
spelling_of kind.KwType = codes "type"
spelling_of kind.KwEffect = codes "effect"
spelling_of kind.KwDef = codes "def"
spelling_of kind.KwModule = codes "module"
spelling_of kind.KwResource = codes "resource"
spelling_of kind.KwPlain = codes "plain"
spelling_of kind.KwProgram = codes "program"
spelling_of kind.KwGrant = codes "grant"
spelling_of kind.KwUse = codes "use"
spelling_of kind.KwInstance = codes "instance"
spelling_of kind.KwImport = codes "import"
spelling_of kind.KwAt = codes "at"
spelling_of kind.KwInit = codes "init"
spelling_of kind.KwVal = codes "val"
spelling_of kind.KwVar = codes "var"
spelling_of kind.KwRun = codes "run"
spelling_of kind.KwNew = codes "new"
spelling_of kind.KwIf = codes "if"
spelling_of kind.KwThen = codes "then"
spelling_of kind.KwElse = codes "else"
spelling_of kind.KwThis = codes "this"
spelling_of kind.KwTrue = codes "true"
spelling_of kind.KwFalse = codes "false"
spelling_of kind.KwMain = codes "main"
spelling_of kind.KwInt = codes "Int"
spelling_of kind.KwBool = codes "Bool"
spelling_of kind.KwString = codes "String"
spelling_of kind.KwUnit = codes "Unit"
spelling_of kind.KwTextSize = codes "text_size"
spelling_of kind.KwTextPart = codes "text_part"
spelling_of kind.KwTextCode = codes "text_code"
spelling_of kind.KwTextByte = codes "text_byte"
spelling_of kind.KwTextShow = codes "text_show"
spelling_of kind.SymOpenParen = codes "("
spelling_of kind.SymCloseParen = codes ")"
spelling_of kind.SymOpenBracket = codes "["
spelling_of kind.SymCloseBracket = codes "]"
spelling_of kind.SymOpenBrace = codes "{"
spelling_of kind.SymCloseBrace = codes "}"
spelling_of kind.SymComma = codes ","
spelling_of kind.SymColon = codes ":"
spelling_of kind.SymDot = codes "."
spelling_of kind.SymEqual = codes "="
spelling_of kind.SymEqualEqual = codes "=="
spelling_of kind.SymNotEqual = codes "!="
spelling_of kind.SymLess = codes "<"
spelling_of kind.SymLessEqual = codes "<="
spelling_of kind.SymGreater = codes ">"
spelling_of kind.SymGreaterEqual = codes ">="
spelling_of kind.SymPlus = codes "+"
spelling_of kind.SymMinus = codes "-"
spelling_of kind.SymStar = codes "*"
spelling_of kind.SymSlash = codes "/"
spelling_of kind.SymPercent = codes "%"
spelling_of kind.SymPlusPlus = codes "++"
spelling_of kind.SymAndAnd = codes "&&"
spelling_of kind.SymOrOr = codes "||"
spelling_of kind.SymNot = codes "!"
spelling_of kind.Nl = []
spelling_of kind.In = []
spelling_of kind.Out = []
spelling_of kind.End = []
