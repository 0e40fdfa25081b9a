-- The numbers of the kinds of tokens, by the kinds' names.
use Rattle.std.specs.Prelude.{ℕ}

-- what fits nowhere: a Number below 0, which no file has
abbrev pub Nothing : ℕ
Nothing = 0

abbrev pub Name : ℕ
Name = 1

abbrev pub Number : ℕ
Number = 2

abbrev pub Edge : ℕ
Edge = 3

abbrev pub Text : ℕ
Text = 4

abbrev pub KwType : ℕ
KwType = 5

abbrev pub KwEffect : ℕ
KwEffect = 6

abbrev pub KwDef : ℕ
KwDef = 7

abbrev pub KwModule : ℕ
KwModule = 8

abbrev pub KwResource : ℕ
KwResource = 9

abbrev pub KwPlain : ℕ
KwPlain = 10

abbrev pub KwProgram : ℕ
KwProgram = 11

abbrev pub KwGrant : ℕ
KwGrant = 12

abbrev pub KwUse : ℕ
KwUse = 13

abbrev pub KwInstance : ℕ
KwInstance = 14

abbrev pub KwImport : ℕ
KwImport = 15

abbrev pub KwAt : ℕ
KwAt = 16

abbrev pub KwInit : ℕ
KwInit = 17

abbrev pub KwVal : ℕ
KwVal = 18

abbrev pub KwVar : ℕ
KwVar = 19

abbrev pub KwRun : ℕ
KwRun = 20

abbrev pub KwNew : ℕ
KwNew = 21

abbrev pub KwIf : ℕ
KwIf = 22

abbrev pub KwThen : ℕ
KwThen = 23

abbrev pub KwElse : ℕ
KwElse = 24

abbrev pub KwThis : ℕ
KwThis = 25

abbrev pub KwTrue : ℕ
KwTrue = 26

abbrev pub KwFalse : ℕ
KwFalse = 27

abbrev pub KwMain : ℕ
KwMain = 28

abbrev pub KwInt : ℕ
KwInt = 29

abbrev pub KwBool : ℕ
KwBool = 30

abbrev pub KwString : ℕ
KwString = 31

abbrev pub KwUnit : ℕ
KwUnit = 32

abbrev pub KwTextSize : ℕ
KwTextSize = 33

abbrev pub KwTextPart : ℕ
KwTextPart = 34

abbrev pub KwTextCode : ℕ
KwTextCode = 35

abbrev pub KwTextByte : ℕ
KwTextByte = 36

abbrev pub KwTextShow : ℕ
KwTextShow = 37

abbrev pub SymOpenParen : ℕ
SymOpenParen = 38

abbrev pub SymCloseParen : ℕ
SymCloseParen = 39

abbrev pub SymOpenBracket : ℕ
SymOpenBracket = 40

abbrev pub SymCloseBracket : ℕ
SymCloseBracket = 41

abbrev pub SymOpenBrace : ℕ
SymOpenBrace = 42

abbrev pub SymCloseBrace : ℕ
SymCloseBrace = 43

abbrev pub SymComma : ℕ
SymComma = 44

abbrev pub SymColon : ℕ
SymColon = 45

abbrev pub SymDot : ℕ
SymDot = 46

abbrev pub SymEqual : ℕ
SymEqual = 47

abbrev pub SymEqualEqual : ℕ
SymEqualEqual = 48

abbrev pub SymNotEqual : ℕ
SymNotEqual = 49

abbrev pub SymLess : ℕ
SymLess = 50

abbrev pub SymLessEqual : ℕ
SymLessEqual = 51

abbrev pub SymGreater : ℕ
SymGreater = 52

abbrev pub SymGreaterEqual : ℕ
SymGreaterEqual = 53

abbrev pub SymPlus : ℕ
SymPlus = 54

abbrev pub SymMinus : ℕ
SymMinus = 55

abbrev pub SymStar : ℕ
SymStar = 56

abbrev pub SymSlash : ℕ
SymSlash = 57

abbrev pub SymPercent : ℕ
SymPercent = 58

abbrev pub SymPlusPlus : ℕ
SymPlusPlus = 59

abbrev pub SymAndAnd : ℕ
SymAndAnd = 60

abbrev pub SymOrOr : ℕ
SymOrOr = 61

abbrev pub SymNot : ℕ
SymNot = 62

abbrev pub Nl : ℕ
Nl = 63

abbrev pub In : ℕ
In = 64

abbrev pub Out : ℕ
Out = 65

abbrev pub End : ℕ
End = 66
