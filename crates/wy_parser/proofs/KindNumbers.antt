-- Kinds of tokens by their numbers.
use Rattle.std.proofs.Common.{◌≡◌, ℕ, Bool, true, cond, ◌||◌, ◌==◌, [], refl, arith}
use Rattle.std.specs.Prelude.{pos, negsuc, nat_lt}
use Rattle.wy_text.specs.declared.token.TokenKind.{TokenKind}
use Rattle.wy_text.specs.declared.token.TokenKind.TheVariants as kind
use Rattle.wy_syntax.specs.Tokens.{code_of}
use Rattle.wy_parser.specs.Parsing.{text_of_kind, value_of_kind}

-- some kind of each number
abbrev pub kind_at : ℕ → TokenKind
kind_at k =
    cond (k == 1) (kind.Name []) (
    cond (k == 2) (kind.Number (pos 0)) (
    cond (k == 3) kind.Edge (
    cond (k == 4) (kind.Text []) (
    cond (k == 5) kind.KwType (
    cond (k == 6) kind.KwEffect (
    cond (k == 7) kind.KwDef (
    cond (k == 8) kind.KwModule (
    cond (k == 9) kind.KwResource (
    cond (k == 10) kind.KwPlain (
    cond (k == 11) kind.KwProgram (
    cond (k == 12) kind.KwGrant (
    cond (k == 13) kind.KwUse (
    cond (k == 14) kind.KwInstance (
    cond (k == 15) kind.KwImport (
    cond (k == 16) kind.KwAt (
    cond (k == 17) kind.KwInit (
    cond (k == 18) kind.KwVal (
    cond (k == 19) kind.KwVar (
    cond (k == 20) kind.KwRun (
    cond (k == 21) kind.KwNew (
    cond (k == 22) kind.KwIf (
    cond (k == 23) kind.KwThen (
    cond (k == 24) kind.KwElse (
    cond (k == 25) kind.KwThis (
    cond (k == 26) kind.KwTrue (
    cond (k == 27) kind.KwFalse (
    cond (k == 28) kind.KwMain (
    cond (k == 29) kind.KwInt (
    cond (k == 30) kind.KwBool (
    cond (k == 31) kind.KwString (
    cond (k == 32) kind.KwUnit (
    cond (k == 33) kind.KwTextSize (
    cond (k == 34) kind.KwTextPart (
    cond (k == 35) kind.KwTextCode (
    cond (k == 36) kind.KwTextByte (
    cond (k == 37) kind.KwTextShow (
    cond (k == 38) kind.SymOpenParen (
    cond (k == 39) kind.SymCloseParen (
    cond (k == 40) kind.SymOpenBracket (
    cond (k == 41) kind.SymCloseBracket (
    cond (k == 42) kind.SymOpenBrace (
    cond (k == 43) kind.SymCloseBrace (
    cond (k == 44) kind.SymComma (
    cond (k == 45) kind.SymColon (
    cond (k == 46) kind.SymDot (
    cond (k == 47) kind.SymEqual (
    cond (k == 48) kind.SymEqualEqual (
    cond (k == 49) kind.SymNotEqual (
    cond (k == 50) kind.SymLess (
    cond (k == 51) kind.SymLessEqual (
    cond (k == 52) kind.SymGreater (
    cond (k == 53) kind.SymGreaterEqual (
    cond (k == 54) kind.SymPlus (
    cond (k == 55) kind.SymMinus (
    cond (k == 56) kind.SymStar (
    cond (k == 57) kind.SymSlash (
    cond (k == 58) kind.SymPercent (
    cond (k == 59) kind.SymPlusPlus (
    cond (k == 60) kind.SymAndAnd (
    cond (k == 61) kind.SymOrOr (
    cond (k == 62) kind.SymNot (
    cond (k == 63) kind.Nl (
    cond (k == 64) kind.In (
    cond (k == 65) kind.Out (
    kind.End)))))))))))))))))))))))))))))))))))))))))))))))))))))))))))))))))

-- a kind that one word alone is of
abbrev pub is_fixed : ℕ → Bool
is_fixed k = (k == 3) || nat_lt 4 k

pub kind_is : (k : TokenKind) → is_fixed (code_of k) ≡ true → k ≡ kind_at (code_of k)
kind_is (kind.Name s) e = absurd cc
kind_is (kind.Number (pos n)) e = absurd cc
kind_is (kind.Number (negsuc n)) e = absurd cc
kind_is kind.Edge e = refl
kind_is (kind.Text s) e = absurd cc
kind_is kind.KwType e = refl
kind_is kind.KwEffect e = refl
kind_is kind.KwDef e = refl
kind_is kind.KwModule e = refl
kind_is kind.KwResource e = refl
kind_is kind.KwPlain e = refl
kind_is kind.KwProgram e = refl
kind_is kind.KwGrant e = refl
kind_is kind.KwUse e = refl
kind_is kind.KwInstance e = refl
kind_is kind.KwImport e = refl
kind_is kind.KwAt e = refl
kind_is kind.KwInit e = refl
kind_is kind.KwVal e = refl
kind_is kind.KwVar e = refl
kind_is kind.KwRun e = refl
kind_is kind.KwNew e = refl
kind_is kind.KwIf e = refl
kind_is kind.KwThen e = refl
kind_is kind.KwElse e = refl
kind_is kind.KwThis e = refl
kind_is kind.KwTrue e = refl
kind_is kind.KwFalse e = refl
kind_is kind.KwMain e = refl
kind_is kind.KwInt e = refl
kind_is kind.KwBool e = refl
kind_is kind.KwString e = refl
kind_is kind.KwUnit e = refl
kind_is kind.KwTextSize e = refl
kind_is kind.KwTextPart e = refl
kind_is kind.KwTextCode e = refl
kind_is kind.KwTextByte e = refl
kind_is kind.KwTextShow e = refl
kind_is kind.SymOpenParen e = refl
kind_is kind.SymCloseParen e = refl
kind_is kind.SymOpenBracket e = refl
kind_is kind.SymCloseBracket e = refl
kind_is kind.SymOpenBrace e = refl
kind_is kind.SymCloseBrace e = refl
kind_is kind.SymComma e = refl
kind_is kind.SymColon e = refl
kind_is kind.SymDot e = refl
kind_is kind.SymEqual e = refl
kind_is kind.SymEqualEqual e = refl
kind_is kind.SymNotEqual e = refl
kind_is kind.SymLess e = refl
kind_is kind.SymLessEqual e = refl
kind_is kind.SymGreater e = refl
kind_is kind.SymGreaterEqual e = refl
kind_is kind.SymPlus e = refl
kind_is kind.SymMinus e = refl
kind_is kind.SymStar e = refl
kind_is kind.SymSlash e = refl
kind_is kind.SymPercent e = refl
kind_is kind.SymPlusPlus e = refl
kind_is kind.SymAndAnd e = refl
kind_is kind.SymOrOr e = refl
kind_is kind.SymNot e = refl
kind_is kind.Nl e = refl
kind_is kind.In e = refl
kind_is kind.Out e = refl
kind_is kind.End e = refl

pub name_is : (k : TokenKind) → code_of k ≡ 1 → k ≡ kind.Name (text_of_kind k)
name_is (kind.Name s) e = refl
name_is (kind.Number (pos n)) e = absurd (omega arith)
name_is (kind.Number (negsuc n)) e = absurd (omega arith)
name_is kind.Edge e = absurd (omega arith)
name_is (kind.Text s) e = absurd (omega arith)
name_is kind.KwType e = absurd (omega arith)
name_is kind.KwEffect e = absurd (omega arith)
name_is kind.KwDef e = absurd (omega arith)
name_is kind.KwModule e = absurd (omega arith)
name_is kind.KwResource e = absurd (omega arith)
name_is kind.KwPlain e = absurd (omega arith)
name_is kind.KwProgram e = absurd (omega arith)
name_is kind.KwGrant e = absurd (omega arith)
name_is kind.KwUse e = absurd (omega arith)
name_is kind.KwInstance e = absurd (omega arith)
name_is kind.KwImport e = absurd (omega arith)
name_is kind.KwAt e = absurd (omega arith)
name_is kind.KwInit e = absurd (omega arith)
name_is kind.KwVal e = absurd (omega arith)
name_is kind.KwVar e = absurd (omega arith)
name_is kind.KwRun e = absurd (omega arith)
name_is kind.KwNew e = absurd (omega arith)
name_is kind.KwIf e = absurd (omega arith)
name_is kind.KwThen e = absurd (omega arith)
name_is kind.KwElse e = absurd (omega arith)
name_is kind.KwThis e = absurd (omega arith)
name_is kind.KwTrue e = absurd (omega arith)
name_is kind.KwFalse e = absurd (omega arith)
name_is kind.KwMain e = absurd (omega arith)
name_is kind.KwInt e = absurd (omega arith)
name_is kind.KwBool e = absurd (omega arith)
name_is kind.KwString e = absurd (omega arith)
name_is kind.KwUnit e = absurd (omega arith)
name_is kind.KwTextSize e = absurd (omega arith)
name_is kind.KwTextPart e = absurd (omega arith)
name_is kind.KwTextCode e = absurd (omega arith)
name_is kind.KwTextByte e = absurd (omega arith)
name_is kind.KwTextShow e = absurd (omega arith)
name_is kind.SymOpenParen e = absurd (omega arith)
name_is kind.SymCloseParen e = absurd (omega arith)
name_is kind.SymOpenBracket e = absurd (omega arith)
name_is kind.SymCloseBracket e = absurd (omega arith)
name_is kind.SymOpenBrace e = absurd (omega arith)
name_is kind.SymCloseBrace e = absurd (omega arith)
name_is kind.SymComma e = absurd (omega arith)
name_is kind.SymColon e = absurd (omega arith)
name_is kind.SymDot e = absurd (omega arith)
name_is kind.SymEqual e = absurd (omega arith)
name_is kind.SymEqualEqual e = absurd (omega arith)
name_is kind.SymNotEqual e = absurd (omega arith)
name_is kind.SymLess e = absurd (omega arith)
name_is kind.SymLessEqual e = absurd (omega arith)
name_is kind.SymGreater e = absurd (omega arith)
name_is kind.SymGreaterEqual e = absurd (omega arith)
name_is kind.SymPlus e = absurd (omega arith)
name_is kind.SymMinus e = absurd (omega arith)
name_is kind.SymStar e = absurd (omega arith)
name_is kind.SymSlash e = absurd (omega arith)
name_is kind.SymPercent e = absurd (omega arith)
name_is kind.SymPlusPlus e = absurd (omega arith)
name_is kind.SymAndAnd e = absurd (omega arith)
name_is kind.SymOrOr e = absurd (omega arith)
name_is kind.SymNot e = absurd (omega arith)
name_is kind.Nl e = absurd (omega arith)
name_is kind.In e = absurd (omega arith)
name_is kind.Out e = absurd (omega arith)
name_is kind.End e = absurd (omega arith)

pub text_is : (k : TokenKind) → code_of k ≡ 4 → k ≡ kind.Text (text_of_kind k)
text_is (kind.Name s) e = absurd (omega arith)
text_is (kind.Number (pos n)) e = absurd (omega arith)
text_is (kind.Number (negsuc n)) e = absurd (omega arith)
text_is kind.Edge e = absurd (omega arith)
text_is (kind.Text s) e = refl
text_is kind.KwType e = absurd (omega arith)
text_is kind.KwEffect e = absurd (omega arith)
text_is kind.KwDef e = absurd (omega arith)
text_is kind.KwModule e = absurd (omega arith)
text_is kind.KwResource e = absurd (omega arith)
text_is kind.KwPlain e = absurd (omega arith)
text_is kind.KwProgram e = absurd (omega arith)
text_is kind.KwGrant e = absurd (omega arith)
text_is kind.KwUse e = absurd (omega arith)
text_is kind.KwInstance e = absurd (omega arith)
text_is kind.KwImport e = absurd (omega arith)
text_is kind.KwAt e = absurd (omega arith)
text_is kind.KwInit e = absurd (omega arith)
text_is kind.KwVal e = absurd (omega arith)
text_is kind.KwVar e = absurd (omega arith)
text_is kind.KwRun e = absurd (omega arith)
text_is kind.KwNew e = absurd (omega arith)
text_is kind.KwIf e = absurd (omega arith)
text_is kind.KwThen e = absurd (omega arith)
text_is kind.KwElse e = absurd (omega arith)
text_is kind.KwThis e = absurd (omega arith)
text_is kind.KwTrue e = absurd (omega arith)
text_is kind.KwFalse e = absurd (omega arith)
text_is kind.KwMain e = absurd (omega arith)
text_is kind.KwInt e = absurd (omega arith)
text_is kind.KwBool e = absurd (omega arith)
text_is kind.KwString e = absurd (omega arith)
text_is kind.KwUnit e = absurd (omega arith)
text_is kind.KwTextSize e = absurd (omega arith)
text_is kind.KwTextPart e = absurd (omega arith)
text_is kind.KwTextCode e = absurd (omega arith)
text_is kind.KwTextByte e = absurd (omega arith)
text_is kind.KwTextShow e = absurd (omega arith)
text_is kind.SymOpenParen e = absurd (omega arith)
text_is kind.SymCloseParen e = absurd (omega arith)
text_is kind.SymOpenBracket e = absurd (omega arith)
text_is kind.SymCloseBracket e = absurd (omega arith)
text_is kind.SymOpenBrace e = absurd (omega arith)
text_is kind.SymCloseBrace e = absurd (omega arith)
text_is kind.SymComma e = absurd (omega arith)
text_is kind.SymColon e = absurd (omega arith)
text_is kind.SymDot e = absurd (omega arith)
text_is kind.SymEqual e = absurd (omega arith)
text_is kind.SymEqualEqual e = absurd (omega arith)
text_is kind.SymNotEqual e = absurd (omega arith)
text_is kind.SymLess e = absurd (omega arith)
text_is kind.SymLessEqual e = absurd (omega arith)
text_is kind.SymGreater e = absurd (omega arith)
text_is kind.SymGreaterEqual e = absurd (omega arith)
text_is kind.SymPlus e = absurd (omega arith)
text_is kind.SymMinus e = absurd (omega arith)
text_is kind.SymStar e = absurd (omega arith)
text_is kind.SymSlash e = absurd (omega arith)
text_is kind.SymPercent e = absurd (omega arith)
text_is kind.SymPlusPlus e = absurd (omega arith)
text_is kind.SymAndAnd e = absurd (omega arith)
text_is kind.SymOrOr e = absurd (omega arith)
text_is kind.SymNot e = absurd (omega arith)
text_is kind.Nl e = absurd (omega arith)
text_is kind.In e = absurd (omega arith)
text_is kind.Out e = absurd (omega arith)
text_is kind.End e = absurd (omega arith)

pub number_is : (k : TokenKind) → code_of k ≡ 2 → k ≡ kind.Number (pos (value_of_kind k))
number_is (kind.Name s) e = absurd (omega arith)
number_is (kind.Number (pos n)) e = refl
number_is (kind.Number (negsuc n)) e = absurd (omega arith)
number_is kind.Edge e = absurd (omega arith)
number_is (kind.Text s) e = absurd (omega arith)
number_is kind.KwType e = absurd (omega arith)
number_is kind.KwEffect e = absurd (omega arith)
number_is kind.KwDef e = absurd (omega arith)
number_is kind.KwModule e = absurd (omega arith)
number_is kind.KwResource e = absurd (omega arith)
number_is kind.KwPlain e = absurd (omega arith)
number_is kind.KwProgram e = absurd (omega arith)
number_is kind.KwGrant e = absurd (omega arith)
number_is kind.KwUse e = absurd (omega arith)
number_is kind.KwInstance e = absurd (omega arith)
number_is kind.KwImport e = absurd (omega arith)
number_is kind.KwAt e = absurd (omega arith)
number_is kind.KwInit e = absurd (omega arith)
number_is kind.KwVal e = absurd (omega arith)
number_is kind.KwVar e = absurd (omega arith)
number_is kind.KwRun e = absurd (omega arith)
number_is kind.KwNew e = absurd (omega arith)
number_is kind.KwIf e = absurd (omega arith)
number_is kind.KwThen e = absurd (omega arith)
number_is kind.KwElse e = absurd (omega arith)
number_is kind.KwThis e = absurd (omega arith)
number_is kind.KwTrue e = absurd (omega arith)
number_is kind.KwFalse e = absurd (omega arith)
number_is kind.KwMain e = absurd (omega arith)
number_is kind.KwInt e = absurd (omega arith)
number_is kind.KwBool e = absurd (omega arith)
number_is kind.KwString e = absurd (omega arith)
number_is kind.KwUnit e = absurd (omega arith)
number_is kind.KwTextSize e = absurd (omega arith)
number_is kind.KwTextPart e = absurd (omega arith)
number_is kind.KwTextCode e = absurd (omega arith)
number_is kind.KwTextByte e = absurd (omega arith)
number_is kind.KwTextShow e = absurd (omega arith)
number_is kind.SymOpenParen e = absurd (omega arith)
number_is kind.SymCloseParen e = absurd (omega arith)
number_is kind.SymOpenBracket e = absurd (omega arith)
number_is kind.SymCloseBracket e = absurd (omega arith)
number_is kind.SymOpenBrace e = absurd (omega arith)
number_is kind.SymCloseBrace e = absurd (omega arith)
number_is kind.SymComma e = absurd (omega arith)
number_is kind.SymColon e = absurd (omega arith)
number_is kind.SymDot e = absurd (omega arith)
number_is kind.SymEqual e = absurd (omega arith)
number_is kind.SymEqualEqual e = absurd (omega arith)
number_is kind.SymNotEqual e = absurd (omega arith)
number_is kind.SymLess e = absurd (omega arith)
number_is kind.SymLessEqual e = absurd (omega arith)
number_is kind.SymGreater e = absurd (omega arith)
number_is kind.SymGreaterEqual e = absurd (omega arith)
number_is kind.SymPlus e = absurd (omega arith)
number_is kind.SymMinus e = absurd (omega arith)
number_is kind.SymStar e = absurd (omega arith)
number_is kind.SymSlash e = absurd (omega arith)
number_is kind.SymPercent e = absurd (omega arith)
number_is kind.SymPlusPlus e = absurd (omega arith)
number_is kind.SymAndAnd e = absurd (omega arith)
number_is kind.SymOrOr e = absurd (omega arith)
number_is kind.SymNot e = absurd (omega arith)
number_is kind.Nl e = absurd (omega arith)
number_is kind.In e = absurd (omega arith)
number_is kind.Out e = absurd (omega arith)
number_is kind.End e = absurd (omega arith)
