-- Which tokens spell expressions.
use Rattle.std.specs.Prelude.{◌≡◌, ℕ, zero, suc, ◌≤◌, ℤ, pos, negsuc, Bool, false, List, [], ◌∷◌, ◌⊎◌}
use Rattle.wy_text.specs.declared.fault.Place.{Place}
use Rattle.wy_text.specs.declared.token.TokenKind.{TokenKind}
use Rattle.wy_text.specs.declared.token.TokenKind.TheVariants as kind
use Rattle.wy_syntax.specs.declared.expressions.Operator.{Operator}
use Rattle.wy_syntax.specs.declared.expressions.Operator.TheVariants as op
use Rattle.wy_syntax.specs.Tokens.{Tok, starts}
use Rattle.wy_syntax.specs.Trees.{ExprTree, ExprTrees, number, text, yes, no, this, name, unit, negate, invert, binary, call, size, part, byte_at, byte, show, ascribe, choice, none, more}
use Rattle.wy_syntax.specs.Languages.{Lang, Sign, Mark, Word, ◌⨟◌, Only}
use Rattle.wy_syntax.specs.TypeGrammar.{SpellsType}

-- The levels: 0 Arg, 1 Expr, 2 And, 3 Cmp, 4 Sum, 5 Product, 6 Unary, 7 Post, 8 Atomic.

abbrev pub symbol_of : Operator → TokenKind
symbol_of op.Or = kind.SymOrOr
symbol_of op.And = kind.SymAndAnd
symbol_of op.Equal = kind.SymEqualEqual
symbol_of op.NotEqual = kind.SymNotEqual
symbol_of op.Less = kind.SymLess
symbol_of op.LessEqual = kind.SymLessEqual
symbol_of op.Greater = kind.SymGreater
symbol_of op.GreaterEqual = kind.SymGreaterEqual
symbol_of op.Plus = kind.SymPlus
symbol_of op.Minus = kind.SymMinus
symbol_of op.Join = kind.SymPlusPlus
symbol_of op.Times = kind.SymStar
symbol_of op.Divide = kind.SymSlash
symbol_of op.Remainder = kind.SymPercent

-- the level of what an operator makes
abbrev pub level_of_op : Operator → ℕ
level_of_op op.Or = 1
level_of_op op.And = 2
level_of_op op.Equal = 3
level_of_op op.NotEqual = 3
level_of_op op.Less = 3
level_of_op op.LessEqual = 3
level_of_op op.Greater = 3
level_of_op op.GreaterEqual = 3
level_of_op op.Plus = 4
level_of_op op.Minus = 4
level_of_op op.Join = 4
level_of_op op.Times = 5
level_of_op op.Divide = 5
level_of_op op.Remainder = 5

-- the level that its left operand's place asks for: operators group to the left, but comparisons do not group
abbrev pub left_level_of : Operator → ℕ
left_level_of op.Or = 1
left_level_of op.And = 2
left_level_of op.Equal = 4
left_level_of op.NotEqual = 4
left_level_of op.Less = 4
left_level_of op.LessEqual = 4
left_level_of op.Greater = 4
left_level_of op.GreaterEqual = 4
left_level_of op.Plus = 4
left_level_of op.Minus = 4
left_level_of op.Join = 4
left_level_of op.Times = 5
left_level_of op.Divide = 5
left_level_of op.Remainder = 5

-- the level that its right operand's place asks for
abbrev pub right_level_of : Operator → ℕ
right_level_of op.Or = 2
right_level_of op.And = 3
right_level_of op.Equal = 4
right_level_of op.NotEqual = 4
right_level_of op.Less = 4
right_level_of op.LessEqual = 4
right_level_of op.Greater = 4
right_level_of op.GreaterEqual = 4
right_level_of op.Plus = 5
right_level_of op.Minus = 5
right_level_of op.Join = 5
right_level_of op.Times = 6
right_level_of op.Divide = 6
right_level_of op.Remainder = 6

-- at a place that asks for level k, what has level l
abbrev pub Within : ℕ → ℕ → Lang → Lang
Within k l P u = Only (k ≤ l) P u

-- the least Int is this much and one more below 0
abbrev pub edge : ℕ
edge = 9223372036854775807

-- a number: its digits stand alone, and behind a `-` it is a Unary; `-0` is 0 too
abbrev pub SpellsNumber : ℕ → ℤ → Place → Lang
SpellsNumber k (pos n) p u =
    Within k 8 (Mark (kind.Number (pos n)) p) u
    ⊎ Within k 6 (Only (n ≡ 0) (Mark kind.SymMinus p ⨟ Sign (kind.Number (pos 0)))) u
SpellsNumber k (negsuc n) p u =
    Within k 6 (Mark kind.SymMinus p ⨟ Sign (kind.Number (pos (suc n)))) u
    ⊎ Within k 6 (Only (n ≡ edge) (Mark kind.SymMinus p ⨟ Sign kind.Edge)) u

-- behind n opening parentheses and before n closing ones, inside which any Expr stands
abbrev pub Wrapped : ℕ → ℕ → (ℕ → Lang) → Lang
Wrapped zero k P u = P k u
Wrapped (suc n) k P u = (Sign kind.SymOpenParen ⨟ Wrapped n 1 P ⨟ Sign kind.SymCloseParen) u

-- in any number of parentheses that leave no node, at a place that asks for level k
pub record Placed (k : ℕ) (P : ℕ → Lang) (u : List Tok) : Type 0 where
  pub depth : ℕ
  pub inside : Wrapped depth k P u

-- what does not begin with a number: `-` directly before one belongs to it
abbrev pub Unnumbered : Lang → Lang
Unnumbered P u = P u × (starts (2 ∷ 3 ∷ []) u ≡ false)

abbrev mutual
  -- what spells an expression at a place that asks for level k, but for parentheses round the whole
  pub Bare : Bool → ExprTree → ℕ → Lang
  Bare plain (number v p) k u = SpellsNumber k v p u
  Bare plain (text s p) k u = Within k 8 (Mark (kind.Text s) p) u
  Bare plain (yes p) k u = Within k 8 (Mark kind.KwTrue p) u
  Bare plain (no p) k u = Within k 8 (Mark kind.KwFalse p) u
  Bare plain (this p) k u = Within k 8 (Mark kind.KwThis p) u
  Bare plain (name n) k u = Within k 8 (Word n) u
  Bare plain (unit p) k u = Within k 8 (Mark kind.SymOpenParen p ⨟ Sign kind.SymCloseParen) u
  Bare plain (negate e p) k u = Within k 6 (Mark kind.SymMinus p ⨟ Unnumbered (Placed 6 (Bare plain e))) u
  Bare plain (invert e p) k u = Within k 6 (Mark kind.SymNot p ⨟ Placed 6 (Bare plain e)) u
  Bare plain (binary o a b p) k u = Within k (level_of_op o) (Placed (left_level_of o) (Bare plain a) ⨟ Mark (symbol_of o) p ⨟ Placed (right_level_of o) (Bare plain b)) u
  Bare plain (call e n es) k u = Within k 7 (Placed 7 (Bare plain e) ⨟ Sign kind.SymDot ⨟ Word n ⨟ Sign kind.SymOpenParen ⨟ Arguments plain es ⨟ Sign kind.SymCloseParen) u
  Bare plain (size e p) k u = Within k 8 (Mark kind.KwTextSize p ⨟ Sign kind.SymOpenParen ⨟ Placed 0 (Bare plain e) ⨟ Sign kind.SymCloseParen) u
  Bare plain (part e a b p) k u = Within k 8 (Mark kind.KwTextPart p ⨟ Sign kind.SymOpenParen ⨟ Placed 0 (Bare plain e) ⨟ Sign kind.SymComma ⨟ Placed 0 (Bare plain a) ⨟ Sign kind.SymComma ⨟ Placed 0 (Bare plain b) ⨟ Sign kind.SymCloseParen) u
  Bare plain (byte_at e i p) k u = Within k 8 (Mark kind.KwTextCode p ⨟ Sign kind.SymOpenParen ⨟ Placed 0 (Bare plain e) ⨟ Sign kind.SymComma ⨟ Placed 0 (Bare plain i) ⨟ Sign kind.SymCloseParen) u
  Bare plain (byte e p) k u = Within k 8 (Mark kind.KwTextByte p ⨟ Sign kind.SymOpenParen ⨟ Placed 0 (Bare plain e) ⨟ Sign kind.SymCloseParen) u
  Bare plain (show e p) k u = Within k 8 (Mark kind.KwTextShow p ⨟ Sign kind.SymOpenParen ⨟ Placed 0 (Bare plain e) ⨟ Sign kind.SymCloseParen) u
  Bare plain (ascribe e t p) k u = Within k 8 (Mark kind.SymOpenParen p ⨟ Placed 0 (Bare plain e) ⨟ Sign kind.SymColon ⨟ SpellsType plain t ⨟ Sign kind.SymCloseParen) u
  Bare plain (choice c a b p) k u = Within k 0 (Mark kind.KwIf p ⨟ Placed 1 (Bare plain c) ⨟ Sign kind.KwThen ⨟ Placed 0 (Bare plain a) ⨟ Sign kind.KwElse ⨟ Placed 0 (Bare plain b)) u

  -- List(Arg)
  pub Arguments : Bool → ExprTrees → Lang
  Arguments plain none u = u ≡ []
  Arguments plain (more e es) u = (Placed 0 (Bare plain e) ⨟ MoreArguments plain es) u

  pub MoreArguments : Bool → ExprTrees → Lang
  MoreArguments plain none u = u ≡ []
  MoreArguments plain (more e es) u = (Sign kind.SymComma ⨟ Placed 0 (Bare plain e) ⨟ MoreArguments plain es) u

-- an expression at a place that asks for level k: Arg is level 0, Expr level 1
abbrev pub SpellsExpr : Bool → ℕ → ExprTree → Lang
SpellsExpr plain k e = Placed k (Bare plain e)
