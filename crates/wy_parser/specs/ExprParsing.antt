-- Expressions, read from left to right.
use Rattle.std.specs.Prelude.{ℕ, zero, suc, ℤ, pos, negsuc, Bool, true, false, cond, ◌==◌, List, [], ◌∷◌}
use Rattle.wy_text.specs.declared.fault.Place.{Place}
use Rattle.wy_syntax.specs.declared.types.Name.{Name}
use Rattle.wy_syntax.specs.declared.expressions.Operator.{Operator}
use Rattle.wy_syntax.specs.declared.expressions.Operator.TheVariants as op
use Rattle.wy_syntax.specs.Tokens.{Tok, code}
use Rattle.wy_syntax.specs.Trees.{ExprTree, number, text, yes, no, this, name, unit, negate, invert, binary, call, size, part, byte_at, byte, show, ascribe, choice, exprs_of}
use Rattle.wy_syntax.specs.ExprGrammar.{edge}
use Rattle.wy_parser.specs.declared.operators.Level.{Level}
use Rattle.wy_parser.specs.declared.operators.Level.TheVariants as levels
use Rattle.wy_parser.specs.Kinds as kinds
use Rattle.wy_parser.specs.Reading.{Deep, ◌>>=◌, ret, choose, fold_many}
use Rattle.wy_parser.specs.Parsing.{R, tok, mark, word, commas, text_of_kind, value_of_kind, type_use}

-- the kinds that an Expr begins with, and an Arg
abbrev pub expr_first : List ℕ
expr_first = kinds.Name ∷ kinds.Number ∷ kinds.Text ∷ kinds.KwThis ∷ kinds.KwTrue ∷ kinds.KwFalse ∷ kinds.KwTextSize ∷ kinds.KwTextPart ∷ kinds.KwTextCode ∷ kinds.KwTextByte ∷ kinds.KwTextShow ∷ kinds.SymOpenParen ∷ kinds.SymMinus ∷ kinds.SymNot ∷ []

abbrev pub arg_first : List ℕ
arg_first = kinds.KwIf ∷ expr_first

abbrev pub digits : R ℕ
digits = do
  x ← tok (kinds.Number ∷ [])
  ret (value_of_kind x.kind)

abbrev pub minus_of : ℕ → ℤ
minus_of zero = pos 0
minus_of (suc n) = negsuc n

-- the operator of a kind
abbrev pub operator_at : ℕ → Operator
operator_at k =
    cond (k == kinds.SymAndAnd) op.And (
    cond (k == kinds.SymEqualEqual) op.Equal (
    cond (k == kinds.SymNotEqual) op.NotEqual (
    cond (k == kinds.SymLess) op.Less (
    cond (k == kinds.SymLessEqual) op.LessEqual (
    cond (k == kinds.SymGreater) op.Greater (
    cond (k == kinds.SymGreaterEqual) op.GreaterEqual (
    cond (k == kinds.SymPlus) op.Plus (
    cond (k == kinds.SymMinus) op.Minus (
    cond (k == kinds.SymPlusPlus) op.Join (
    cond (k == kinds.SymStar) op.Times (
    cond (k == kinds.SymSlash) op.Divide (
    cond (k == kinds.SymPercent) op.Remainder (
    op.Or)))))))))))))

-- ---- what stands alone

abbrev pub number_alone : R ExprTree
number_alone = do
  x ← tok (kinds.Number ∷ [])
  ret (number (pos (value_of_kind x.kind)) x.place)

abbrev pub text_alone : R ExprTree
text_alone = do
  x ← tok (kinds.Text ∷ [])
  ret (text (text_of_kind x.kind) x.place)

abbrev pub alone : ℕ → (Place → ExprTree) → R ExprTree
alone k f = do
  p ← mark k
  ret (f p)

abbrev pub name_alone : R ExprTree
name_alone = do
  n ← word
  ret (name n)

-- ---- what takes arguments in parentheses

abbrev pub argument_at : ExprTree → Place → ExprTree × Place
argument_at e p = (e, p)

-- a word and one argument
unfoldable pub one_argument : ℕ → R ExprTree → R (ExprTree × Place)
one_argument k arg = do
  p ← mark k
  opening ← mark kinds.SymOpenParen
  e ← arg
  closing ← mark kinds.SymCloseParen
  ret (argument_at e p)

unfoldable pub built1 : ℕ → (ExprTree → Place → ExprTree) → R ExprTree → R ExprTree
built1 k f arg = do
  x ← one_argument k arg
  ret (f x.0 x.1)

-- what stands behind two arguments: nothing, or a third one
abbrev pub third_argument : Bool → R ExprTree → ExprTree → ExprTree → Place → R ExprTree
third_argument false arg e a p = do
  closing ← mark kinds.SymCloseParen
  ret (byte_at e a p)
third_argument true arg e a p = do
  comma ← mark kinds.SymComma
  b ← arg
  closing ← mark kinds.SymCloseParen
  ret (part e a b p)

-- a word and two arguments, or three
unfoldable pub several_arguments : ℕ → Bool → R ExprTree → R ExprTree
several_arguments k three arg = do
  p ← mark k
  opening ← mark kinds.SymOpenParen
  e ← arg
  comma ← mark kinds.SymComma
  a ← arg
  third_argument three arg e a p

-- ---- parentheses

abbrev pub is_choice : ExprTree → Bool
is_choice (choice c a b p) = true
is_choice _ = false

abbrev pub closing_unit : Place → R ExprTree
closing_unit p = do
  closing ← mark kinds.SymCloseParen
  ret (unit p)

unfoldable pub ascription : Bool → Place → ExprTree → ℕ → R ExprTree
ascription plain p e n = do
  colon ← mark kinds.SymColon
  t ← type_use plain n
  closing ← mark kinds.SymCloseParen
  ret (ascribe e t p)

abbrev pub closing_expr : ExprTree → R ExprTree
closing_expr e = do
  closing ← mark kinds.SymCloseParen
  ret e

-- behind what stands first in parentheses: an `if` there must have a type
abbrev pub after_arg : Bool → Place → ExprTree → ℕ → R ExprTree
after_arg plain p e n = cond (is_choice e) (ascription plain p e n) (choose code (kinds.SymColon ∷ []) (ascription plain p e n) (closing_expr e))

abbrev pub enclosed : Bool → R ExprTree → ℕ → Place → R ExprTree
enclosed plain arg n p = do
  e ← arg
  after_arg plain p e n

unfoldable pub parens : Bool → R ExprTree → ℕ → R ExprTree
parens plain arg n = do
  p ← mark kinds.SymOpenParen
  choose code (kinds.SymCloseParen ∷ []) (closing_unit p) (enclosed plain arg n p)

-- ---- the levels, from the tightest

unfoldable pub built : R ExprTree → R ExprTree
built arg =
    choose code (kinds.KwTextSize ∷ []) (built1 kinds.KwTextSize size arg)
    (choose code (kinds.KwTextPart ∷ []) (several_arguments kinds.KwTextPart true arg)
    (choose code (kinds.KwTextCode ∷ []) (several_arguments kinds.KwTextCode false arg)
    (choose code (kinds.KwTextByte ∷ []) (built1 kinds.KwTextByte byte arg) (built1 kinds.KwTextShow show arg))))

unfoldable pub atomic : Bool → R ExprTree → ℕ → R ExprTree
atomic plain arg n =
    choose code (kinds.Number ∷ []) number_alone
    (choose code (kinds.Text ∷ []) text_alone
    (choose code (kinds.KwTrue ∷ []) (alone kinds.KwTrue yes)
    (choose code (kinds.KwFalse ∷ []) (alone kinds.KwFalse no)
    (choose code (kinds.KwThis ∷ []) (alone kinds.KwThis this)
    (choose code (kinds.Name ∷ []) name_alone
    (choose code (kinds.KwTextSize ∷ kinds.KwTextPart ∷ kinds.KwTextCode ∷ kinds.KwTextByte ∷ kinds.KwTextShow ∷ []) (built arg) (parens plain arg n)))))))

unfoldable pub call_part : R ExprTree → ℕ → R (Name × List ExprTree)
call_part arg n = do
  dot ← mark kinds.SymDot
  m ← word
  opening ← mark kinds.SymOpenParen
  es ← commas arg_first arg n
  closing ← mark kinds.SymCloseParen
  ret (m, es)

abbrev pub add_call : ExprTree → Name × List ExprTree → ExprTree
add_call e t = call e t.0 (exprs_of t.1)

unfoldable pub post : Bool → R ExprTree → ℕ → R ExprTree
post plain arg n = do
  e ← atomic plain arg n
  fold_many code n (kinds.SymDot ∷ []) (call_part arg n) add_call e

-- behind a `-`: a number belongs to it
abbrev pub minus_digits : Place → R ExprTree
minus_digits p = do
  v ← digits
  ret (number (minus_of v) p)

abbrev pub minus_edge : Place → R ExprTree
minus_edge p = do
  x ← mark kinds.Edge
  ret (number (negsuc edge) p)

abbrev pub negated : R ExprTree → Place → R ExprTree
negated inner p = do
  e ← inner
  ret (negate e p)

unfoldable pub minus : R ExprTree → R ExprTree
minus inner = do
  p ← mark kinds.SymMinus
  choose code (kinds.Number ∷ kinds.Edge ∷ []) (choose code (kinds.Number ∷ []) (minus_digits p) (minus_edge p)) (negated inner p)

unfoldable pub bang : R ExprTree → R ExprTree
bang inner = do
  p ← mark kinds.SymNot
  e ← inner
  ret (invert e p)

unfoldable pub unary : Bool → R ExprTree → R ExprTree → ℕ → R ExprTree
unary plain inner arg n = choose code (kinds.SymMinus ∷ kinds.SymNot ∷ []) (choose code (kinds.SymMinus ∷ []) (minus inner) (bang inner)) (post plain arg n)

abbrev pub operator_part : List ℕ → R ExprTree → R (Tok × ExprTree)
operator_part G next = do
  x ← tok G
  right ← next
  ret (x, right)

abbrev pub add_binary : ExprTree → Tok × ExprTree → ExprTree
add_binary a t = binary (operator_at (code t.0)) a t.1 t.0.place

abbrev pub level : List ℕ → R ExprTree → ℕ → R ExprTree
level G next n = do
  left ← next
  fold_many code n G (operator_part G next) add_binary left

-- the symbols of each level's operators
abbrev pub symbols_of : Level → List ℕ
symbols_of levels.Or = kinds.SymOrOr ∷ []
symbols_of levels.And = kinds.SymAndAnd ∷ []
symbols_of levels.Sum = kinds.SymPlus ∷ kinds.SymMinus ∷ kinds.SymPlusPlus ∷ []
symbols_of levels.Product = kinds.SymStar ∷ kinds.SymSlash ∷ kinds.SymPercent ∷ []

unfoldable pub product : R ExprTree → ℕ → R ExprTree
product next n = level (kinds.SymStar ∷ kinds.SymSlash ∷ kinds.SymPercent ∷ []) next n

unfoldable pub sum : R ExprTree → ℕ → R ExprTree
sum next n = level (kinds.SymPlus ∷ kinds.SymMinus ∷ kinds.SymPlusPlus ∷ []) next n

abbrev pub compare_set : List ℕ
compare_set = kinds.SymEqualEqual ∷ kinds.SymNotEqual ∷ kinds.SymLess ∷ kinds.SymLessEqual ∷ kinds.SymGreater ∷ kinds.SymGreaterEqual ∷ []

unfoldable pub compare : R ExprTree → R ExprTree
compare next = do
  left ← next
  choose code compare_set (do
    t ← operator_part compare_set next
    ret (add_binary left t)) (ret left)

unfoldable pub conj : R ExprTree → ℕ → R ExprTree
conj next n = level (kinds.SymAndAnd ∷ []) next n

unfoldable pub disj : R ExprTree → ℕ → R ExprTree
disj next n = level (kinds.SymOrOr ∷ []) next n

abbrev pub chain : R ExprTree → ℕ → R ExprTree
chain next n = disj (conj (compare (sum (product next n) n)) n) n

-- what stands behind the condition of a choice
unfoldable pub choice_rest : R ExprTree → Place → ExprTree → R ExprTree
choice_rest arg p c = do
  then' ← mark kinds.KwThen
  a ← arg
  else' ← mark kinds.KwElse
  b ← arg
  ret (choice c a b p)

unfoldable pub choice_of : R ExprTree → R ExprTree → R ExprTree
choice_of expr arg = do
  p ← mark kinds.KwIf
  c ← expr
  choice_rest arg p c

-- ---- at every depth

unfoldable mutual
  pub p_unary : Bool → ℕ → R ExprTree
  p_unary plain zero = λ ts. Deep
  p_unary plain (suc n) = unary plain (p_unary plain n) (p_arg plain n) n

  pub p_expr : Bool → ℕ → R ExprTree
  p_expr plain zero = λ ts. Deep
  p_expr plain (suc n) = chain (unary plain (p_unary plain n) (p_arg plain n) n) n

  pub p_arg : Bool → ℕ → R ExprTree
  p_arg plain zero = λ ts. Deep
  p_arg plain (suc n) = choose code (kinds.KwIf ∷ []) (choice_of (p_expr plain n) (p_arg plain n)) (chain (unary plain (p_unary plain n) (p_arg plain n) n) n)

-- the readers inside depth n
abbrev pub unary_at : Bool → ℕ → R ExprTree
unary_at plain n = unary plain (p_unary plain n) (p_arg plain n) n

abbrev pub product_at : Bool → ℕ → R ExprTree
product_at plain n = product (unary_at plain n) n

abbrev pub sum_at : Bool → ℕ → R ExprTree
sum_at plain n = sum (product_at plain n) n

abbrev pub compare_at : Bool → ℕ → R ExprTree
compare_at plain n = compare (sum_at plain n)

abbrev pub conj_at : Bool → ℕ → R ExprTree
conj_at plain n = conj (compare_at plain n) n

abbrev pub disj_at : Bool → ℕ → R ExprTree
disj_at plain n = disj (conj_at plain n) n

-- what operators of a level stand between, and what they make
unfoldable pub operand_at : Bool → ℕ → Level → R ExprTree
operand_at plain n levels.Or = conj_at plain n
operand_at plain n levels.And = compare_at plain n
operand_at plain n levels.Sum = product_at plain n
operand_at plain n levels.Product = unary_at plain n

unfoldable pub level_at : Bool → ℕ → Level → R ExprTree
level_at plain n levels.Or = disj_at plain n
level_at plain n levels.And = conj_at plain n
level_at plain n levels.Sum = sum_at plain n
level_at plain n levels.Product = product_at plain n
