-- Right sides, statements, parts and bodies, read from left to right.
use Rattle.std.specs.Prelude.{ℕ, zero, suc, Bool, List, [], ◌∷◌, None, Some}
use Rattle.wy_text.specs.declared.fault.Place.{Place}
use Rattle.wy_syntax.specs.declared.types.Name.{Name}
use Rattle.wy_syntax.specs.declared.statements.FieldKind.{FieldKind}
use Rattle.wy_syntax.specs.declared.statements.FieldKind.TheVariants as fields
use Rattle.wy_syntax.specs.Tokens.{code}
use Rattle.wy_syntax.specs.Trees.{ExprTree, RhsTree, literal, branch, value, StmtTree, StmtTrees, val, assign, run, stmts_of, PartTree, PartTrees, field, method, no_parts, parts_of, TailTree, short, long}
use Rattle.wy_syntax.specs.StmtGrammar.{is_val}
use Rattle.wy_parser.specs.Kinds as kinds
use Rattle.wy_parser.specs.Reading.{Deep, ◌>>=◌, ret, choose, choose2, blocks}
use Rattle.wy_parser.specs.Parsing.{R, mark, word, each, type_use, signature}
use Rattle.wy_parser.specs.ExprParsing.{arg_first, choice_rest, p_expr, p_arg}

abbrev pub rhs_first : List ℕ
rhs_first = kinds.KwNew ∷ arg_first

abbrev pub stmt_first : List ℕ
stmt_first = kinds.KwVal ∷ rhs_first

abbrev pub part_first : List ℕ
part_first = kinds.KwDef ∷ kinds.KwVal ∷ kinds.KwVar ∷ []

-- indented parts, or none
unfoldable pub parts_inside : R PartTree → ℕ → R PartTrees
parts_inside part n = choose code (kinds.In ∷ []) (do
  opening ← mark kinds.In
  ps ← each part_first part n
  closing ← mark kinds.Out
  ret (parts_of ps)) (ret no_parts)

unfoldable pub literal_of : R PartTree → ℕ → R RhsTree
literal_of part n = do
  p ← mark kinds.KwNew
  line ← mark kinds.Nl
  ps ← parts_inside part n
  ret (literal p ps)

-- a block of its own lines
unfoldable pub indented_block : R StmtTrees → R StmtTrees
indented_block block = do
  opening ← mark kinds.In
  b ← block
  closing ← mark kinds.Out
  ret b

unfoldable pub branch_rest : R StmtTrees → Place → ExprTree → R RhsTree
branch_rest block p c = do
  line ← mark kinds.Nl
  a ← indented_block block
  else' ← mark kinds.KwElse
  line2 ← mark kinds.Nl
  b ← indented_block block
  ret (branch p c a b)

abbrev pub choice_line : R ExprTree → Place → ExprTree → R RhsTree
choice_line arg p c = do
  e ← choice_rest arg p c
  line ← mark kinds.Nl
  ret (value e)

-- an `if`, with expressions or with blocks on its sides
unfoldable pub if_of : R ExprTree → R ExprTree → R StmtTrees → R RhsTree
if_of expr arg block = do
  p ← mark kinds.KwIf
  c ← expr
  choose code (kinds.KwThen ∷ []) (choice_line arg p c) (branch_rest block p c)

unfoldable pub expr_line : R ExprTree → R RhsTree
expr_line expr = do
  e ← expr
  line ← mark kinds.Nl
  ret (value e)

-- a right side where a type is known
unfoldable pub rhs : R ExprTree → R ExprTree → R StmtTrees → R PartTree → ℕ → R RhsTree
rhs expr arg block part n = choose code (kinds.KwNew ∷ []) (literal_of part n) (choose code (kinds.KwIf ∷ []) (if_of expr arg block) (expr_line expr))

-- a right side where no type is known
unfoldable pub untyped_rhs : R ExprTree → R PartTree → ℕ → R RhsTree
untyped_rhs expr part n = choose code (kinds.KwNew ∷ []) (literal_of part n) (expr_line expr)

unfoldable pub typed_val : Bool → R RhsTree → Name → ℕ → R StmtTree
typed_val plain right w n = do
  colon ← mark kinds.SymColon
  t ← type_use plain n
  equal ← mark kinds.SymEqual
  r ← right
  ret (val w (Some t) r)

unfoldable pub untyped_val : R RhsTree → Name → R StmtTree
untyped_val free w = do
  equal ← mark kinds.SymEqual
  r ← free
  ret (val w None r)

unfoldable pub val_of : Bool → R RhsTree → R RhsTree → ℕ → R StmtTree
val_of plain right free n = do
  word' ← mark kinds.KwVal
  w ← word
  choose code (kinds.SymColon ∷ []) (typed_val plain right w n) (untyped_val free w)

unfoldable pub assign_of : R RhsTree → R StmtTree
assign_of right = do
  w ← word
  equal ← mark kinds.SymEqual
  r ← right
  ret (assign w r)

abbrev pub run_of : R RhsTree → R StmtTree
run_of here = do
  r ← here
  ret (run r)

-- `right` is a right side behind an equals sign, `free` one without a type, `here` one that is the statement
unfoldable pub stmt : Bool → R RhsTree → R RhsTree → R RhsTree → ℕ → R StmtTree
stmt plain right free here n =
    choose code (kinds.KwVal ∷ []) (val_of plain right free n)
    (choose2 code (kinds.Name ∷ []) (kinds.SymEqual ∷ []) (assign_of right) (run_of here))

unfoldable pub block_of : R StmtTree → ℕ → R StmtTrees
block_of statement n = do
  ss ← blocks code n stmt_first is_val statement
  ret (stmts_of ss)

abbrev pub short_tail : R RhsTree → R TailTree
short_tail right = do
  equal ← mark kinds.SymEqual
  r ← right
  ret (short r)

abbrev pub long_tail : R StmtTrees → R TailTree
long_tail block = do
  line ← mark kinds.Nl
  b ← indented_block block
  ret (long b)

unfoldable pub tail : R RhsTree → R StmtTrees → R TailTree
tail right block = choose code (kinds.SymEqual ∷ []) (short_tail right) (long_tail block)

unfoldable pub field_of : Bool → ℕ → FieldKind → R RhsTree → ℕ → R PartTree
field_of plain k kind right n = do
  word' ← mark k
  w ← word
  colon ← mark kinds.SymColon
  t ← type_use plain n
  equal ← mark kinds.SymEqual
  r ← right
  ret (field kind w t r)

unfoldable pub method_of : Bool → R RhsTree → R StmtTrees → ℕ → R PartTree
method_of plain right block n = do
  s ← signature plain n
  b ← tail right block
  ret (method s b)

unfoldable pub part : Bool → R RhsTree → R StmtTrees → ℕ → R PartTree
part plain right block n =
    choose code (kinds.KwDef ∷ []) (method_of plain right block n)
    (choose code (kinds.KwVal ∷ []) (field_of plain kinds.KwVal fields.Val right n) (field_of plain kinds.KwVar fields.Var right n))

-- ---- at every depth

unfoldable mutual
  pub p_rhs : Bool → ℕ → R RhsTree
  p_rhs plain zero = λ ts. Deep
  p_rhs plain (suc n) = rhs (p_expr plain n) (p_arg plain n) (p_block plain n) (part plain (p_rhs plain n) (p_block plain n) n) n

  pub p_block : Bool → ℕ → R StmtTrees
  p_block plain zero = λ ts. Deep
  p_block plain (suc n) = block_of (stmt plain (p_rhs plain n)
      (untyped_rhs (p_expr plain n) (part plain (p_rhs plain n) (p_block plain n) n) n)
      (rhs (p_expr plain n) (p_arg plain n) (p_block plain n) (part plain (p_rhs plain n) (p_block plain n) n) n) n) n

abbrev pub part_at : Bool → ℕ → R PartTree
part_at plain n = part plain (p_rhs plain n) (p_block plain n) n

abbrev pub rhs_at : Bool → ℕ → R RhsTree
rhs_at plain n = rhs (p_expr plain n) (p_arg plain n) (p_block plain n) (part_at plain n) n

abbrev pub untyped_at : Bool → ℕ → R RhsTree
untyped_at plain n = untyped_rhs (p_expr plain n) (part_at plain n) n

abbrev pub stmt_at : Bool → ℕ → R StmtTree
stmt_at plain n = stmt plain (p_rhs plain n) (untyped_at plain n) (rhs_at plain n) n

abbrev pub tail_at : Bool → ℕ → R TailTree
tail_at plain n = tail (p_rhs plain n) (p_block plain n)
