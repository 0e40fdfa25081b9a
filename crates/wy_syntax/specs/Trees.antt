-- Trees as values: what a file's items are, apart from where they lie in memory. Two trees are the same
-- exactly where these are.
use Rattle.std.specs.Prelude.{ℕ, ℤ, List, [], ◌∷◌, Option}
use Rattle.wy_text.specs.declared.fault.Place.{Place}
use Rattle.wy_syntax.specs.declared.types.Name.{Name}
use Rattle.wy_syntax.specs.declared.types.AtomUse.{AtomUse}
use Rattle.wy_syntax.specs.declared.types.TypeUse.{TypeUse}
use Rattle.wy_syntax.specs.declared.types.Param.{Param}
use Rattle.wy_syntax.specs.declared.types.Signature.{Signature}
use Rattle.wy_syntax.specs.declared.expressions.Operator.{Operator}
use Rattle.wy_syntax.specs.declared.statements.FieldKind.{FieldKind}
use Rattle.wy_syntax.specs.declared.items.Line.{Line}
use Rattle.wy_syntax.specs.declared.items.Define.{Define}
use Rattle.wy_syntax.specs.declared.items.Init.{Init}
use Rattle.wy_syntax.specs.declared.items.Grant.{Grant}
use Rattle.wy_syntax.specs.declared.items.TypeDecl.{TypeDecl}

-- expressions, each with its mark
mutual
  pub data ExprTree : Type 0 where
    number : ℤ → Place → ExprTree
    text : List ℕ → Place → ExprTree
    yes : Place → ExprTree
    no : Place → ExprTree
    this : Place → ExprTree
    name : Name → ExprTree
    unit : Place → ExprTree
    negate : ExprTree → Place → ExprTree
    invert : ExprTree → Place → ExprTree
    binary : Operator → ExprTree → ExprTree → Place → ExprTree
    call : ExprTree → Name → ExprTrees → ExprTree
    size : ExprTree → Place → ExprTree
    part : ExprTree → ExprTree → ExprTree → Place → ExprTree
    byte_at : ExprTree → ExprTree → Place → ExprTree
    byte : ExprTree → Place → ExprTree
    show : ExprTree → Place → ExprTree
    ascribe : ExprTree → TypeUse → Place → ExprTree
    choice : ExprTree → ExprTree → ExprTree → Place → ExprTree

  pub data ExprTrees : Type 0 where
    none : ExprTrees
    more : ExprTree → ExprTrees → ExprTrees

-- right sides, statements, parts and bodies
mutual
  pub data RhsTree : Type 0 where
    literal : Place → PartTrees → RhsTree
    branch : Place → ExprTree → StmtTrees → StmtTrees → RhsTree
    value : ExprTree → RhsTree

  pub data StmtTree : Type 0 where
    val : Name → Option TypeUse → RhsTree → StmtTree
    assign : Name → RhsTree → StmtTree
    run : RhsTree → StmtTree

  pub data StmtTrees : Type 0 where
    no_stmts : StmtTrees
    more_stmts : StmtTree → StmtTrees → StmtTrees

  pub data PartTree : Type 0 where
    field : FieldKind → Name → TypeUse → RhsTree → PartTree
    method : Signature → TailTree → PartTree

  pub data PartTrees : Type 0 where
    no_parts : PartTrees
    more_parts : PartTree → PartTrees → PartTrees

  pub data TailTree : Type 0 where
    short : RhsTree → TailTree
    long : StmtTrees → TailTree

pub record InsideTree : Type 0 where
  pub uses : List Name
  pub lines : List Line
  pub defines : List Define
  pub init : Option Init
  pub parts : PartTrees

-- the place of an item is that of its first token; a program has the place of its `run` too
pub data ItemTree : Type 0 where
  type_item : TypeDecl → ItemTree
  pure_item : (place : Place) (name sealed : Name) (inside : InsideTree) → ItemTree
  resource_item : (place : Place) (name : Name) (params : List Param) (sealed : Name) (inside : InsideTree) → ItemTree
  plain_item : (place : Place) (name : Name) (params : List Param) (sealed : Name) (parts : PartTrees) → ItemTree
  program_item : (place : Place) (grants : List Grant) (uses : List Name) (lines : List Line) (run : Place) (effect : List AtomUse) (body : TailTree) → ItemTree

-- lists inside trees are types of their own
abbrev pub exprs_of : List ExprTree → ExprTrees
exprs_of [] = none
exprs_of (e ∷ es) = more e (exprs_of es)

abbrev pub stmts_of : List StmtTree → StmtTrees
stmts_of [] = no_stmts
stmts_of (s ∷ ss) = more_stmts s (stmts_of ss)

abbrev pub parts_of : List PartTree → PartTrees
parts_of [] = no_parts
parts_of (p ∷ ps) = more_parts p (parts_of ps)
