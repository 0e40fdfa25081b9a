-- What bodies stand for: expressions and statements with their names resolved, object literals and methods,
-- each numbered by their order in the scope's tree.
use Rattle.std.specs.Prelude.{ℕ, ◌+◌, Bool, true, false, List, [], ◌∷◌, ◌++◌, Option, Some, None}
use Rattle.wy_text.specs.declared.fault.Place.{Place}
use Rattle.wy_syntax.specs.declared.types.Name.{Name}
use Rattle.wy_syntax.specs.declared.types.TypeUse.{TypeUse}
use Rattle.wy_syntax.specs.declared.types.Signature.{Signature}
use Rattle.wy_syntax.specs.declared.expressions.Operator.{Operator}
use Rattle.wy_syntax.specs.declared.expressions.Operator.TheVariants as op
use Rattle.wy_syntax.specs.declared.statements.FieldKind.{FieldKind}
use Rattle.wy_syntax.specs.declared.statements.FieldKind.TheVariants as kind
use Rattle.wy_syntax.specs.Trees as t
use Rattle.wy_types.specs.declared.code.Binding.{Binding}
use Rattle.wy_types.specs.declared.code.Binding.TheVariants as to
use Rattle.wy_types.specs.declared.code.UnaryOperator.TheVariants as unary
use Rattle.wy_types.specs.declared.code.BinaryOperator.{BinaryOperator}
use Rattle.wy_types.specs.declared.code.BinaryOperator.TheVariants as binary
use Rattle.wy_types.specs.declared.code.TextOperator.TheVariants as texts
use Rattle.wy_types.specs.declared.types.TypeRef.{TypeRef}
use Rattle.wy_types.specs.declared.resolved.Field.{Field}
use Rattle.wy_types.specs.declared.resolved.Literal.{Literal}
use Rattle.wy_types.specs.Code as code
use Rattle.wy_types.specs.Program.{Body}
use Rattle.wy_symbols.specs.Atoms.{AtomScope}
use Rattle.wy_symbols.specs.TypeUses.{type_ref, method_of}
use Rattle.wy_bodies.specs.Sight.{Sight, binding_of, with_val, with_params, inside, captures}

-- a scope as its bodies see it: its atoms, whether it is a plain module, and its own names
pub record Within : Type 0 where
  pub atoms : AtomScope
  pub plain : Bool
  pub own : List (List ℕ)

------------------------------------------------------------
-- Numbers by order in the tree

-- how many `val`s, literals and methods of the scope stand before; the module itself is the literal 0
pub record Count : Type 0 where
  pub vals : ℕ
  pub literals : ℕ
  pub bodies : ℕ

abbrev pub at_start : Count
at_start = record { vals = 0; literals = 1; bodies = 0 }

abbrev pub one_val : Count → Count
one_val n = record { vals = n.vals + 1; literals = n.literals; bodies = n.bodies }

abbrev pub one_literal : Count → Count
one_literal n = record { vals = n.vals; literals = n.literals + 1; bodies = n.bodies }

abbrev pub one_body : Count → Count
one_body n = record { vals = n.vals; literals = n.literals; bodies = n.bodies + 1 }

abbrev mutual
  pub rhs_after : Count → t.RhsTree → Count
  rhs_after n (t.literal p ps) = parts_after (one_literal n) ps
  rhs_after n (t.branch p c a b) = stmts_after (stmts_after n a) b
  rhs_after n (t.value e) = n

  pub stmt_after : Count → t.StmtTree → Count
  stmt_after n (t.val x u r) = rhs_after (one_val n) r
  stmt_after n (t.assign x r) = rhs_after n r
  stmt_after n (t.run r) = rhs_after n r

  pub stmts_after : Count → t.StmtTrees → Count
  stmts_after n t.no_stmts = n
  stmts_after n (t.more_stmts s ss) = stmts_after (stmt_after n s) ss

  pub part_after : Count → t.PartTree → Count
  part_after n (t.field k x u r) = rhs_after n r
  part_after n (t.method g b) = tail_after (one_body n) b

  pub parts_after : Count → t.PartTrees → Count
  parts_after n t.no_parts = n
  parts_after n (t.more_parts p ps) = parts_after (part_after n p) ps

  pub tail_after : Count → t.TailTree → Count
  tail_after n (t.short r) = rhs_after n r
  tail_after n (t.long ss) = stmts_after n ss

------------------------------------------------------------
-- Expressions

abbrev pub operator_of : Operator → BinaryOperator
operator_of op.Or = binary.Or
operator_of op.And = binary.And
operator_of op.Equal = binary.Equal
operator_of op.NotEqual = binary.NotEqual
operator_of op.Less = binary.Less
operator_of op.LessEqual = binary.LessOrEqual
operator_of op.Greater = binary.Greater
operator_of op.GreaterEqual = binary.GreaterOrEqual
operator_of op.Plus = binary.Add
operator_of op.Minus = binary.Subtract
operator_of op.Join = binary.Join
operator_of op.Times = binary.Multiply
operator_of op.Divide = binary.Divide
operator_of op.Remainder = binary.Remainder

-- a receiver or an operand; no tokens spell one that is an `if`
abbrev pub operand : code.Value → code.Expr
operand (code.Plain e) = e
operand (code.If p test first second) = code.Nothing p

abbrev pub bound_or_first : Option Binding → Binding
bound_or_first (Some b) = b
bound_or_first None = to.Own 0

module _ (w : Within) where
  abbrev pub bound : Sight → Name → Binding
  bound s n = bound_or_first (binding_of w.own s n.text)

  abbrev pub typed : TypeUse → TypeRef
  typed u = type_ref w.atoms w.plain u

  abbrev mutual
    pub expr_value : Sight → t.ExprTree → code.Value
    expr_value s (t.number v p) = code.Plain (code.Number p v)
    expr_value s (t.text x p) = code.Plain (code.Quoted p x)
    expr_value s (t.yes p) = code.Plain (code.Truth p true)
    expr_value s (t.no p) = code.Plain (code.Truth p false)
    expr_value s (t.this p) = code.Plain (code.This p)
    expr_value s (t.name n) = code.Plain (code.Name n.place (bound s n))
    expr_value s (t.unit p) = code.Plain (code.Nothing p)
    expr_value s (t.negate e p) = code.Plain (code.Unary p unary.Negate (operand (expr_value s e)))
    expr_value s (t.invert e p) = code.Plain (code.Unary p unary.Not (operand (expr_value s e)))
    expr_value s (t.binary o a b p) = code.Plain (code.Binary p (operator_of o) (operand (expr_value s a)) (operand (expr_value s b)))
    expr_value s (t.call e n es) = code.Plain (code.Call n.place (operand (expr_value s e)) n.text (expr_values s es))
    expr_value s (t.size e p) = code.Plain (code.TextCall p texts.Size (code.more (expr_value s e) code.none))
    expr_value s (t.part e a b p) =
        code.Plain (code.TextCall p texts.Part (code.more (expr_value s e) (code.more (expr_value s a) (code.more (expr_value s b) code.none))))
    expr_value s (t.byte_at e i p) = code.Plain (code.TextCall p texts.Code (code.more (expr_value s e) (code.more (expr_value s i) code.none)))
    expr_value s (t.byte e p) = code.Plain (code.TextCall p texts.Byte (code.more (expr_value s e) code.none))
    expr_value s (t.show e p) = code.Plain (code.TextCall p texts.Show (code.more (expr_value s e) code.none))
    expr_value s (t.ascribe e u p) = code.Plain (code.Ascribe p (expr_value s e) (typed u))
    expr_value s (t.choice c a b p) = code.If p (operand (expr_value s c)) (code.Last (expr_value s a)) (code.Last (expr_value s b))

    pub expr_values : Sight → t.ExprTrees → code.Values
    expr_values s t.none = code.none
    expr_values s (t.more e es) = code.more (expr_value s e) (expr_values s es)

  ------------------------------------------------------------
  -- Statements

  abbrev pub typed_if : Option TypeUse → Option TypeRef
  typed_if None = None
  typed_if (Some u) = Some (typed u)

  -- what is in sight after a statement
  abbrev pub stmt_sight : Sight → Count → t.StmtTree → Sight
  stmt_sight s n (t.val x u r) = with_val s x.text n.vals
  stmt_sight s n (t.assign x r) = s
  stmt_sight s n (t.run r) = s

  -- a value that is the last statement, or one before others
  abbrev pub last_or : t.StmtTrees → code.Value → code.Block → code.Block
  last_or t.no_stmts v rest = code.Last v
  last_or (t.more_stmts s ss) v rest = code.Then v rest

  abbrev mutual
    pub rhs_value : Sight → Count → t.RhsTree → code.Value
    rhs_value s n (t.literal p ps) = code.Plain (code.New p n.literals (part_values s (one_literal n) ps))
    rhs_value s n (t.branch p c a b) =
        code.If p (operand (expr_value s c)) (stmts_block p s n a) (stmts_block p s (stmts_after n a) b)
    rhs_value s n (t.value e) = expr_value s e

    -- a statement, the others after it, and what these stand for
    pub stmt_block : Sight → Count → t.StmtTree → t.StmtTrees → code.Block → code.Block
    stmt_block s n (t.val x u r) after rest = code.Val x.place n.vals (typed_if u) (rhs_value s (one_val n) r) rest
    stmt_block s n (t.assign x r) after rest = last_or after (code.Plain (code.Assign x.place (bound s x) (rhs_value s n r))) rest
    stmt_block s n (t.run r) after rest = last_or after (rhs_value s n r) rest

    -- no tokens spell a block that is empty, or whose last statement is a `val`; it ends as with `()` at the place handed in
    pub stmts_block : Place → Sight → Count → t.StmtTrees → code.Block
    stmts_block p s n t.no_stmts = code.Last (code.Plain (code.Nothing p))
    stmts_block p s n (t.more_stmts x xs) = stmt_block s n x xs (stmts_block p (stmt_sight s n x) (stmt_after n x) xs)

    -- the initialisers of fields, which see what the `new` sees
    pub part_values : Sight → Count → t.PartTrees → code.Values
    part_values s n t.no_parts = code.none
    part_values s n (t.more_parts p ps) = with_field s n p (part_values s (part_after n p) ps)

    pub with_field : Sight → Count → t.PartTree → code.Values → code.Values
    with_field s n (t.field k x u r) rest = code.more (rhs_value s n r) rest
    with_field s n (t.method g b) rest = rest

    pub tail_block : Place → Sight → Count → t.TailTree → code.Block
    tail_block p s n (t.short r) = code.Last (rhs_value s n r)
    tail_block p s n (t.long ss) = stmts_block p s n ss

  ------------------------------------------------------------
  -- Object literals

  abbrev pub is_var : FieldKind → Bool
  is_var kind.Val = false
  is_var kind.Var = true

  abbrev pub fields_of : t.PartTrees → List Field
  fields_of t.no_parts = []
  fields_of (t.more_parts (t.field k x u r) ps) =
      record { name = x.text; place = x.place; mutable = is_var k; typ = typed u } ∷ fields_of ps
  fields_of (t.more_parts (t.method g b) ps) = fields_of ps

  abbrev pub literal_of : Sight → t.PartTrees → Literal
  literal_of s ps = record { captures = captures s ps; fields = fields_of ps }

  abbrev mutual
    -- the literals, by their numbers
    pub rhs_literals : Sight → Count → t.RhsTree → List Literal
    rhs_literals s n (t.literal p ps) = literal_of s ps ∷ parts_literals s (inside s ps) (one_literal n) ps
    rhs_literals s n (t.branch p c a b) = stmts_literals s n a ++ stmts_literals s (stmts_after n a) b
    rhs_literals s n (t.value e) = []

    pub stmt_literals : Sight → Count → t.StmtTree → List Literal
    stmt_literals s n (t.val x u r) = rhs_literals s (one_val n) r
    stmt_literals s n (t.assign x r) = rhs_literals s n r
    stmt_literals s n (t.run r) = rhs_literals s n r

    pub stmts_literals : Sight → Count → t.StmtTrees → List Literal
    stmts_literals s n t.no_stmts = []
    stmts_literals s n (t.more_stmts x xs) = stmt_literals s n x ++ stmts_literals (stmt_sight s n x) (stmt_after n x) xs

    -- `within` is what the methods see
    pub part_literals : Sight → Sight → Count → t.PartTree → List Literal
    part_literals s within n (t.field k x u r) = rhs_literals s n r
    part_literals s within n (t.method g b) = tail_literals (with_params within n.bodies g.params) (one_body n) b

    pub parts_literals : Sight → Sight → Count → t.PartTrees → List Literal
    parts_literals s within n t.no_parts = []
    parts_literals s within n (t.more_parts p ps) = part_literals s within n p ++ parts_literals s within (part_after n p) ps

    pub tail_literals : Sight → Count → t.TailTree → List Literal
    tail_literals s n (t.short r) = rhs_literals s n r
    tail_literals s n (t.long ss) = stmts_literals s n ss

  ------------------------------------------------------------
  -- Methods

  -- a method of the literal of a number
  abbrev pub method_body : Sight → Count → ℕ → Signature → t.TailTree → Body
  method_body within n owner g b = record {
    owner = owner;
    place = g.place;
    signature = method_of w.atoms w.plain g;
    block = tail_block g.place (with_params within n.bodies g.params) (one_body n) b;
  }

  abbrev mutual
    -- the methods, by the order of their `def` words: one comes before those of the literals in it
    pub rhs_bodies : Sight → Count → t.RhsTree → List Body
    rhs_bodies s n (t.literal p ps) = parts_bodies s (inside s ps) n.literals (one_literal n) ps
    rhs_bodies s n (t.branch p c a b) = stmts_bodies s n a ++ stmts_bodies s (stmts_after n a) b
    rhs_bodies s n (t.value e) = []

    pub stmt_bodies : Sight → Count → t.StmtTree → List Body
    stmt_bodies s n (t.val x u r) = rhs_bodies s (one_val n) r
    stmt_bodies s n (t.assign x r) = rhs_bodies s n r
    stmt_bodies s n (t.run r) = rhs_bodies s n r

    pub stmts_bodies : Sight → Count → t.StmtTrees → List Body
    stmts_bodies s n t.no_stmts = []
    stmts_bodies s n (t.more_stmts x xs) = stmt_bodies s n x ++ stmts_bodies (stmt_sight s n x) (stmt_after n x) xs

    pub part_bodies : Sight → Sight → ℕ → Count → t.PartTree → List Body
    part_bodies s within owner n (t.field k x u r) = rhs_bodies s n r
    part_bodies s within owner n (t.method g b) =
        method_body within n owner g b ∷ tail_bodies (with_params within n.bodies g.params) (one_body n) b

    pub parts_bodies : Sight → Sight → ℕ → Count → t.PartTrees → List Body
    parts_bodies s within owner n t.no_parts = []
    parts_bodies s within owner n (t.more_parts p ps) = part_bodies s within owner n p ++ parts_bodies s within owner (part_after n p) ps

    pub tail_bodies : Sight → Count → t.TailTree → List Body
    tail_bodies s n (t.short r) = rhs_bodies s n r
    tail_bodies s n (t.long ss) = stmts_bodies s n ss
