-- The bodies of a resolved program as plain data, over which rules, meaning and code are defined.
use Rattle.std.specs.Prelude.{ℕ, ℤ, Bool, List, Option}
use Rattle.wy_text.specs.declared.fault.Place.{Place}
use Rattle.wy_types.specs.declared.code.Binding.{Binding}
use Rattle.wy_types.specs.declared.code.UnaryOperator.{UnaryOperator}
use Rattle.wy_types.specs.declared.code.BinaryOperator.{BinaryOperator}
use Rattle.wy_types.specs.declared.code.TextOperator.{TextOperator}
use Rattle.wy_types.specs.declared.types.TypeRef.{TypeRef}

mutual
  -- an expression that is no `if`, each form with its mark
  pub data Expr : Type 0 where
    Number : Place → ℤ → Expr
    Quoted : Place → List ℕ → Expr
    Truth : Place → Bool → Expr
    Nothing : Place → Expr
    This : Place → Expr
    Name : Place → Binding → Expr
    Unary : Place → UnaryOperator → Expr → Expr
    Binary : Place → BinaryOperator → Expr → Expr → Expr
    TextCall : Place → TextOperator → Values → Expr
    Call : Place → Expr → List ℕ → Values → Expr
    New : Place → ℕ → Values → Expr
    Ascribe : Place → Value → TypeRef → Expr
    Assign : Place → Binding → Value → Expr

  -- an expression or an `if`
  pub data Value : Type 0 where
    Plain : Expr → Value
    If : Place → Expr → Block → Block → Value

  pub data Values : Type 0 where
    none : Values
    more : Value → Values → Values

  -- the last value, or a statement and the rest: one that is no `val`, or a `val` with its number and written type
  pub data Block : Type 0 where
    Last : Value → Block
    Then : Value → Block → Block
    Val : Place → ℕ → Option TypeRef → Value → Block → Block
