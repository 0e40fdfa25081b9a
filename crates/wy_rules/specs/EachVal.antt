-- A property that each `val` statement has, by the current object's literal, the statement's number, its written type and its initialiser.
use Rattle.std.specs.Prelude.{ℕ, List, [], ◌∷◌, Option, Some, None}
use Rattle.wy_types.specs.declared.types.TypeRef.{TypeRef}
use Rattle.wy_types.specs.Code.{Expr, Number, Quoted, Truth, Nothing, This, Name, Unary, Binary, TextCall, Call, New, Ascribe, Assign, Value, Plain, If, Values, none, more, Block, Last, Then, Val}
use Rattle.wy_types.specs.Program.{Scope, Body, Start, Init, Run}

module _ (Holds : Option ℕ → ℕ → Option TypeRef → Value → Type 0) where
  module _ (owner : Option ℕ) where
    abbrev mutual
      -- each `val` statement inside has the property
      pub EachInExpr : Expr → Type 0
      EachInExpr (Number place n) = Unit {0}
      EachInExpr (Quoted place bytes) = Unit {0}
      EachInExpr (Truth place b) = Unit {0}
      EachInExpr (Nothing place) = Unit {0}
      EachInExpr (This place) = Unit {0}
      EachInExpr (Name place name) = Unit {0}
      EachInExpr (Unary place op x) = EachInExpr x
      EachInExpr (Binary place op x y) = EachInExpr x × EachInExpr y
      EachInExpr (TextCall place op xs) = EachInValues xs
      EachInExpr (Call place x name xs) = EachInExpr x × EachInValues xs
      EachInExpr (New place l xs) = EachInValues xs
      EachInExpr (Ascribe place x t) = EachInValue x
      EachInExpr (Assign place name x) = EachInValue x

      pub EachInValue : Value → Type 0
      EachInValue (Plain x) = EachInExpr x
      EachInValue (If place test first second) = EachInExpr test × EachInBlock first × EachInBlock second

      pub EachInValues : Values → Type 0
      EachInValues none = Unit {0}
      EachInValues (more x xs) = EachInValue x × EachInValues xs

      pub EachInBlock : Block → Type 0
      EachInBlock (Last x) = EachInValue x
      EachInBlock (Then x b) = EachInValue x × EachInBlock b
      EachInBlock (Val place n typ x b) = EachInValue x × Holds owner n typ x × EachInBlock b

  -- in the start, and in each body
  abbrev pub EachInStart : Start → Type 0
  EachInStart (Init values) = EachInValues None values
  EachInStart (Run block) = EachInBlock None block

  abbrev pub EachInBodies : List Body → Type 0
  EachInBodies [] = Unit {0}
  EachInBodies (b ∷ bs) = EachInBlock (Some b.owner) b.block × EachInBodies bs

  -- in a scope
  abbrev pub EachVal : Scope → Type 0
  EachVal s = EachInStart s.start × EachInBodies s.bodies
