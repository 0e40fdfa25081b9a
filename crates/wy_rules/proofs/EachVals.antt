-- A property of each `val` statement: it holds where it always does, and where two others hold that imply it.
use Rattle.std.proofs.Common.{ℕ, List, [], ◌∷◌, Option, Some, None}
use Rattle.wy_types.specs.declared.types.TypeRef.{TypeRef}
use Rattle.wy_types.specs.Code.{Expr, Number, Quoted, Truth, Nothing, This, Name, Unary, Binary, TextCall, Call, New, Ascribe, Assign, Value, Plain, If, Values, none, more, Block, Last, Then, Val}
use Rattle.wy_types.specs.Program.{Scope, Body, Start, Init, Run}
use Rattle.wy_rules.specs.EachVal.{EachInExpr, EachInValue, EachInValues, EachInBlock, EachInStart, EachInBodies, EachVal}

module _ (Holds : Option ℕ → ℕ → Option TypeRef → Value → Type 0) (always : (owner : Option ℕ) (n : ℕ) (typ : Option TypeRef) (x : Value) → Holds owner n typ x) where
  module _ (owner : Option ℕ) where
    mutual
      pub always_expr : (x : Expr) → EachInExpr Holds owner x
      always_expr (Number q n) = tt
      always_expr (Quoted q bytes) = tt
      always_expr (Truth q b) = tt
      always_expr (Nothing q) = tt
      always_expr (This q) = tt
      always_expr (Name q name) = tt
      always_expr (Unary q op x) = always_expr x
      always_expr (Binary q op x y) = (always_expr x, always_expr y)
      always_expr (TextCall q op xs) = always_values xs
      always_expr (Call q x name xs) = (always_expr x, always_values xs)
      always_expr (New q l xs) = always_values xs
      always_expr (Ascribe q x t) = always_value x
      always_expr (Assign q name x) = always_value x

      always_value : (x : Value) → EachInValue Holds owner x
      always_value (Plain x) = always_expr x
      always_value (If q test first second) = (always_expr test, always_block first, always_block second)

      always_values : (xs : Values) → EachInValues Holds owner xs
      always_values none = tt
      always_values (more x xs) = (always_value x, always_values xs)

      always_block : (b : Block) → EachInBlock Holds owner b
      always_block (Last x) = always_value x
      always_block (Then x b) = (always_value x, always_block b)
      always_block (Val q n typ x b) = (always_value x, always owner n typ x, always_block b)

  always_start : (st : Start) → EachInStart Holds st
  always_start (Init values) = always_values None values
  always_start (Run block) = always_block None block

  always_bodies : (bs : List Body) → EachInBodies Holds bs
  always_bodies [] = tt
  always_bodies (b ∷ bs) = (always_block (Some b.owner) b.block, always_bodies bs)

  -- what each statement has whatever it is, all of a scope have
  pub always_vals : (s : Scope) → EachVal Holds s
  always_vals s = (always_start s.start, always_bodies s.bodies)

module _ (Holds Also Other : Option ℕ → ℕ → Option TypeRef → Value → Type 0) (implies : (owner : Option ℕ) (n : ℕ) (typ : Option TypeRef) (x : Value) → Holds owner n typ x → Also owner n typ x → Other owner n typ x) where
  module _ (owner : Option ℕ) where
    mutual
      implied_expr : (x : Expr) → EachInExpr Holds owner x → EachInExpr Also owner x → EachInExpr Other owner x
      implied_expr (Number q n) h g = tt
      implied_expr (Quoted q bytes) h g = tt
      implied_expr (Truth q b) h g = tt
      implied_expr (Nothing q) h g = tt
      implied_expr (This q) h g = tt
      implied_expr (Name q name) h g = tt
      implied_expr (Unary q op x) h g = implied_expr x h g
      implied_expr (Binary q op x y) h g = (implied_expr x h.0 g.0, implied_expr y h.1 g.1)
      implied_expr (TextCall q op xs) h g = implied_values xs h g
      implied_expr (Call q x name xs) h g = (implied_expr x h.0 g.0, implied_values xs h.1 g.1)
      implied_expr (New q l xs) h g = implied_values xs h g
      implied_expr (Ascribe q x t) h g = implied_value x h g
      implied_expr (Assign q name x) h g = implied_value x h g

      implied_value : (x : Value) → EachInValue Holds owner x → EachInValue Also owner x → EachInValue Other owner x
      implied_value (Plain x) h g = implied_expr x h g
      implied_value (If q test first second) h g = (implied_expr test h.0 g.0, implied_block first h.1 g.1, implied_block second h.2 g.2)

      implied_values : (xs : Values) → EachInValues Holds owner xs → EachInValues Also owner xs → EachInValues Other owner xs
      implied_values none h g = tt
      implied_values (more x xs) h g = (implied_value x h.0 g.0, implied_values xs h.1 g.1)

      implied_block : (b : Block) → EachInBlock Holds owner b → EachInBlock Also owner b → EachInBlock Other owner b
      implied_block (Last x) h g = implied_value x h g
      implied_block (Then x b) h g = (implied_value x h.0 g.0, implied_block b h.1 g.1)
      implied_block (Val q n typ x b) h g = (implied_value x h.0 g.0, implies owner n typ x h.1 g.1, implied_block b h.2 g.2)

  implied_start : (st : Start) → EachInStart Holds st → EachInStart Also st → EachInStart Other st
  implied_start (Init values) h g = implied_values None values h g
  implied_start (Run block) h g = implied_block None block h g

  implied_bodies : (bs : List Body) → EachInBodies Holds bs → EachInBodies Also bs → EachInBodies Other bs
  implied_bodies [] h g = tt
  implied_bodies (b ∷ bs) h g = (implied_block (Some b.owner) b.block h.0 g.0, implied_bodies bs h.1 g.1)

  -- what follows for each statement from two things that it has, all of a scope have
  pub implied_vals : (s : Scope) → EachVal Holds s → EachVal Also s → EachVal Other s
  implied_vals s h g = (implied_start s.start h.0 g.0, implied_bodies s.bodies h.1 g.1)
