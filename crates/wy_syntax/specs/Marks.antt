-- Tests of the marks of trees: of the places of expressions, of `new` and of `if`, of the names that `val`s and assignments
-- give, of methods and of the starts of modules and programs. These are the places that the forms of a core take; and tests
-- of the places of tokens. (docs/LANGUAGE.md, "Marks")
use Rattle.std.specs.Prelude.{◌≡◌, Bool, true, List, [], ◌∷◌, Option, Some, None}
use Rattle.std.specs.List.{AllByRecursion}
use Rattle.wy_text.specs.declared.fault.Place.{Place}
use Rattle.wy_syntax.specs.declared.items.Init.{Init}
use Rattle.wy_syntax.specs.Tokens.{Tok}
use Rattle.wy_syntax.specs.Trees.{ExprTree, ExprTrees, number, text, yes, no, this, name, unit, negate, invert, binary, call, size, part, byte_at, byte, show, ascribe, choice, none, more, RhsTree, literal, branch, value, StmtTree, StmtTrees, val, assign, run, no_stmts, more_stmts, PartTree, PartTrees, field, method, no_parts, more_parts, TailTree, short, long, ItemTree, type_item, pure_item, resource_item, plain_item, program_item}

module _ (test : Place → Bool) where
  -- each mark of the form passes the test
  abbrev mutual
    pub ExprPasses : ExprTree → Type 0
    ExprPasses (number v p) = test p ≡ true
    ExprPasses (text s p) = test p ≡ true
    ExprPasses (yes p) = test p ≡ true
    ExprPasses (no p) = test p ≡ true
    ExprPasses (this p) = test p ≡ true
    ExprPasses (name n) = test n.place ≡ true
    ExprPasses (unit p) = test p ≡ true
    ExprPasses (negate e p) = (test p ≡ true) × ExprPasses e
    ExprPasses (invert e p) = (test p ≡ true) × ExprPasses e
    ExprPasses (binary o a b p) = (test p ≡ true) × ExprPasses a × ExprPasses b
    ExprPasses (call e n es) = (test n.place ≡ true) × ExprPasses e × ExprsPass es
    ExprPasses (size e p) = (test p ≡ true) × ExprPasses e
    ExprPasses (part e a b p) = (test p ≡ true) × ExprPasses e × ExprPasses a × ExprPasses b
    ExprPasses (byte_at e i p) = (test p ≡ true) × ExprPasses e × ExprPasses i
    ExprPasses (byte e p) = (test p ≡ true) × ExprPasses e
    ExprPasses (show e p) = (test p ≡ true) × ExprPasses e
    ExprPasses (ascribe e t p) = (test p ≡ true) × ExprPasses e
    ExprPasses (choice c a b p) = (test p ≡ true) × ExprPasses c × ExprPasses a × ExprPasses b

    pub ExprsPass : ExprTrees → Type 0
    ExprsPass none = Unit {0}
    ExprsPass (more e es) = ExprPasses e × ExprsPass es

  abbrev mutual
    pub RhsPasses : RhsTree → Type 0
    RhsPasses (literal p ps) = (test p ≡ true) × PartsPass ps
    RhsPasses (branch p c a b) = (test p ≡ true) × ExprPasses c × StmtsPass a × StmtsPass b
    RhsPasses (value e) = ExprPasses e

    pub StmtPasses : StmtTree → Type 0
    StmtPasses (val x t r) = (test x.place ≡ true) × RhsPasses r
    StmtPasses (assign x r) = (test x.place ≡ true) × RhsPasses r
    StmtPasses (run r) = RhsPasses r

    pub StmtsPass : StmtTrees → Type 0
    StmtsPass no_stmts = Unit {0}
    StmtsPass (more_stmts s ss) = StmtPasses s × StmtsPass ss

    pub PartPasses : PartTree → Type 0
    PartPasses (field k x t r) = RhsPasses r
    PartPasses (method s b) = (test s.place ≡ true) × TailPasses b

    pub PartsPass : PartTrees → Type 0
    PartsPass no_parts = Unit {0}
    PartsPass (more_parts p ps) = PartPasses p × PartsPass ps

    pub TailPasses : TailTree → Type 0
    TailPasses (short r) = RhsPasses r
    TailPasses (long ss) = StmtsPass ss

  abbrev pub InitPasses : Option Init → Type 0
  InitPasses None = Unit {0}
  InitPasses (Some i) = test i.place ≡ true

  -- a module starts at its `init`, or else at its first token
  abbrev pub ItemPasses : ItemTree → Type 0
  ItemPasses (type_item t) = Unit {0}
  ItemPasses (pure_item p n sealed inside) = (test p ≡ true) × InitPasses inside.init × PartsPass inside.parts
  ItemPasses (resource_item p n params sealed inside) = (test p ≡ true) × InitPasses inside.init × PartsPass inside.parts
  ItemPasses (plain_item p n params sealed parts) = (test p ≡ true) × PartsPass parts
  ItemPasses (program_item p grants uses lines started effect body) = (test started ≡ true) × TailPasses body

  abbrev pub ItemsPass : List ItemTree → Type 0
  ItemsPass [] = Unit {0}
  ItemsPass (i ∷ is) = ItemPasses i × ItemsPass is

  -- the place of each token passes the test
  abbrev pub TokensPass : List Tok → Type 0
  TokensPass ts = AllByRecursion (λ (t : Tok). test t.place ≡ true) ts
