-- What the names that stand for types in trees are: those of type declarations, those in a type's place, and those of the types
-- that modules are sealed at and that grants are of.
use Rattle.std.proofs.Common.{ℕ, List, [], ◌∷◌, Option, Some, None}
use Rattle.wy_syntax.specs.declared.types.Param.{Param}
use Rattle.wy_syntax.specs.declared.types.Signature.{Signature}
use Rattle.wy_syntax.specs.declared.types.TypeUse.{TypeUse}
use Rattle.wy_syntax.specs.declared.types.TypeUse.TheVariants as use_of
use Rattle.wy_syntax.specs.declared.items.Grant.{Grant}
use Rattle.wy_syntax.specs.declared.items.Member.{Member}
use Rattle.wy_syntax.specs.declared.items.Member.TheVariants.{Abstract, Bounded, Defined, Method}
use Rattle.wy_syntax.specs.declared.items.TypeDecl.{TypeDecl}
use Rattle.wy_syntax.specs.Trees.{ExprTree, ExprTrees, number, text, yes, no, this, name, unit, negate, invert, binary, call, size, part, byte_at, byte, show, ascribe, choice, none, more, RhsTree, literal, branch, value, StmtTree, StmtTrees, val, assign, run, no_stmts, more_stmts, PartTree, PartTrees, field, method, no_parts, more_parts, TailTree, short, long, ItemTree, type_item, pure_item, resource_item, plain_item, program_item}
use Rattle.wy_symbols.specs.Declarations.{ModuleTree, ProgramTree}

module _ (Ok : List ℕ → Type 0) where
  abbrev pub UseHas : TypeUse → Type 0
  UseHas (use_of.Int p) = Unit {0}
  UseHas (use_of.Bool p) = Unit {0}
  UseHas (use_of.Text p) = Unit {0}
  UseHas (use_of.Unit p) = Unit {0}
  UseHas (use_of.Bare n) = Ok n.text
  UseHas (use_of.With n sets) = Ok n.text
  UseHas (use_of.At n set) = Ok n.text

  abbrev pub UseIfHas : Option TypeUse → Type 0
  UseIfHas None = Unit {0}
  UseIfHas (Some u) = UseHas u

  abbrev pub ParamsHave : List Param → Type 0
  ParamsHave [] = Unit {0}
  ParamsHave (p ∷ ps) = UseHas p.type_use × ParamsHave ps

  abbrev pub SignatureHas : Signature → Type 0
  SignatureHas g = ParamsHave g.params × UseHas g.result

  abbrev mutual
    pub ExprHas : ExprTree → Type 0
    ExprHas (number v p) = Unit {0}
    ExprHas (text s p) = Unit {0}
    ExprHas (yes p) = Unit {0}
    ExprHas (no p) = Unit {0}
    ExprHas (this p) = Unit {0}
    ExprHas (name n) = Unit {0}
    ExprHas (unit p) = Unit {0}
    ExprHas (negate e p) = ExprHas e
    ExprHas (invert e p) = ExprHas e
    ExprHas (binary o a b p) = ExprHas a × ExprHas b
    ExprHas (call e n es) = ExprHas e × ExprsHave es
    ExprHas (size e p) = ExprHas e
    ExprHas (part e a b p) = ExprHas e × ExprHas a × ExprHas b
    ExprHas (byte_at e i p) = ExprHas e × ExprHas i
    ExprHas (byte e p) = ExprHas e
    ExprHas (show e p) = ExprHas e
    ExprHas (ascribe e u p) = ExprHas e × UseHas u
    ExprHas (choice c a b p) = ExprHas c × ExprHas a × ExprHas b

    pub ExprsHave : ExprTrees → Type 0
    ExprsHave none = Unit {0}
    ExprsHave (more e es) = ExprHas e × ExprsHave es

  abbrev mutual
    pub RhsHas : RhsTree → Type 0
    RhsHas (literal p ps) = PartsHave ps
    RhsHas (branch p c a b) = ExprHas c × StmtsHave a × StmtsHave b
    RhsHas (value e) = ExprHas e

    pub StmtHas : StmtTree → Type 0
    StmtHas (val x u r) = UseIfHas u × RhsHas r
    StmtHas (assign x r) = RhsHas r
    StmtHas (run r) = RhsHas r

    pub StmtsHave : StmtTrees → Type 0
    StmtsHave no_stmts = Unit {0}
    StmtsHave (more_stmts s ss) = StmtHas s × StmtsHave ss

    pub PartHas : PartTree → Type 0
    PartHas (field k x u r) = UseHas u × RhsHas r
    PartHas (method g b) = SignatureHas g × TailHas b

    pub PartsHave : PartTrees → Type 0
    PartsHave no_parts = Unit {0}
    PartsHave (more_parts p ps) = PartHas p × PartsHave ps

    pub TailHas : TailTree → Type 0
    TailHas (short r) = RhsHas r
    TailHas (long ss) = StmtsHave ss

  abbrev pub MembersHave : List Member → Type 0
  MembersHave [] = Unit {0}
  MembersHave (Abstract n ∷ ms) = MembersHave ms
  MembersHave (Bounded n set ∷ ms) = MembersHave ms
  MembersHave (Defined n set ∷ ms) = MembersHave ms
  MembersHave (Method g ∷ ms) = SignatureHas g × MembersHave ms

  abbrev pub GrantsHave : List Grant → Type 0
  GrantsHave [] = Unit {0}
  GrantsHave (g ∷ gs) = Ok g.kind.text × GrantsHave gs

  ------------------------------------------------------------
  -- Declarations

  abbrev pub DeclHas : TypeDecl → Type 0
  DeclHas d = Ok d.name.text × MembersHave d.members

  abbrev pub DeclsHave : List TypeDecl → Type 0
  DeclsHave [] = Unit {0}
  DeclsHave (d ∷ ds) = DeclHas d × DeclsHave ds

  abbrev pub ModuleHas : ModuleTree → Type 0
  ModuleHas m = ParamsHave m.params × Ok m.sealed.text × PartsHave m.parts

  abbrev pub ModulesHave : List ModuleTree → Type 0
  ModulesHave [] = Unit {0}
  ModulesHave (m ∷ ms) = ModuleHas m × ModulesHave ms

  abbrev pub BlockHas : ProgramTree → Type 0
  BlockHas g = GrantsHave g.grants × TailHas g.body

  abbrev pub BlocksHave : List ProgramTree → Type 0
  BlocksHave [] = Unit {0}
  BlocksHave (g ∷ gs) = BlockHas g × BlocksHave gs

  ------------------------------------------------------------
  -- Items

  abbrev pub ItemHas : ItemTree → Type 0
  ItemHas (type_item d) = DeclHas d
  ItemHas (pure_item place n sealed inside) = Ok sealed.text × PartsHave inside.parts
  ItemHas (resource_item place n params sealed inside) = ParamsHave params × Ok sealed.text × PartsHave inside.parts
  ItemHas (plain_item place n params sealed parts) = ParamsHave params × Ok sealed.text × PartsHave parts
  ItemHas (program_item place grants uses lines started effect body) = GrantsHave grants × TailHas body

  abbrev pub ItemsHave : List ItemTree → Type 0
  ItemsHave [] = Unit {0}
  ItemsHave (i ∷ is) = ItemHas i × ItemsHave is
