-- The nodes of a scope in the order in which they are judged: in a body each after its parts, and these as they are evaluated.
-- A node knows what its place expects, which matters to an `if` alone (docs/LANGUAGE.md, "First failing node").
use Rattle.std.specs.Prelude.{ℕ, List, [], ◌∷◌, ◌++◌, Option, Some, None, map, if◌then◌else◌}
use Rattle.std.specs.List.{range_with_len}
use Rattle.wy_text.specs.declared.fault.Place.{Place}
use Rattle.wy_text.specs.declared.fault.RuleName.{RuleName}
use Rattle.wy_text.specs.declared.fault.RuleName.TheVariants.{TCall, TNew, TIf, TSeq, TVal, TSet, TOp, TAsc, TBody, MPure, MAscribe, MUse, MInst, MImport, IImport}
use Rattle.wy_types.specs.declared.types.TypeRef.{TypeRef}
use Rattle.wy_types.specs.declared.types.TypeRef.TheVariants.{Unit as Nothing}
use Rattle.wy_types.specs.declared.resolved.Field.{Field}
use Rattle.wy_types.specs.declared.resolved.ScopeKind.{ScopeKind}
use Rattle.wy_types.specs.declared.resolved.ScopeKind.TheVariants.{Pure, Resource, Plain as Unannotated, Program as Main}
use Rattle.wy_types.specs.declared.resolved.Origin.{Origin}
use Rattle.wy_types.specs.declared.resolved.Origin.TheVariants.{Parameter, Grant, Use, Instance, Import}
use Rattle.wy_types.specs.declared.resolved.OwnName.{OwnName}
use Rattle.wy_types.specs.Code.{Expr, Number, Quoted, Truth, Nothing as NothingOf, This, Name, Unary, Binary, TextCall, Call, New, Ascribe, Assign, Value, Plain, If, Values, none, more, Block, Last, Then, Val}
use Rattle.wy_types.specs.Program.{Scope, Body, Start, Init, Run}
use Rattle.wy_types.specs.Vals.{value_count}
use Rattle.wy_rules.specs.Operators.{Row, text_rows}
use Rattle.wy_rules.specs.Derivations.{mark}
use Rattle.wy_rules.specs.Typing.{fields_of, field_types, var_field}

-- what a place expects: nothing, a type of the scope, or that of a parameter of the method that a call names
pub data Spot : Type 0 where
  nothing : Spot
  written : TypeRef → Spot
  argument : (receiver : Expr) (name : List ℕ) (arity : ℕ) (number : ℕ) → Spot

-- what is judged
pub data Subject : Type 0 where
  part : Value → Subject
  statement : Value → Subject
  val : ℕ → Option TypeRef → Value → Subject
  body : Block → TypeRef → List ℕ → Subject
  init : Values → List ℕ → Subject
  -- what a pure module may not have, by the premise
  impure : ℕ → Subject
  seal : Subject
  use_line : ℕ → Subject
  instance_line : ℕ → List ℕ → Subject
  import_line : ℕ → List ℕ → Subject
  bound_line : ℕ → List ℕ → List ℕ → Subject

pub record Node : Type 0 where
  pub place : Place
  pub rule : RuleName
  -- whose method the body is
  pub owner : Option ℕ
  pub spot : Spot
  pub subject : Subject

abbrev pub node : Place → RuleName → Option ℕ → Spot → Subject → Node
node place rule owner spot subject = record { place = place; rule = rule; owner = owner; spot = spot; subject = subject }

abbrev pub row_types : List Row → List TypeRef
row_types [] = []
row_types (r ∷ rs) = r.operands

abbrev pub written_spots : List TypeRef → List Spot
written_spots ts = map (λ t. written t) ts

abbrev pub val_spot : Option TypeRef → Spot
val_spot None = nothing
val_spot (Some t) = written t

-- an assignment expects the type of the `var` field that it names
abbrev pub field_spot : Option Field → Spot
field_spot None = nothing
field_spot (Some f) = written f.typ

abbrev pub argument_spots : Expr → List ℕ → ℕ → List Spot
argument_spots x name arity = map (λ i. argument x name arity i) (range_with_len 0 arity)

module _ (s : Scope) (owner : Option ℕ) where
  -- literals and names have no premise, so they have no node
  abbrev mutual
    pub expr_nodes : Expr → List Node
    expr_nodes (Number place n) = []
    expr_nodes (Quoted place bytes) = []
    expr_nodes (Truth place b) = []
    expr_nodes (NothingOf place) = []
    expr_nodes (This place) = []
    expr_nodes (Name place name) = []
    expr_nodes (Unary place op x) = expr_nodes x ++ node place TOp owner nothing (part (Plain (Unary place op x))) ∷ []
    expr_nodes (Binary place op x z) = expr_nodes x ++ (expr_nodes z ++ node place TOp owner nothing (part (Plain (Binary place op x z))) ∷ [])
    expr_nodes (TextCall place op xs) = values_nodes (written_spots (row_types (text_rows op))) xs ++ node place TOp owner nothing (part (Plain (TextCall place op xs))) ∷ []
    expr_nodes (Call place x name xs) =
        expr_nodes x ++ (values_nodes (argument_spots x name (value_count xs)) xs ++ node place TCall owner nothing (part (Plain (Call place x name xs))) ∷ [])
    expr_nodes (New place l xs) = values_nodes (written_spots (field_types s l)) xs ++ node place TNew owner nothing (part (Plain (New place l xs))) ∷ []
    expr_nodes (Ascribe place x t) = value_nodes (written t) x ++ node place TAsc owner nothing (part (Plain (Ascribe place x t))) ∷ []
    expr_nodes (Assign place name x) = value_nodes (field_spot (var_field s owner name)) x ++ node place TSet owner nothing (part (Plain (Assign place name x))) ∷ []

    -- both branches of an `if` stand where it stands
    pub value_nodes : Spot → Value → List Node
    value_nodes spot (Plain x) = expr_nodes x
    value_nodes spot (If place test first second) =
        expr_nodes test ++ (block_nodes spot first ++ (block_nodes spot second ++ node place TIf owner spot (part (If place test first second)) ∷ []))

    pub values_nodes : List Spot → Values → List Node
    values_nodes spots none = []
    values_nodes [] (more x xs) = value_nodes nothing x ++ values_nodes [] xs
    values_nodes (spot ∷ spots) (more x xs) = value_nodes spot x ++ values_nodes spots xs

    -- a statement that isn't last is asked for its own premise directly after it
    pub block_nodes : Spot → Block → List Node
    block_nodes spot (Last x) = value_nodes spot x
    block_nodes spot (Then x b) = value_nodes (written Nothing) x ++ (node (mark x) TSeq owner nothing (statement x) ∷ block_nodes spot b)
    block_nodes spot (Val place n typ x b) = value_nodes (val_spot typ) x ++ (node place TVal owner nothing (val n typ x) ∷ block_nodes spot b)

module _ (s : Scope) where
  abbrev pub start_nodes : Start → List Node
  start_nodes (Init values) =
      values_nodes s None (written_spots (field_types s 0)) values ++ node s.start_place TBody None nothing (init values s.start_effect) ∷ []
  start_nodes (Run block) = block_nodes s None (written Nothing) block ++ node s.start_place TBody None nothing (body block Nothing s.start_effect) ∷ []

  abbrev pub body_nodes : Body → List Node
  body_nodes b =
      block_nodes s (Some b.owner) (written b.signature.result) b.block ++
      node b.place TBody (Some b.owner) nothing (body b.block b.signature.result b.signature.effect) ∷ []

  abbrev pub bodies_nodes : List Body → List Node
  bodies_nodes [] = []
  bodies_nodes (b ∷ bs) = body_nodes b ++ bodies_nodes bs

  -- each `var` field of a pure module, then each of its lines
  abbrev pub var_nodes : List Field → List Node
  var_nodes [] = []
  var_nodes (f ∷ fs) = if f.mutable then node f.place MPure None nothing (impure 1) ∷ var_nodes fs else var_nodes fs

  abbrev pub impure_line : OwnName → Origin → List Node
  impure_line n (Parameter bare) = []
  impure_line n Grant = []
  impure_line n (Use m) = []
  impure_line n (Instance m arguments) = node n.place MPure None nothing (impure 2) ∷ []
  impure_line n (Import m arguments bound) = node n.place MPure None nothing (impure 2) ∷ []

  abbrev pub impure_lines : List OwnName → List Node
  impure_lines [] = []
  impure_lines (n ∷ ns) = impure_line n n.origin ++ impure_lines ns

  abbrev pub pure_nodes : ScopeKind → List Node
  pure_nodes Pure = var_nodes (fields_of s 0) ++ impure_lines s.names
  pure_nodes Resource = []
  pure_nodes Unannotated = []
  pure_nodes Main = []

  abbrev pub seal_nodes : Option ℕ → List Node
  seal_nodes None = []
  seal_nodes (Some d) = node s.place MAscribe None nothing seal ∷ []

  -- the nodes of a scope: M-Pure, the bodies, M-Ascribe
  abbrev pub scope_nodes : List Node
  scope_nodes = pure_nodes s.kind ++ (start_nodes s.start ++ (bodies_nodes s.bodies ++ seal_nodes s.ascribed))

-- the nodes of a line, at its own name
abbrev pub line_nodes : OwnName → Origin → List Node
line_nodes n (Parameter bare) = []
line_nodes n Grant = []
line_nodes n (Use m) = node n.place MUse None nothing (use_line m) ∷ []
line_nodes n (Instance m arguments) = node n.place MInst None nothing (instance_line m arguments) ∷ []
line_nodes n (Import m arguments bound) = node n.place MImport None nothing (import_line m arguments) ∷ node n.place IImport None nothing (bound_line m arguments bound) ∷ []

abbrev pub lines_nodes : List OwnName → List Node
lines_nodes [] = []
lines_nodes (n ∷ ns) = line_nodes n n.origin ++ lines_nodes ns
