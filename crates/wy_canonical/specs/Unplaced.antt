-- Trees without places: a tree with one place everywhere. Two trees are the same but for places exactly where these are one.
use Rattle.std.specs.Prelude.{List, map, Option, None, Some}
use Rattle.wy_text.specs.declared.fault.Place.{Place}
use Rattle.wy_syntax.specs.declared.types.Name.{Name}
use Rattle.wy_syntax.specs.declared.types.AtomUse.{AtomUse}
use Rattle.wy_syntax.specs.declared.types.MemberSet.{MemberSet}
use Rattle.wy_syntax.specs.declared.types.TypeUse.{TypeUse}
use Rattle.wy_syntax.specs.declared.types.TypeUse.TheVariants as types
use Rattle.wy_syntax.specs.declared.types.Param.{Param}
use Rattle.wy_syntax.specs.declared.types.Signature.{Signature}
use Rattle.wy_syntax.specs.declared.items.Member.{Member}
use Rattle.wy_syntax.specs.declared.items.Member.TheVariants as members
use Rattle.wy_syntax.specs.declared.items.Line.{Line}
use Rattle.wy_syntax.specs.declared.items.Line.TheVariants as lines
use Rattle.wy_syntax.specs.declared.items.Define.{Define}
use Rattle.wy_syntax.specs.declared.items.Init.{Init}
use Rattle.wy_syntax.specs.declared.items.Grant.{Grant}
use Rattle.wy_syntax.specs.declared.items.TypeDecl.{TypeDecl}
use Rattle.wy_syntax.specs.Trees.{ExprTree, ExprTrees, number, text, yes, no, this, name, unit, negate, invert, binary, call, size, part, byte_at, byte, show, ascribe, choice, none, more, RhsTree, literal, branch, value, StmtTree, StmtTrees, val, assign, run, no_stmts, more_stmts, PartTree, PartTrees, field, method, no_parts, more_parts, TailTree, short, long, InsideTree, ItemTree, type_item, pure_item, resource_item, plain_item, program_item}

-- the one place
abbrev pub nowhere : Place
nowhere = record { file = 0; line = 0; column = 0 }

-- ---- what is written once, or not at all

abbrev pub maybe : {A : Type 0} → (A → A) → Option A → Option A
maybe f None = None
maybe f (Some a) = Some (f a)

-- ---- sets, types and signatures

abbrev pub bare_name : Name → Name
bare_name n = record { text = n.text; place = nowhere }

abbrev pub bare_atom : AtomUse → AtomUse
bare_atom a = record { owner = maybe bare_name a.owner; member = bare_name a.member }

abbrev pub bare_set : List AtomUse → List AtomUse
bare_set s = map bare_atom s

abbrev pub bare_member_set : MemberSet → MemberSet
bare_member_set m = record { name = bare_name m.name; effect = bare_set m.effect }

abbrev pub bare_type : TypeUse → TypeUse
bare_type (types.Int p) = types.Int nowhere
bare_type (types.Bool p) = types.Bool nowhere
bare_type (types.Text p) = types.Text nowhere
bare_type (types.Unit p) = types.Unit nowhere
bare_type (types.Bare n) = types.Bare (bare_name n)
bare_type (types.With n ms) = types.With (bare_name n) (map bare_member_set ms)
bare_type (types.At n s) = types.At (bare_name n) (bare_set s)

abbrev pub bare_param : Param → Param
bare_param x = record { name = bare_name x.name; type_use = bare_type x.type_use }

abbrev pub bare_signature : Signature → Signature
bare_signature s = record { place = nowhere; name = bare_name s.name; params = map bare_param s.params; effect = maybe bare_set s.effect; result = bare_type s.result }

-- ---- expressions

abbrev mutual
  pub bare_expr : ExprTree → ExprTree
  bare_expr (number v p) = number v nowhere
  bare_expr (text s p) = text s nowhere
  bare_expr (yes p) = yes nowhere
  bare_expr (no p) = no nowhere
  bare_expr (this p) = this nowhere
  bare_expr (name n) = name (bare_name n)
  bare_expr (unit p) = unit nowhere
  bare_expr (negate e p) = negate (bare_expr e) nowhere
  bare_expr (invert e p) = invert (bare_expr e) nowhere
  bare_expr (binary o a b p) = binary o (bare_expr a) (bare_expr b) nowhere
  bare_expr (call e n es) = call (bare_expr e) (bare_name n) (bare_exprs es)
  bare_expr (size e p) = size (bare_expr e) nowhere
  bare_expr (part e a b p) = part (bare_expr e) (bare_expr a) (bare_expr b) nowhere
  bare_expr (byte_at e i p) = byte_at (bare_expr e) (bare_expr i) nowhere
  bare_expr (byte e p) = byte (bare_expr e) nowhere
  bare_expr (show e p) = show (bare_expr e) nowhere
  bare_expr (ascribe e t p) = ascribe (bare_expr e) (bare_type t) nowhere
  bare_expr (choice c a b p) = choice (bare_expr c) (bare_expr a) (bare_expr b) nowhere

  pub bare_exprs : ExprTrees → ExprTrees
  bare_exprs none = none
  bare_exprs (more e es) = more (bare_expr e) (bare_exprs es)

-- ---- statements and bodies

abbrev mutual
  pub bare_rhs : RhsTree → RhsTree
  bare_rhs (literal p ps) = literal nowhere (bare_parts ps)
  bare_rhs (branch p c a b) = branch nowhere (bare_expr c) (bare_stmts a) (bare_stmts b)
  bare_rhs (value e) = value (bare_expr e)

  pub bare_stmt : StmtTree → StmtTree
  bare_stmt (val n t r) = val (bare_name n) (maybe bare_type t) (bare_rhs r)
  bare_stmt (assign n r) = assign (bare_name n) (bare_rhs r)
  bare_stmt (run r) = run (bare_rhs r)

  pub bare_stmts : StmtTrees → StmtTrees
  bare_stmts no_stmts = no_stmts
  bare_stmts (more_stmts s ss) = more_stmts (bare_stmt s) (bare_stmts ss)

  pub bare_part : PartTree → PartTree
  bare_part (field k n t r) = field k (bare_name n) (bare_type t) (bare_rhs r)
  bare_part (method s b) = method (bare_signature s) (bare_tail b)

  pub bare_parts : PartTrees → PartTrees
  bare_parts no_parts = no_parts
  bare_parts (more_parts p ps) = more_parts (bare_part p) (bare_parts ps)

  pub bare_tail : TailTree → TailTree
  bare_tail (short r) = short (bare_rhs r)
  bare_tail (long ss) = long (bare_stmts ss)

-- ---- items

abbrev pub bare_member : Member → Member
bare_member (members.Abstract n) = members.Abstract (bare_name n)
bare_member (members.Bounded n s) = members.Bounded (bare_name n) (bare_set s)
bare_member (members.Defined n s) = members.Defined (bare_name n) (bare_set s)
bare_member (members.Method s) = members.Method (bare_signature s)

abbrev pub bare_line : Line → Line
bare_line (lines.Instance x m arguments) = lines.Instance (bare_name x) (bare_name m) (map bare_name arguments)
bare_line (lines.Import x m arguments bound) = lines.Import (bare_name x) (bare_name m) (map bare_name arguments) (bare_set bound)

abbrev pub bare_define : Define → Define
bare_define d = record { name = bare_name d.name; effect = bare_set d.effect }

abbrev pub bare_init : Init → Init
bare_init i = record { place = nowhere; effect = bare_set i.effect }

abbrev pub bare_grant : Grant → Grant
bare_grant g = record { name = bare_name g.name; kind = bare_name g.kind }

abbrev pub bare_type_item : TypeDecl → TypeDecl
bare_type_item t = record { place = nowhere; name = bare_name t.name; members = map bare_member t.members }

abbrev pub bare_inside : InsideTree → InsideTree
bare_inside i = record { uses = map bare_name i.uses; lines = map bare_line i.lines; defines = map bare_define i.defines; init = maybe bare_init i.init; parts = bare_parts i.parts }

abbrev pub bare_item : ItemTree → ItemTree
bare_item (type_item t) = type_item (bare_type_item t)
bare_item (pure_item p n sealed inside) = pure_item nowhere (bare_name n) (bare_name sealed) (bare_inside inside)
bare_item (resource_item p n params sealed inside) = resource_item nowhere (bare_name n) (map bare_param params) (bare_name sealed) (bare_inside inside)
bare_item (plain_item p n params sealed parts) = plain_item nowhere (bare_name n) (map bare_param params) (bare_name sealed) (bare_parts parts)
bare_item (program_item p grants uses lines started effect body) = program_item nowhere (map bare_grant grants) (map bare_name uses) (map bare_line lines) nowhere (bare_set effect) (bare_tail body)

-- the trees of a file's items, but for places
abbrev pub unplaced : List ItemTree → List ItemTree
unplaced items = map bare_item items
