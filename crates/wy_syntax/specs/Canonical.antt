-- The canonical form: the text that prints a tree.
use Rattle.std.specs.Prelude.{ℕ, zero, suc, pos, negsuc, Bool, true, false, ◌&&◌, not, nat_le, List, [], ◌∷◌, ◌++◌, Option, None, Some, codes}
use Rattle.std.specs.Fmt.{signed_decimal}
use Rattle.wy_text.specs.Quoted.{quoted_form}
use Rattle.wy_text.specs.Spelling.{spelling_of}
use Rattle.wy_syntax.specs.declared.types.Name.{Name}
use Rattle.wy_syntax.specs.declared.types.AtomUse.{AtomUse}
use Rattle.wy_syntax.specs.declared.types.MemberSet.{MemberSet}
use Rattle.wy_syntax.specs.declared.types.TypeUse.{TypeUse}
use Rattle.wy_syntax.specs.declared.types.TypeUse.TheVariants as types
use Rattle.wy_syntax.specs.declared.types.Param.{Param}
use Rattle.wy_syntax.specs.declared.types.Signature.{Signature}
use Rattle.wy_syntax.specs.declared.statements.FieldKind.{FieldKind}
use Rattle.wy_syntax.specs.declared.statements.FieldKind.TheVariants as fields
use Rattle.wy_syntax.specs.declared.items.Member.{Member}
use Rattle.wy_syntax.specs.declared.items.Member.TheVariants as members
use Rattle.wy_syntax.specs.declared.items.Line.{Line}
use Rattle.wy_syntax.specs.declared.items.Line.TheVariants as lines
use Rattle.wy_syntax.specs.declared.items.Define.{Define}
use Rattle.wy_syntax.specs.declared.items.Init.{Init}
use Rattle.wy_syntax.specs.declared.items.Grant.{Grant}
use Rattle.wy_syntax.specs.Trees.{ExprTree, ExprTrees, number, text, yes, no, this, name, unit, negate, invert, binary, call, size, part, byte_at, byte, show, ascribe, choice, none, more, RhsTree, literal, branch, value, StmtTree, StmtTrees, val, assign, run, no_stmts, more_stmts, PartTree, PartTrees, field, method, no_parts, more_parts, TailTree, short, long, InsideTree, ItemTree, type_item, pure_item, resource_item, plain_item, program_item}
use Rattle.wy_syntax.specs.ExprGrammar.{symbol_of, level_of_op, left_level_of, right_level_of}

-- ---- lines and lists

abbrev pub newline : List ℕ
newline = 10 ∷ []

-- two spaces for each indentation
abbrev pub indented : ℕ → List ℕ
indented zero = []
indented (suc n) = 32 ∷ 32 ∷ indented n

-- each item's text behind a comma and a space
abbrev pub after_commas : {A : Type 0} → (A → List ℕ) → List A → List ℕ
after_commas f [] = []
after_commas f (a ∷ as') = codes ", " ++ f a ++ after_commas f as'

-- the items' texts with a comma and a space between
abbrev pub with_commas : {A : Type 0} → (A → List ℕ) → List A → List ℕ
with_commas f [] = []
with_commas f (a ∷ as') = f a ++ after_commas f as'

-- the items' texts, one behind the other
abbrev pub in_order : {A : Type 0} → (A → List ℕ) → List A → List ℕ
in_order f [] = []
in_order f (a ∷ as') = f a ++ in_order f as'

-- ---- sets, types and signatures

abbrev pub name_text : Name → List ℕ
name_text n = n.text

abbrev pub owner_text : Option Name → List ℕ
owner_text None = []
owner_text (Some owner) = owner.text ++ codes "."

abbrev pub atom_text : AtomUse → List ℕ
atom_text a = owner_text a.owner ++ a.member.text

abbrev pub set_text : List AtomUse → List ℕ
set_text s = codes "{" ++ with_commas atom_text s ++ codes "}"

abbrev pub member_set_text : MemberSet → List ℕ
member_set_text m = m.name.text ++ codes " = " ++ set_text m.effect

abbrev pub type_text : TypeUse → List ℕ
type_text (types.Int p) = codes "Int"
type_text (types.Bool p) = codes "Bool"
type_text (types.Text p) = codes "String"
type_text (types.Unit p) = codes "Unit"
type_text (types.Bare n) = n.text
type_text (types.With n ms) = n.text ++ codes "[" ++ with_commas member_set_text ms ++ codes "]"
type_text (types.At n s) = n.text ++ codes " at " ++ set_text s

abbrev pub param_text : Param → List ℕ
param_text x = x.name.text ++ codes ": " ++ type_text x.type_use

-- an effect and the space before the result
abbrev pub effect_text : Option (List AtomUse) → List ℕ
effect_text None = []
effect_text (Some s) = set_text s ++ codes " "

abbrev pub signature_text : Signature → List ℕ
signature_text s = codes "def " ++ s.name.text ++ codes "(" ++ with_commas param_text s.params ++ codes "): " ++ effect_text s.effect ++ type_text s.result

-- ---- expressions

-- the level of an expression as it is printed
abbrev pub level_of : ExprTree → ℕ
level_of (number (pos n) p) = 8
level_of (number (negsuc n) p) = 6
level_of (text s p) = 8
level_of (yes p) = 8
level_of (no p) = 8
level_of (this p) = 8
level_of (name n) = 8
level_of (unit p) = 8
level_of (negate e p) = 6
level_of (invert e p) = 6
level_of (binary o a b p) = level_of_op o
level_of (call e n es) = 7
level_of (size e p) = 8
level_of (part e a b p) = 8
level_of (byte_at e i p) = 8
level_of (byte e p) = 8
level_of (show e p) = 8
level_of (ascribe e t p) = 8
level_of (choice c a b p) = 0

-- whether the first token of a Unary is a number: the operand of a negation is then put in parentheses
abbrev pub is_numbered : ExprTree → Bool
is_numbered (number (pos n) p) = true
is_numbered (call e n es) = nat_le 7 (level_of e) && is_numbered e
is_numbered _ = false

-- in parentheses where that is asked for
abbrev pub enclosed : Bool → List ℕ → List ℕ
enclosed true t = codes "(" ++ t ++ codes ")"
enclosed false t = t

-- at a place that asks for level k: in parentheses exactly where the level is lower
abbrev pub placed : ℕ → ℕ → List ℕ → List ℕ
placed k level t = enclosed (not (nat_le k level)) t

abbrev mutual
  pub expr_text : ExprTree → List ℕ
  expr_text (number v p) = signed_decimal v
  expr_text (text s p) = quoted_form s
  expr_text (yes p) = codes "true"
  expr_text (no p) = codes "false"
  expr_text (this p) = codes "this"
  expr_text (name n) = n.text
  expr_text (unit p) = codes "()"
  expr_text (negate e p) = codes "-" ++ enclosed (not (nat_le 6 (level_of e) && not (is_numbered e))) (expr_text e)
  expr_text (invert e p) = codes "!" ++ placed 6 (level_of e) (expr_text e)
  expr_text (binary o a b p) = placed (left_level_of o) (level_of a) (expr_text a) ++ codes " " ++ spelling_of (symbol_of o) ++ codes " " ++ placed (right_level_of o) (level_of b) (expr_text b)
  expr_text (call e n es) = placed 7 (level_of e) (expr_text e) ++ codes "." ++ n.text ++ codes "(" ++ arguments_text es ++ codes ")"
  expr_text (size e p) = codes "text_size(" ++ expr_text e ++ codes ")"
  expr_text (part e a b p) = codes "text_part(" ++ expr_text e ++ codes ", " ++ expr_text a ++ codes ", " ++ expr_text b ++ codes ")"
  expr_text (byte_at e i p) = codes "text_code(" ++ expr_text e ++ codes ", " ++ expr_text i ++ codes ")"
  expr_text (byte e p) = codes "text_byte(" ++ expr_text e ++ codes ")"
  expr_text (show e p) = codes "text_show(" ++ expr_text e ++ codes ")"
  expr_text (ascribe e t p) = codes "(" ++ expr_text e ++ codes " : " ++ type_text t ++ codes ")"
  expr_text (choice c a b p) = codes "if " ++ placed 1 (level_of c) (expr_text c) ++ codes " then " ++ expr_text a ++ codes " else " ++ expr_text b

  pub arguments_text : ExprTrees → List ℕ
  arguments_text none = []
  arguments_text (more e es) = expr_text e ++ more_arguments_text es

  pub more_arguments_text : ExprTrees → List ℕ
  more_arguments_text none = []
  more_arguments_text (more e es) = codes ", " ++ expr_text e ++ more_arguments_text es

-- ---- statements and bodies, in lines with n indentations

abbrev pub field_text : FieldKind → List ℕ
field_text fields.Val = codes "val "
field_text fields.Var = codes "var "

-- a type and its colon, where one is written
abbrev pub written_type_text : Option TypeUse → List ℕ
written_type_text None = []
written_type_text (Some t) = codes ": " ++ type_text t

abbrev mutual
  -- what stands behind an equals sign or alone, up to the end of its last line
  pub rhs_text : ℕ → RhsTree → List ℕ
  rhs_text n (literal p ps) = codes "new" ++ newline ++ parts_text (suc n) ps
  rhs_text n (branch p c a b) = codes "if " ++ placed 1 (level_of c) (expr_text c) ++ newline ++ block_text (suc n) a ++ indented n ++ codes "else" ++ newline ++ block_text (suc n) b
  rhs_text n (value e) = expr_text e ++ newline

  pub stmt_text : ℕ → StmtTree → List ℕ
  stmt_text n (val x t r) = codes "val " ++ x.text ++ written_type_text t ++ codes " = " ++ rhs_text n r
  stmt_text n (assign x r) = x.text ++ codes " = " ++ rhs_text n r
  stmt_text n (run r) = rhs_text n r

  pub block_text : ℕ → StmtTrees → List ℕ
  block_text n no_stmts = []
  block_text n (more_stmts s ss) = indented n ++ stmt_text n s ++ block_text n ss

  pub part_text : ℕ → PartTree → List ℕ
  part_text n (field k x t r) = field_text k ++ x.text ++ codes ": " ++ type_text t ++ codes " = " ++ rhs_text n r
  part_text n (method s b) = signature_text s ++ tail_text n b

  pub parts_text : ℕ → PartTrees → List ℕ
  parts_text n no_parts = []
  parts_text n (more_parts p ps) = indented n ++ part_text n p ++ parts_text n ps

  -- a body keeps the form in which it was written
  pub tail_text : ℕ → TailTree → List ℕ
  tail_text n (short r) = codes " = " ++ rhs_text n r
  tail_text n (long ss) = newline ++ block_text (suc n) ss

-- ---- items, whose lines inside have one indentation

abbrev pub member_text : Member → List ℕ
member_text (members.Abstract n) = codes "  effect " ++ n.text ++ newline
member_text (members.Bounded n s) = codes "  effect " ++ n.text ++ codes " <= " ++ set_text s ++ newline
member_text (members.Defined n s) = codes "  effect " ++ n.text ++ codes " = " ++ set_text s ++ newline
member_text (members.Method s) = codes "  " ++ signature_text s ++ newline

abbrev pub use_text : Name → List ℕ
use_text n = codes "  use " ++ n.text ++ newline

abbrev pub line_text : Line → List ℕ
line_text (lines.Instance x m arguments) = codes "  instance " ++ x.text ++ codes " = " ++ m.text ++ codes "(" ++ with_commas name_text arguments ++ codes ")" ++ newline
line_text (lines.Import x m arguments bound) = codes "  import " ++ x.text ++ codes " = " ++ m.text ++ codes "(" ++ with_commas name_text arguments ++ codes ") at " ++ set_text bound ++ newline

abbrev pub define_text : Define → List ℕ
define_text d = codes "  effect " ++ d.name.text ++ codes " = " ++ set_text d.effect ++ newline

abbrev pub init_text : Option Init → List ℕ
init_text None = []
init_text (Some i) = codes "  init: " ++ set_text i.effect ++ newline

abbrev pub grant_text : Grant → List ℕ
grant_text g = codes "  grant " ++ g.name.text ++ codes ": " ++ g.kind.text ++ newline

abbrev pub inside_text : InsideTree → List ℕ
inside_text i = in_order use_text i.uses ++ in_order line_text i.lines ++ in_order define_text i.defines ++ init_text i.init ++ parts_text 1 i.parts

abbrev pub item_text : ItemTree → List ℕ
item_text (type_item t) = codes "type " ++ t.name.text ++ newline ++ in_order member_text t.members
item_text (pure_item p n sealed inside) = codes "module " ++ n.text ++ codes ": " ++ sealed.text ++ newline ++ inside_text inside
item_text (resource_item p n params sealed inside) = codes "resource module " ++ n.text ++ codes "(" ++ with_commas param_text params ++ codes "): " ++ sealed.text ++ newline ++ inside_text inside
item_text (plain_item p n params sealed parts) = codes "plain module " ++ n.text ++ codes "(" ++ with_commas param_text params ++ codes "): " ++ sealed.text ++ newline ++ parts_text 1 parts
item_text (program_item p grants uses lines started effect body) =
    codes "program" ++ newline ++ in_order grant_text grants ++ in_order use_text uses ++ in_order line_text lines
    ++ codes "  run: " ++ set_text effect ++ tail_text 1 body

-- each item behind a blank line
abbrev pub after_blank : ItemTree → List ℕ
after_blank i = newline ++ item_text i

-- the items with one blank line between
abbrev pub canonical_form : List ItemTree → List ℕ
canonical_form [] = []
canonical_form (i ∷ is) = item_text i ++ in_order after_blank is
