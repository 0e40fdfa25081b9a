-- The canonical form reads no place.
use Rattle.std.proofs.Common.{◌≡◌, ℕ, pos, negsuc, suc, Bool, not, ◌&&◌, nat_le, Option, Some, None, List, [], ◌∷◌, ◌++◌, map, codes, refl, sym, ap, ◌∙◌}
use Rattle.wy_text.specs.Spelling.{spelling_of}
use Rattle.wy_syntax.specs.declared.types.Name.{Name}
use Rattle.wy_syntax.specs.declared.types.AtomUse.{AtomUse}
use Rattle.wy_syntax.specs.declared.types.MemberSet.{MemberSet}
use Rattle.wy_syntax.specs.declared.types.TypeUse.{TypeUse}
use Rattle.wy_syntax.specs.declared.types.TypeUse.TheVariants as types
use Rattle.wy_syntax.specs.declared.types.Param.{Param}
use Rattle.wy_syntax.specs.declared.types.Signature.{Signature}
use Rattle.wy_syntax.specs.declared.items.Member.{Member}
use Rattle.wy_syntax.specs.declared.items.Member.TheVariants as members
use Rattle.wy_syntax.specs.declared.items.Line.{Line}
use Rattle.wy_syntax.specs.declared.items.Line.TheVariants as lines
use Rattle.wy_syntax.specs.declared.items.Define.{Define}
use Rattle.wy_syntax.specs.declared.items.Init.{Init}
use Rattle.wy_syntax.specs.Trees.{ExprTree, ExprTrees, number, text, yes, no, this, name, unit, negate, invert, binary, call, size, part, byte_at, byte, show, ascribe, choice, none, more, RhsTree, literal, branch, value, StmtTree, StmtTrees, val, assign, run, no_stmts, more_stmts, PartTree, PartTrees, field, method, no_parts, more_parts, TailTree, short, long, InsideTree, ItemTree, type_item, pure_item, resource_item, plain_item, program_item}
use Rattle.wy_syntax.specs.ExprGrammar.{symbol_of, left_level_of, right_level_of}
use Rattle.wy_syntax.specs.Canonical.{newline, indented, after_commas, with_commas, in_order, name_text, owner_text, atom_text, set_text, member_set_text, type_text, param_text, effect_text, signature_text, level_of, is_numbered, enclosed, placed, expr_text, arguments_text, more_arguments_text, field_text, written_type_text, rhs_text, stmt_text, block_text, part_text, parts_text, tail_text, member_text, use_text, line_text, define_text, init_text, grant_text, inside_text, item_text, after_blank, canonical_form}
use Rattle.wy_canonical.specs.Unplaced.{maybe, bare_name, bare_atom, bare_set, bare_member_set, bare_type, bare_param, bare_signature, bare_expr, bare_exprs, bare_rhs, bare_stmt, bare_stmts, bare_part, bare_parts, bare_tail, bare_member, bare_line, bare_define, bare_init, bare_grant, bare_inside, bare_item, unplaced}

-- ---- levels

level_bare : (e : ExprTree) → level_of (bare_expr e) ≡ level_of e
level_bare (number (pos n) p) = refl
level_bare (number (negsuc n) p) = refl
level_bare (text s p) = refl
level_bare (yes p) = refl
level_bare (no p) = refl
level_bare (this p) = refl
level_bare (name n) = refl
level_bare (unit p) = refl
level_bare (negate e p) = refl
level_bare (invert e p) = refl
level_bare (binary o a b p) = refl
level_bare (call e n es) = refl
level_bare (size e p) = refl
level_bare (part e a b p) = refl
level_bare (byte_at e i p) = refl
level_bare (byte e p) = refl
level_bare (show e p) = refl
level_bare (ascribe e t p) = refl
level_bare (choice c a b p) = refl

pub level_same : (a b : ExprTree) → bare_expr a ≡ bare_expr b → level_of a ≡ level_of b
level_same a b h = sym (level_bare a) ∙ ap level_of h ∙ level_bare b

numbered_bare : (e : ExprTree) → is_numbered (bare_expr e) ≡ is_numbered e
numbered_bare (number (pos n) p) = refl
numbered_bare (number (negsuc n) p) = refl
numbered_bare (text s p) = refl
numbered_bare (yes p) = refl
numbered_bare (no p) = refl
numbered_bare (this p) = refl
numbered_bare (name n) = refl
numbered_bare (unit p) = refl
numbered_bare (negate e p) = refl
numbered_bare (invert e p) = refl
numbered_bare (binary o a b p) = refl
numbered_bare (call e n es) = ap (λ (l : ℕ). nat_le 7 l && is_numbered (bare_expr e)) (level_bare e) ∙ ap (λ (b : Bool). nat_le 7 (level_of e) && b) (numbered_bare e)
numbered_bare (size e p) = refl
numbered_bare (part e a b p) = refl
numbered_bare (byte_at e i p) = refl
numbered_bare (byte e p) = refl
numbered_bare (show e p) = refl
numbered_bare (ascribe e t p) = refl
numbered_bare (choice c a b p) = refl

pub numbered_same : (a b : ExprTree) → bare_expr a ≡ bare_expr b → is_numbered a ≡ is_numbered b
numbered_same a b h = sym (numbered_bare a) ∙ ap is_numbered h ∙ numbered_bare b

-- ---- lists

after_same : {A : Type 0} (f : A → List ℕ) (strip : A → A) → ((a : A) → f (strip a) ≡ f a) → (xs : List A) → after_commas f (map strip xs) ≡ after_commas f xs
after_same f strip h [] = refl
after_same f strip h (a ∷ xs) = let e = h a in let k = after_same f strip h xs in rw (e, k) refl

commas_same : {A : Type 0} (f : A → List ℕ) (strip : A → A) → ((a : A) → f (strip a) ≡ f a) → (xs : List A) → with_commas f (map strip xs) ≡ with_commas f xs
commas_same f strip h [] = refl
commas_same f strip h (a ∷ xs) = let e = h a in let k = after_same f strip h xs in rw (e, k) refl

order_same : {A : Type 0} (f : A → List ℕ) (strip : A → A) → ((a : A) → f (strip a) ≡ f a) → (xs : List A) → in_order f (map strip xs) ≡ in_order f xs
order_same f strip h [] = refl
order_same f strip h (a ∷ xs) = let e = h a in let k = order_same f strip h xs in rw (e, k) refl

-- ---- sets, types and signatures

atom_same : (a : AtomUse) → atom_text (bare_atom a) ≡ atom_text a
atom_same a = ap (λ (t : List ℕ). t ++ a.member.text) (go a.owner)
  where
    go : (o : Option Name) → owner_text (maybe bare_name o) ≡ owner_text o
    go None = refl
    go (Some o) = refl

set_same : (s : List AtomUse) → set_text (bare_set s) ≡ set_text s
set_same s = ap (λ (t : List ℕ). codes "{" ++ t ++ codes "}") (commas_same atom_text bare_atom atom_same s)

member_set_same : (m : MemberSet) → member_set_text (bare_member_set m) ≡ member_set_text m
member_set_same m = ap (λ (t : List ℕ). m.name.text ++ codes " = " ++ t) (set_same m.effect)

type_same : (t : TypeUse) → type_text (bare_type t) ≡ type_text t
type_same (types.Int p) = refl
type_same (types.Bool p) = refl
type_same (types.Text p) = refl
type_same (types.Unit p) = refl
type_same (types.Bare n) = refl
type_same (types.With n ms) = ap (λ (t : List ℕ). n.text ++ codes "[" ++ t ++ codes "]") (commas_same member_set_text bare_member_set member_set_same ms)
type_same (types.At n s) = ap (λ (t : List ℕ). n.text ++ codes " at " ++ t) (set_same s)

param_same : (x : Param) → param_text (bare_param x) ≡ param_text x
param_same x = ap (λ (t : List ℕ). x.name.text ++ codes ": " ++ t) (type_same x.type_use)

effect_same : (e : Option (List AtomUse)) → effect_text (maybe bare_set e) ≡ effect_text e
effect_same None = refl
effect_same (Some s) = ap (λ (t : List ℕ). t ++ codes " ") (set_same s)

signature_same : (s : Signature) → signature_text (bare_signature s) ≡ signature_text s
signature_same s =
    ap (λ (t : List ℕ). codes "def " ++ s.name.text ++ codes "(" ++ t ++ codes "): " ++ effect_text (maybe bare_set s.effect) ++ type_text (bare_type s.result)) (commas_same param_text bare_param param_same s.params)
    ∙ ap (λ (t : List ℕ). codes "def " ++ s.name.text ++ codes "(" ++ with_commas param_text s.params ++ codes "): " ++ t ++ type_text (bare_type s.result)) (effect_same s.effect)
    ∙ ap (λ (t : List ℕ). codes "def " ++ s.name.text ++ codes "(" ++ with_commas param_text s.params ++ codes "): " ++ effect_text s.effect ++ t) (type_same s.result)

-- ---- expressions

-- an expression at a place, from the same expression without places
placed_same : (k : ℕ) (e : ExprTree) → expr_text (bare_expr e) ≡ expr_text e → placed k (level_of (bare_expr e)) (expr_text (bare_expr e)) ≡ placed k (level_of e) (expr_text e)
placed_same k e h = ap (λ (l : ℕ). placed k l (expr_text (bare_expr e))) (level_bare e) ∙ ap (placed k (level_of e)) h

enclosed_same : (e : ExprTree) → expr_text (bare_expr e) ≡ expr_text e →
    enclosed (not (nat_le 6 (level_of (bare_expr e)) && not (is_numbered (bare_expr e)))) (expr_text (bare_expr e)) ≡ enclosed (not (nat_le 6 (level_of e) && not (is_numbered e))) (expr_text e)
enclosed_same e h =
    ap (λ (l : ℕ). enclosed (not (nat_le 6 l && not (is_numbered (bare_expr e)))) (expr_text (bare_expr e))) (level_bare e)
    ∙ ap (λ (b : Bool). enclosed (not (nat_le 6 (level_of e) && not b)) (expr_text (bare_expr e))) (numbered_bare e)
    ∙ ap (enclosed (not (nat_le 6 (level_of e) && not (is_numbered e)))) h

mutual
  expr_same : (e : ExprTree) → expr_text (bare_expr e) ≡ expr_text e
  expr_same (number v p) = refl
  expr_same (text s p) = refl
  expr_same (yes p) = refl
  expr_same (no p) = refl
  expr_same (this p) = refl
  expr_same (name n) = refl
  expr_same (unit p) = refl
  expr_same (negate e p) = ap (λ (t : List ℕ). codes "-" ++ t) (enclosed_same e (expr_same e))
  expr_same (invert e p) = ap (λ (t : List ℕ). codes "!" ++ t) (placed_same 6 e (expr_same e))
  expr_same (binary o a b p) =
      ap (λ (t : List ℕ). t ++ codes " " ++ spelling_of (symbol_of o) ++ codes " " ++ placed (right_level_of o) (level_of (bare_expr b)) (expr_text (bare_expr b))) (placed_same (left_level_of o) a (expr_same a))
      ∙ ap (λ (t : List ℕ). placed (left_level_of o) (level_of a) (expr_text a) ++ codes " " ++ spelling_of (symbol_of o) ++ codes " " ++ t) (placed_same (right_level_of o) b (expr_same b))
  expr_same (call e n es) =
      ap (λ (t : List ℕ). t ++ codes "." ++ n.text ++ codes "(" ++ arguments_text (bare_exprs es) ++ codes ")") (placed_same 7 e (expr_same e))
      ∙ ap (λ (t : List ℕ). placed 7 (level_of e) (expr_text e) ++ codes "." ++ n.text ++ codes "(" ++ t ++ codes ")") (arguments_same es)
  expr_same (size e p) = ap (λ (t : List ℕ). codes "text_size(" ++ t ++ codes ")") (expr_same e)
  expr_same (part e a b p) =
      ap (λ (t : List ℕ). codes "text_part(" ++ t ++ codes ", " ++ expr_text (bare_expr a) ++ codes ", " ++ expr_text (bare_expr b) ++ codes ")") (expr_same e)
      ∙ ap (λ (t : List ℕ). codes "text_part(" ++ expr_text e ++ codes ", " ++ t ++ codes ", " ++ expr_text (bare_expr b) ++ codes ")") (expr_same a)
      ∙ ap (λ (t : List ℕ). codes "text_part(" ++ expr_text e ++ codes ", " ++ expr_text a ++ codes ", " ++ t ++ codes ")") (expr_same b)
  expr_same (byte_at e i p) =
      ap (λ (t : List ℕ). codes "text_code(" ++ t ++ codes ", " ++ expr_text (bare_expr i) ++ codes ")") (expr_same e)
      ∙ ap (λ (t : List ℕ). codes "text_code(" ++ expr_text e ++ codes ", " ++ t ++ codes ")") (expr_same i)
  expr_same (byte e p) = ap (λ (t : List ℕ). codes "text_byte(" ++ t ++ codes ")") (expr_same e)
  expr_same (show e p) = ap (λ (t : List ℕ). codes "text_show(" ++ t ++ codes ")") (expr_same e)
  expr_same (ascribe e t p) =
      ap (λ (u : List ℕ). codes "(" ++ u ++ codes " : " ++ type_text (bare_type t) ++ codes ")") (expr_same e)
      ∙ ap (λ (u : List ℕ). codes "(" ++ expr_text e ++ codes " : " ++ u ++ codes ")") (type_same t)
  expr_same (choice c a b p) =
      ap (λ (t : List ℕ). codes "if " ++ t ++ codes " then " ++ expr_text (bare_expr a) ++ codes " else " ++ expr_text (bare_expr b)) (placed_same 1 c (expr_same c))
      ∙ ap (λ (t : List ℕ). codes "if " ++ placed 1 (level_of c) (expr_text c) ++ codes " then " ++ t ++ codes " else " ++ expr_text (bare_expr b)) (expr_same a)
      ∙ ap (λ (t : List ℕ). codes "if " ++ placed 1 (level_of c) (expr_text c) ++ codes " then " ++ expr_text a ++ codes " else " ++ t) (expr_same b)

  arguments_same : (es : ExprTrees) → arguments_text (bare_exprs es) ≡ arguments_text es
  arguments_same none = refl
  arguments_same (more e es) = ap (λ (t : List ℕ). t ++ more_arguments_text (bare_exprs es)) (expr_same e) ∙ ap (λ (t : List ℕ). expr_text e ++ t) (more_same es)

  more_same : (es : ExprTrees) → more_arguments_text (bare_exprs es) ≡ more_arguments_text es
  more_same none = refl
  more_same (more e es) = ap (λ (t : List ℕ). codes ", " ++ t ++ more_arguments_text (bare_exprs es)) (expr_same e) ∙ ap (λ (t : List ℕ). codes ", " ++ expr_text e ++ t) (more_same es)

-- ---- statements and bodies

written_same : (t : Option TypeUse) → written_type_text (maybe bare_type t) ≡ written_type_text t
written_same None = refl
written_same (Some t) = ap (λ (u : List ℕ). codes ": " ++ u) (type_same t)

mutual
  rhs_same : (n : ℕ) (r : RhsTree) → rhs_text n (bare_rhs r) ≡ rhs_text n r
  rhs_same n (literal p ps) = ap (λ (t : List ℕ). codes "new" ++ newline ++ t) (parts_same (suc n) ps)
  rhs_same n (branch p c a b) =
      ap (λ (t : List ℕ). codes "if " ++ t ++ newline ++ block_text (suc n) (bare_stmts a) ++ indented n ++ codes "else" ++ newline ++ block_text (suc n) (bare_stmts b)) (placed_same 1 c (expr_same c))
      ∙ ap (λ (t : List ℕ). codes "if " ++ placed 1 (level_of c) (expr_text c) ++ newline ++ t ++ indented n ++ codes "else" ++ newline ++ block_text (suc n) (bare_stmts b)) (block_same (suc n) a)
      ∙ ap (λ (t : List ℕ). codes "if " ++ placed 1 (level_of c) (expr_text c) ++ newline ++ block_text (suc n) a ++ indented n ++ codes "else" ++ newline ++ t) (block_same (suc n) b)
  rhs_same n (value e) = ap (λ (t : List ℕ). t ++ newline) (expr_same e)

  stmt_same : (n : ℕ) (s : StmtTree) → stmt_text n (bare_stmt s) ≡ stmt_text n s
  stmt_same n (val x t r) =
      ap (λ (u : List ℕ). codes "val " ++ x.text ++ u ++ codes " = " ++ rhs_text n (bare_rhs r)) (written_same t)
      ∙ ap (λ (u : List ℕ). codes "val " ++ x.text ++ written_type_text t ++ codes " = " ++ u) (rhs_same n r)
  stmt_same n (assign x r) = ap (λ (u : List ℕ). x.text ++ codes " = " ++ u) (rhs_same n r)
  stmt_same n (run r) = rhs_same n r

  block_same : (n : ℕ) (ss : StmtTrees) → block_text n (bare_stmts ss) ≡ block_text n ss
  block_same n no_stmts = refl
  block_same n (more_stmts s ss) = ap (λ (t : List ℕ). indented n ++ t ++ block_text n (bare_stmts ss)) (stmt_same n s) ∙ ap (λ (t : List ℕ). indented n ++ stmt_text n s ++ t) (block_same n ss)

  part_same : (n : ℕ) (p : PartTree) → part_text n (bare_part p) ≡ part_text n p
  part_same n (field k x t r) =
      ap (λ (u : List ℕ). field_text k ++ x.text ++ codes ": " ++ u ++ codes " = " ++ rhs_text n (bare_rhs r)) (type_same t)
      ∙ ap (λ (u : List ℕ). field_text k ++ x.text ++ codes ": " ++ type_text t ++ codes " = " ++ u) (rhs_same n r)
  part_same n (method s b) = ap (λ (t : List ℕ). t ++ tail_text n (bare_tail b)) (signature_same s) ∙ ap (λ (t : List ℕ). signature_text s ++ t) (tail_same n b)

  parts_same : (n : ℕ) (ps : PartTrees) → parts_text n (bare_parts ps) ≡ parts_text n ps
  parts_same n no_parts = refl
  parts_same n (more_parts p ps) = ap (λ (t : List ℕ). indented n ++ t ++ parts_text n (bare_parts ps)) (part_same n p) ∙ ap (λ (t : List ℕ). indented n ++ part_text n p ++ t) (parts_same n ps)

  tail_same : (n : ℕ) (b : TailTree) → tail_text n (bare_tail b) ≡ tail_text n b
  tail_same n (short r) = ap (λ (t : List ℕ). codes " = " ++ t) (rhs_same n r)
  tail_same n (long ss) = ap (λ (t : List ℕ). newline ++ t) (block_same (suc n) ss)

-- ---- items

member_same : (m : Member) → member_text (bare_member m) ≡ member_text m
member_same (members.Abstract n) = refl
member_same (members.Bounded n s) = ap (λ (t : List ℕ). codes "  effect " ++ n.text ++ codes " <= " ++ t ++ newline) (set_same s)
member_same (members.Defined n s) = ap (λ (t : List ℕ). codes "  effect " ++ n.text ++ codes " = " ++ t ++ newline) (set_same s)
member_same (members.Method s) = ap (λ (t : List ℕ). codes "  " ++ t ++ newline) (signature_same s)

names_same : (ns : List Name) → with_commas name_text (map bare_name ns) ≡ with_commas name_text ns
names_same ns = commas_same name_text bare_name (λ n. refl) ns

line_same : (l : Line) → line_text (bare_line l) ≡ line_text l
line_same (lines.Instance x m arguments) = ap (λ (t : List ℕ). codes "  instance " ++ x.text ++ codes " = " ++ m.text ++ codes "(" ++ t ++ codes ")" ++ newline) (names_same arguments)
line_same (lines.Import x m arguments bound) =
    ap (λ (t : List ℕ). codes "  import " ++ x.text ++ codes " = " ++ m.text ++ codes "(" ++ t ++ codes ") at " ++ set_text (bare_set bound) ++ newline) (names_same arguments)
    ∙ ap (λ (t : List ℕ). codes "  import " ++ x.text ++ codes " = " ++ m.text ++ codes "(" ++ with_commas name_text arguments ++ codes ") at " ++ t ++ newline) (set_same bound)

define_same : (d : Define) → define_text (bare_define d) ≡ define_text d
define_same d = ap (λ (t : List ℕ). codes "  effect " ++ d.name.text ++ codes " = " ++ t ++ newline) (set_same d.effect)

init_same : (i : Option Init) → init_text (maybe bare_init i) ≡ init_text i
init_same None = refl
init_same (Some i) = ap (λ (t : List ℕ). codes "  init: " ++ t ++ newline) (set_same i.effect)

uses_same : (ns : List Name) → in_order use_text (map bare_name ns) ≡ in_order use_text ns
uses_same ns = order_same use_text bare_name (λ n. refl) ns

lines_same : (ls : List Line) → in_order line_text (map bare_line ls) ≡ in_order line_text ls
lines_same ls = order_same line_text bare_line line_same ls

inside_same : (i : InsideTree) → inside_text (bare_inside i) ≡ inside_text i
inside_same i =
    let a = uses_same i.uses in let b = lines_same i.lines in let c = order_same define_text bare_define define_same i.defines in let d = init_same i.init in let e = parts_same 1 i.parts in
    rw (a, b, c, d, e) refl

params_same : (ps : List Param) → with_commas param_text (map bare_param ps) ≡ with_commas param_text ps
params_same ps = commas_same param_text bare_param param_same ps

item_same : (i : ItemTree) → item_text (bare_item i) ≡ item_text i
item_same (type_item t) = ap (λ (u : List ℕ). codes "type " ++ t.name.text ++ newline ++ u) (order_same member_text bare_member member_same t.members)
item_same (pure_item p n sealed inside) = ap (λ (t : List ℕ). codes "module " ++ n.text ++ codes ": " ++ sealed.text ++ newline ++ t) (inside_same inside)
item_same (resource_item p n params sealed inside) =
    ap (λ (t : List ℕ). codes "resource module " ++ n.text ++ codes "(" ++ t ++ codes "): " ++ sealed.text ++ newline ++ inside_text (bare_inside inside)) (params_same params)
    ∙ ap (λ (t : List ℕ). codes "resource module " ++ n.text ++ codes "(" ++ with_commas param_text params ++ codes "): " ++ sealed.text ++ newline ++ t) (inside_same inside)
item_same (plain_item p n params sealed parts) =
    ap (λ (t : List ℕ). codes "plain module " ++ n.text ++ codes "(" ++ t ++ codes "): " ++ sealed.text ++ newline ++ parts_text 1 (bare_parts parts)) (params_same params)
    ∙ ap (λ (t : List ℕ). codes "plain module " ++ n.text ++ codes "(" ++ with_commas param_text params ++ codes "): " ++ sealed.text ++ newline ++ t) (parts_same 1 parts)
item_same (program_item p grants uses ls started effect body) =
    let a = order_same grant_text bare_grant (λ g. refl) grants in let b = uses_same uses in let c = lines_same ls in let d = set_same effect in let e = tail_same 1 body in
    rw (a, b, c, d, e) refl

pub forgets : (items : List ItemTree) → canonical_form (unplaced items) ≡ canonical_form items
forgets [] = refl
forgets (i ∷ is) = ap (λ (t : List ℕ). t ++ in_order after_blank (map bare_item is)) (item_same i) ∙ ap (λ (t : List ℕ). item_text i ++ t) (order_same after_blank bare_item (λ j. ap (λ (t : List ℕ). newline ++ t) (item_same j)) is)

pub printed_alike : (a b : List ItemTree) → unplaced a ≡ unplaced b → canonical_form a ≡ canonical_form b
printed_alike a b e = sym (forgets a) ∙ ap canonical_form e ∙ forgets b
