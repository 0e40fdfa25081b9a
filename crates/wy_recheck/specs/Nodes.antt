-- How code reads nodes: annotated and plain reading as one, what is left of the nodes at a place, and what an answer says of what is
-- read (docs/LANGUAGE.md, "Certificates").
use Rattle.std.specs.Prelude.{◌≡◌, ℕ, ◌+◌, List, [], ◌∷◌, Option, Some, None, Result, Ok, Err, Bool as Truth, true, false, length, map, drop, slice_get}
use Rattle.wy_text.specs.declared.fault.Place.{Place}
use Rattle.wy_effects.specs.EffSet.{union}
use Rattle.wy_effects.specs.Widened.{includes, widened_set}
use Rattle.wy_types.specs.declared.types.TypeRef.{TypeRef}
use Rattle.wy_types.specs.declared.types.TypeRef.TheVariants.{Bool, Own}
use Rattle.wy_types.specs.declared.code.Binding.{Binding}
use Rattle.wy_types.specs.declared.code.Stmt.{Stmt}
use Rattle.wy_types.specs.declared.code.UnaryOperator.{UnaryOperator}
use Rattle.wy_types.specs.declared.code.BinaryOperator.{BinaryOperator}
use Rattle.wy_types.specs.declared.code.TextOperator.{TextOperator}
use Rattle.wy_types.specs.Code.{Expr, Value, Values, Block}
use Rattle.wy_types.specs.View.{stmt_block, stmts_block}
use Rattle.wy_types.specs.Program.{Program, Scope, Body, program_of, scope_of}
use Rattle.wy_types.specs.Signature.{find_method}
use Rattle.wy_types.specs.Types.{erased}
use Rattle.wy_types.specs.Bounds.{bounds_of}
use Rattle.wy_types.specs.Core.{IsCore}
use Rattle.wy_types.specs.Vals.{value_count}
use Rattle.wy_rules.specs.Readings.{Reading}
use Rattle.wy_rules.specs.Operators.{unary_rows, binary_rows, text_rows}
use Rattle.wy_rules.specs.Typing.{field_types, var_field, binding_type}
use Rattle.wy_rules.specs.Canonical.{both, same_type, first_row, row_of, first_operand, second_operand, found_type}
use Rattle.wy_cert.specs.declared.certificate.Rule.{Rule}
use Rattle.wy_cert.specs.declared.certificate.Rule.TheVariants as by
use Rattle.wy_cert.specs.declared.certificate.CertNode.{CertNode}
use Rattle.wy_cert.specs.declared.certificate.CertScope.{CertScope}
use Rattle.wy_proving.specs.Certified.{Pair, types_of, annotated_pairs, plain_pairs, has_pair}
use Rattle.wy_proving.specs.OneReading.{reading_at}
use Rattle.wy_proving.specs.Reading.{Lists, Part, part_stands, part_fails, part_then, Parts, parts_stand, parts_fail, parts_then, Bodies, bodies_stand, bodies_fail, block_then, values_then, says_rule, is_below, same_types, is_sub_of, read_subs, read_node, read_name, read_this, read_call, read_set, read_expr, read_value, read_values, read_block, read_val, read_body_node, read_start, read_body, read_bodies, read_scope}
use Rattle.wy_proving.specs.Proving.{ascends, is_empty}
use Rattle.wy_recheck.specs.declared.failure.Failure.{Failure}
use Rattle.wy_recheck.specs.declared.reader.Reader.{Reader}
use Rattle.wy_recheck.specs.declared.reader.Read.{Read}
use Rattle.wy_recheck.specs.declared.reader.Several.{Several}
use Rattle.wy_recheck.specs.declared.forms.Waiting.{Waiting}
use Rattle.wy_recheck.specs.PairSet.{StandsFor}
use Rattle.wy_recheck.specs.Standing.{FailsFirst}

------------------------------------------------------------
-- Annotated and plain reading as one

abbrev pub pairs_in : CertScope → Truth → List Pair
pairs_in c true = plain_pairs c
pairs_in c false = annotated_pairs c

abbrev pub listed_in : CertScope → Truth → TypeRef → TypeRef → Truth
listed_in c true = λ a b. has_pair (plain_pairs c) (erased a) (erased b)
listed_in c false = has_pair (annotated_pairs c)

abbrev pub stands_in : Scope → Truth → List ℕ → Truth
stands_in s true = is_empty
stands_in s false = ascends 0 (length s.atoms)

abbrev pub included_in : Truth → List ℕ → List ℕ → Truth
included_in true = λ e f. true
included_in false = includes

abbrev pub allowed_in : Program → ℕ → Truth → List ℕ → List ℕ → Truth
allowed_in p k true = λ e f. true
allowed_in p k false = λ e f. includes e (widened_set (bounds_of p k) f)

-- what is listed for it
abbrev pub lists_at : Program → ℕ → Scope → CertScope → Truth → Lists TypeRef
lists_at p k s c plain = record { named = slice_get (types_of c); listed = listed_in c plain; stands = stands_in s plain; includes = included_in plain; allows = allowed_in p k plain }

------------------------------------------------------------
-- A reader

abbrev pub reading_of : Reader → Reading
reading_of r = reading_at (program_of r.core.now) r.number r.plain

abbrev pub lists_of : Reader → Lists TypeRef
lists_of r = lists_at (program_of r.core.now) r.number (scope_of r.scope.now) r.part.now r.plain

-- it is one of a scope of a core, and has the types and the pairs that are listed for it
pub record IsReader (r : Reader) : Type 0 where
  pub core : IsCore (program_of r.core.now)
  pub there : slice_get (program_of r.core.now).scopes r.number ≡ Some (scope_of r.scope.now)
  pub types : r.types.now ≡ types_of r.part.now
  pub listed : StandsFor r.listed.now (pairs_in r.part.now r.plain)

-- what is read from the node of a number on
module _ (r : Reader) (at : ℕ) where
  abbrev pub left : List CertNode
  left = drop at r.nodes.now

  abbrev pub subs_read : Place → Read → Part TypeRef
  subs_read q x = read_subs (reading_of r) same_type (lists_of r) q x.typ x.effect at left

  abbrev pub node_read : Truth → Rule → Place → ℕ → TypeRef → List ℕ → Part TypeRef
  node_read holds rule q parts t e = read_node (reading_of r) same_type (lists_of r) holds rule q parts t e at left

  abbrev pub expr_read : Expr → Part TypeRef
  expr_read x = read_expr (reading_of r) same_type (lists_of r) (scope_of r.scope.now) r.locals.now r.owner x at left

  abbrev pub value_read : Value → Part TypeRef
  value_read x = read_value (reading_of r) same_type (lists_of r) (scope_of r.scope.now) r.locals.now r.owner x at left

  abbrev pub values_read : Values → Parts TypeRef
  values_read xs = read_values (reading_of r) same_type (lists_of r) (scope_of r.scope.now) r.locals.now r.owner xs at left

  abbrev pub block_read : Block → Part TypeRef
  block_read b = read_block (reading_of r) same_type (lists_of r) (scope_of r.scope.now) r.locals.now r.owner b at left

  -- a form's own node behind its parts
  abbrev pub this_read : Place → Part TypeRef
  this_read q = read_this (reading_of r) same_type (lists_of r) r.owner q at left

  abbrev pub name_read : Place → Binding → Part TypeRef
  name_read q b = read_name (reading_of r) same_type (lists_of r) (binding_type (reading_of r) (scope_of r.scope.now) r.locals.now r.owner b) q at left

  abbrev pub unary_read : Place → UnaryOperator → Read → Part TypeRef
  unary_read q op x =
      node_read (same_type x.typ (first_operand (reading_of r) (first_row (unary_rows op)).operands)) by.Op q 1 (first_row (unary_rows op)).result (union x.effect [])

  abbrev pub binary_read : Place → BinaryOperator → Read → Read → Part TypeRef
  binary_read q op x z =
      let w = row_of (reading_of r) same_type (binary_rows op) x.typ in
      node_read (both (same_type x.typ (first_operand (reading_of r) w.operands)) (same_type z.typ (second_operand (reading_of r) w.operands))) by.Op q 2 w.result (union x.effect (union z.effect []))

  -- .. whose first operand is read
  abbrev pub second_read : Place → BinaryOperator → Read → Expr → Part TypeRef
  second_read q op x z =
      part_then (expr_read z) (λ t f i rest.
      let w = row_of (reading_of r) same_type (binary_rows op) x.typ in
      read_node (reading_of r) same_type (lists_of r) (both (same_type x.typ (first_operand (reading_of r) w.operands)) (same_type t (second_operand (reading_of r) w.operands))) by.Op q 2 w.result (union x.effect (union f [])) i rest)

  abbrev pub text_read : Place → TextOperator → ℕ → Several → Part TypeRef
  text_read q op n xs =
      node_read (same_types (reading_of r) same_type (lists_of r) xs.types (map (reading_of r).read (first_row (text_rows op)).operands)) by.Op q n (first_row (text_rows op)).result xs.effect

  abbrev pub call_read : Place → List ℕ → ℕ → Read → Several → Part TypeRef
  call_read q name n x xs = read_call (reading_of r) same_type (lists_of r) (find_method name ((reading_of r).methods x.typ)) q n xs.types x.effect xs.effect at left

  -- .. whose receiver is read
  abbrev pub called_read : Place → Read → List ℕ → Values → Part TypeRef
  called_read q x name xs =
      parts_then (values_read xs) (λ ts f i rest. read_call (reading_of r) same_type (lists_of r) (find_method name ((reading_of r).methods x.typ)) q (value_count xs + 1) ts x.effect f i rest)

  abbrev pub new_read : Place → ℕ → ℕ → Several → Part TypeRef
  new_read q l n xs =
      node_read (same_types (reading_of r) same_type (lists_of r) xs.types (map (reading_of r).read (field_types (scope_of r.scope.now) l))) by.New q n (Own l) xs.effect

  abbrev pub ascribed_read : Place → TypeRef → Read → Part TypeRef
  ascribed_read q t x = node_read (same_type x.typ t) by.Asc q 1 t x.effect

  abbrev pub assigned_read : Place → Binding → Read → Part TypeRef
  assigned_read q b x = read_set (reading_of r) same_type (lists_of r) (var_field (scope_of r.scope.now) r.owner b) q x.typ x.effect at left

  abbrev pub chosen_read : Place → Read → Read → Read → Part TypeRef
  chosen_read q test x z = node_read (both (same_type test.typ Bool) (same_type z.typ x.typ)) by.If q 3 x.typ (union test.effect (union x.effect z.effect))

------------------------------------------------------------
-- What an answer says

-- of a part: it stands, and so many nodes were read; or a node fails
abbrev pub IsRead : List CertNode → Part TypeRef → ℕ → Result Read Failure → Type 0
IsRead nodes part at (Ok x) = part ≡ part_stands x.typ x.effect at (drop at nodes)
IsRead nodes part at (Err f) = FailsFirst (λ i. part ≡ part_fails i) f

-- of several parts
abbrev pub AreRead : List CertNode → Parts TypeRef → ℕ → Result Several Failure → Type 0
AreRead nodes parts at (Ok xs) = parts ≡ parts_stand xs.types xs.effect at (drop at nodes)
AreRead nodes parts at (Err f) = FailsFirst (λ i. parts ≡ parts_fail i) f

-- of bodies
abbrev pub BodiesAreRead : {A : Type 0} → List CertNode → Bodies → ℕ → Result A Failure → Type 0
BodiesAreRead nodes bodies at (Ok u) = bodies ≡ bodies_stand at (drop at nodes)
BodiesAreRead nodes bodies at (Err f) = FailsFirst (λ i. bodies ≡ bodies_fail i) f

-- .. of a scope's
abbrev pub ScopeIsRead : {A : Type 0} → Bodies → Result A Failure → Type 0
ScopeIsRead bodies (Ok u) = (at : ℕ) × (bodies ≡ bodies_stand at [])
ScopeIsRead bodies (Err f) = FailsFirst (λ i. bodies ≡ bodies_fail i) f

-- the node that comes next, if there is one, does not say this
abbrev pub NextFails : (CertNode → Truth) → List CertNode → Type 0
NextFails says [] = Unit {0}
NextFails says (n ∷ ns) = says n ≡ false

module _ (nodes : List CertNode) (says : CertNode → Truth) (at : ℕ) where
  -- it says this, and another one comes next
  pub record IsNext (new : ℕ) : Type 0 where
    pub node : CertNode
    pub there : drop at nodes ≡ node ∷ drop new nodes
    pub next : new ≡ at + 1
    pub said : says node ≡ true

  pub record IsNotNext (i : ℕ) : Type 0 where
    pub place : i ≡ at
    pub fails : NextFails says (drop at nodes)

  abbrev pub IsPassed : {A : Type 0} → ℕ → Result A Failure → Type 0
  IsPassed new (Ok u) = IsNext new
  IsPassed new (Err f) = FailsFirst IsNotNext f

-- a set that stands, or not
abbrev pub SetStands : (List ℕ → Truth) → List ℕ → Option (List ℕ) → Type 0
SetStands stands e None = stands e ≡ false
SetStands stands e (Some f) = (stands e ≡ true) × (f ≡ e)

-- the type and the effect that a T-Sub over a part gives, if the node may be one by these
abbrev pub IsSubType : Reader → Place → TypeRef → CertNode → Option TypeRef → Type 0
IsSubType r q t n None = both (says_rule by.Sub q 1 n) (is_below (reading_of r) same_type (lists_of r) t ((lists_of r).named n.typ)) ≡ false
IsSubType r q t n (Some u) = (both (says_rule by.Sub q 1 n) (is_below (reading_of r) same_type (lists_of r) t ((lists_of r).named n.typ)) ≡ true) × ((lists_of r).named n.typ ≡ Some u)

abbrev pub IsSubEffect : Reader → List ℕ → CertNode → Option (List ℕ) → Type 0
IsSubEffect r e n None = both ((lists_of r).stands n.effect) ((lists_of r).includes e n.effect) ≡ false
IsSubEffect r e n (Some f) = (both ((lists_of r).stands n.effect) ((lists_of r).includes e n.effect) ≡ true) × (f ≡ n.effect)

-- the part that a T-Sub over one gives, if the node is one
abbrev pub IsSubOf : Reader → Place → Read → CertNode → Option Read → Type 0
IsSubOf r q x n None = is_sub_of (reading_of r) same_type (lists_of r) q x.typ x.effect n ≡ false
IsSubOf r q x n (Some z) =
    (is_sub_of (reading_of r) same_type (lists_of r) q x.typ x.effect n ≡ true) × (z.typ ≡ found_type (reading_of r) ((lists_of r).named n.typ)) × (z.effect ≡ n.effect)

-- of a `val` behind its initialiser: what comes after its node, and the T-Seq that waits
abbrev pub val_read : Reader → ℕ → Truth → Place → Read → (ℕ → List CertNode → Part TypeRef) → Part TypeRef
val_read r at holds q x f = read_val (reading_of r) same_type (lists_of r) holds q x.effect at (left r at) f

abbrev pub IsVal : Reader → ℕ → ℕ → Truth → Place → Read → Result Waiting Failure → Type 0
IsVal r at new holds q x (Ok w) = ((f : ℕ → List CertNode → Part TypeRef) → val_read r at holds q x f ≡ f new (left r new)) × (w ≡ record { holds = true; place = q; effect = x.effect })
IsVal r at new holds q x (Err e) = FailsFirst (λ i. (f : ℕ → List CertNode → Part TypeRef) → val_read r at holds q x f ≡ part_fails i) e

------------------------------------------------------------
-- Bodies

module _ (r : Reader) (at : ℕ) where
  -- the node of a body
  abbrev pub body_node_read : Truth → List ℕ → List ℕ → Place → ℕ → Bodies
  body_node_read holds e declared q parts = read_body_node (both holds ((lists_of r).allows e declared)) q parts at (left r at)

  -- a block at a type and within an effect, and the initialisers of the scope's fields, each with the node of its body
  abbrev pub block_body_read : Place → Block → TypeRef → List ℕ → Bodies
  block_body_read q b t declared = block_then (block_read r at b) (λ u e i rest. read_body_node (both (same_type u t) ((lists_of r).allows e declared)) q 1 i rest)

  abbrev pub fields_read : Values → Bodies
  fields_read xs =
      values_then (values_read r at xs) (λ ts e i rest.
      read_body_node (both (same_types (reading_of r) same_type (lists_of r) ts (map (reading_of r).read (field_types (scope_of r.scope.now) 0))) ((lists_of r).allows e (scope_of r.scope.now).start_effect)) (scope_of r.scope.now).start_place (value_count xs) i rest)

  -- what the scope does at its start, a body, and bodies in their order
  abbrev pub start_read : Bodies
  start_read = read_start (reading_of r) same_type (lists_of r) (scope_of r.scope.now) r.locals.now (scope_of r.scope.now).start at (left r at)

  abbrev pub body_read : Body → Bodies
  body_read b = read_body (reading_of r) same_type (lists_of r) (scope_of r.scope.now) r.locals.now b at (left r at)

  abbrev pub bodies_read : List Body → Bodies
  bodies_read bs = read_bodies (reading_of r) same_type (lists_of r) (scope_of r.scope.now) r.locals.now bs at (left r at)

-- all nodes of the scope
abbrev pub scope_read : Reader → Bodies
scope_read r = read_scope (reading_of r) same_type (lists_of r) (scope_of r.scope.now) r.locals.now r.nodes.now

------------------------------------------------------------
-- Statements, whose nodes of T-Seq come behind the rest of the block

module _ (r : Reader) where
  -- a T-Seq that waits, behind a rest that stands
  abbrev pub closed : Waiting → TypeRef → List ℕ → ℕ → List CertNode → Part TypeRef
  closed w t f at ns = read_node (reading_of r) same_type (lists_of r) w.holds by.Seq w.place 2 t (union w.effect f) at ns

  -- .. several, the last one first
  abbrev pub closing : List Waiting → Part TypeRef → Part TypeRef
  closing [] part = part
  closing (w ∷ ws) part = part_then (closing ws part) (closed w)

  abbrev pub IsStatement : ℕ → ℕ → Stmt → Result Waiting Failure → Type 0
  IsStatement at new x (Ok w) = (rest : Block) → block_read r at (stmt_block x rest) ≡ part_then (block_read r new rest) (closed w)
  IsStatement at new x (Err f) = FailsFirst (λ i. (rest : Block) → block_read r at (stmt_block x rest) ≡ part_fails i) f

  abbrev pub AreStatements : ℕ → ℕ → List Stmt → Result (List Waiting) Failure → Type 0
  AreStatements at new xs (Ok ws) = (rest : Block) → block_read r at (stmts_block xs rest) ≡ closing ws (block_read r new rest)
  AreStatements at new xs (Err f) = FailsFirst (λ i. (rest : Block) → block_read r at (stmts_block xs rest) ≡ part_fails i) f
