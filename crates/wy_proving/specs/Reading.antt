-- Reading a scope's nodes: each is held against the form that comes next, with the types and effects of its parts, and a T-Sub may
-- stand after any part. Reading ends at the first node that fails. And which nodes are those of derivations.
use Rattle.std.specs.Prelude.{◌≡◌, ℕ, ◌+◌, List, [], ◌∷◌, ◌↔◌, Option, Some, None, Bool as Truth, true, false, map, slice_get, nat_eq, if◌then◌else◌}
use Rattle.wy_text.specs.declared.fault.Place.{Place}
use Rattle.wy_effects.specs.EffSet.{union}
use Rattle.wy_text.specs.Members.{Within}
use Rattle.wy_effects.specs.Bounds.{IsWithin}
use Rattle.wy_types.specs.declared.types.TypeRef.{TypeRef}
use Rattle.wy_types.specs.declared.types.TypeRef.TheVariants.{Int, Bool, Text, Unit as Nothing, Own}
use Rattle.wy_types.specs.declared.resolved.Field.{Field}
use Rattle.wy_types.specs.Code.{Expr, Number, Quoted, Truth as TruthOf, Nothing as NothingOf, This, Name, Unary, Binary, TextCall, Call, New, Ascribe, Assign, Value, Plain, If, Values, none, more, Block, Last, Then, Val}
use Rattle.wy_types.specs.Program.{Program, Scope, Body, Start, Init, Run}
use Rattle.wy_types.specs.Signature.{Signature, find_method}
use Rattle.wy_types.specs.Bounds.{bounds_of}
use Rattle.wy_types.specs.Vals.{value_count}
use Rattle.wy_types.specs.Subtyping.{IsAnnotatedSubtype, IsPlainSubtype}
use Rattle.wy_rules.specs.Readings.{Reading, annotated_reading, plain_reading}
use Rattle.wy_rules.specs.Operators.{unary_rows, binary_rows, text_rows}
use Rattle.wy_rules.specs.Derivations.{ScopeDerivation, mark}
use Rattle.wy_rules.specs.Typing.{field_types, var_field, binding_type, DerivesScope}
use Rattle.wy_rules.specs.Canonical.{same_type, both, same_numbers, first_row, row_of, first_operand, second_operand, found_type}
use Rattle.wy_cert.specs.declared.certificate.Rule.{Rule}
use Rattle.wy_cert.specs.declared.certificate.Rule.TheVariants as by
use Rattle.wy_cert.specs.declared.certificate.CertNode.{CertNode}
use Rattle.wy_cert.specs.Spelled.{rule_byte}
use Rattle.wy_proving.specs.Steps.{Step, scope_steps}

-- what a certificate lists for a scope: the type of a number, the pairs that are listed, which sets can stand, which a T-Sub may
-- give for another, and which a declared effect allows
pub record Lists (K : Type 0) : Type 0 where
  pub named : ℕ → Option K
  pub listed : K → K → Truth
  pub stands : List ℕ → Truth
  pub includes : List ℕ → List ℕ → Truth
  pub allows : List ℕ → List ℕ → Truth

-- a part stands with its type and effect, and the node of a number comes next, the first of those that are left; or the node of a number fails
pub data Part (K : Type 0) : Type 0 where
  part_stands : (typ : K) (effect : List ℕ) (at : ℕ) (rest : List CertNode) → Part K
  part_fails : (at : ℕ) → Part K

-- .. of several parts in their order, with the effect of all
pub data Parts (K : Type 0) : Type 0 where
  parts_stand : (types : List K) (effect : List ℕ) (at : ℕ) (rest : List CertNode) → Parts K
  parts_fail : (at : ℕ) → Parts K

-- .. of bodies
pub data Bodies : Type 0 where
  bodies_stand : (at : ℕ) (rest : List CertNode) → Bodies
  bodies_fail : (at : ℕ) → Bodies

-- what comes after a part that stands
abbrev pub part_then : {K L : Type 0} → Part K → (K → List ℕ → ℕ → List CertNode → Part L) → Part L
part_then (part_stands t e at ns) f = f t e at ns
part_then (part_fails at) f = part_fails at

-- .. after several
abbrev pub parts_then : {K L : Type 0} → Parts K → (List K → List ℕ → ℕ → List CertNode → Part L) → Part L
parts_then (parts_stand ts e at ns) f = f ts e at ns
parts_then (parts_fail at) f = part_fails at

-- .. several after one
abbrev pub more_parts : {K : Type 0} → Part K → (K → List ℕ → ℕ → List CertNode → Parts K) → Parts K
more_parts (part_stands t e at ns) f = f t e at ns
more_parts (part_fails at) f = parts_fail at

-- .. bodies after others
abbrev pub bodies_then : Bodies → (ℕ → List CertNode → Bodies) → Bodies
bodies_then (bodies_stand at rest) f = f at rest
bodies_then (bodies_fail at) f = bodies_fail at

-- .. after a body's block
abbrev pub block_then : {K : Type 0} → Part K → (K → List ℕ → ℕ → List CertNode → Bodies) → Bodies
block_then (part_stands t e at rest) f = f t e at rest
block_then (part_fails at) f = bodies_fail at

-- .. after the initialisers of fields
abbrev pub values_then : {K : Type 0} → Parts K → (List K → List ℕ → ℕ → List CertNode → Bodies) → Bodies
values_then (parts_stand ts e at rest) f = f ts e at rest
values_then (parts_fail at) f = bodies_fail at

-- a part before other ones
abbrev pub with_part : {K : Type 0} → K → List ℕ → Parts K → Parts K
with_part t e (parts_stand ts f at ns) = parts_stand (t ∷ ts) (union e f) at ns
with_part t e (parts_fail at) = parts_fail at

-- no node may follow the last body
abbrev pub at_end : Bodies → Bodies
at_end (bodies_stand at []) = bodies_stand at []
at_end (bodies_stand at (n ∷ rest)) = bodies_fail at
at_end (bodies_fail at) = bodies_fail at

-- a node says this rule, at this place, with so many parts
abbrev pub says_rule : Rule → Place → ℕ → CertNode → Truth
says_rule rule place parts n =
    both (nat_eq (rule_byte n.rule) (rule_byte rule)) (both (nat_eq n.file place.file) (both (nat_eq n.line place.line) (both (nat_eq n.column place.column) (nat_eq n.parts parts))))

-- a node says T-Sub
abbrev pub says_sub : CertNode → Truth
says_sub n = nat_eq (rule_byte n.rule) (rule_byte by.Sub)

-- .. with no type, and this effect
abbrev pub says_untyped : Rule → Place → ℕ → List ℕ → CertNode → Truth
says_untyped rule place parts e n = both (says_rule rule place parts n) (both (nat_eq n.typ 0) (same_numbers n.effect e))

-- a value is no `if`
abbrev pub is_expression : Value → Truth
is_expression (Plain x) = true
is_expression (If q test first second) = false

module _ (y : Reading) (same : y.Kind → y.Kind → Truth) (c : Lists y.Kind) where
  -- there is this type
  abbrev pub is_found : Option y.Kind → y.Kind → Truth
  is_found None t = false
  is_found (Some u) t = same u t

  -- the same types in the same order
  abbrev pub same_types : List y.Kind → List y.Kind → Truth
  same_types [] [] = true
  same_types (a ∷ xs) (b ∷ zs) = both (same a b) (same_types xs zs)
  same_types xs zs = false

  -- a node says this rule with this type and effect
  abbrev pub says_typed : Rule → Place → ℕ → y.Kind → List ℕ → CertNode → Truth
  says_typed rule place parts t e n = both (says_rule rule place parts n) (both (is_found (c.named n.typ) t) (same_numbers n.effect e))

  -- the type is below one that is there
  abbrev pub is_below : y.Kind → Option y.Kind → Truth
  is_below t None = false
  is_below t (Some u) = c.listed t u

  -- a node is a T-Sub over a part of this type and effect
  abbrev pub is_sub_of : Place → y.Kind → List ℕ → CertNode → Truth
  is_sub_of place t e n = both (says_rule by.Sub place 1 n) (both (is_below t (c.named n.typ)) (both (c.stands n.effect) (c.includes e n.effect)))

  -- the T-Subs that follow a part
  abbrev pub read_subs : Place → y.Kind → List ℕ → ℕ → List CertNode → Part y.Kind
  read_subs place t e at [] = part_stands t e at []
  read_subs place t e at (n ∷ ns) =
      if says_sub n then (if is_sub_of place t e n then read_subs place (found_type y (c.named n.typ)) n.effect (at + 1) ns else part_fails at) else part_stands t e at (n ∷ ns)

  -- the node of a form whose premises hold or not, with its type and effect
  abbrev pub read_node : Truth → Rule → Place → ℕ → y.Kind → List ℕ → ℕ → List CertNode → Part y.Kind
  read_node holds rule place parts t e at [] = part_fails at
  read_node holds rule place parts t e at (n ∷ ns) = if both holds (says_typed rule place parts t e n) then read_subs place t e (at + 1) ns else part_fails at

  -- the node of a `val` after its initialiser, before what is read of the rest
  abbrev pub read_val : Truth → Place → List ℕ → ℕ → List CertNode → (ℕ → List CertNode → Part y.Kind) → Part y.Kind
  read_val holds place e at [] f = part_fails at
  read_val holds place e at (n ∷ ns) f = if both holds (says_untyped by.Val place 1 e n) then f (at + 1) ns else part_fails at

  -- .. of a name that has a type
  abbrev pub read_name : Option y.Kind → Place → ℕ → List CertNode → Part y.Kind
  read_name None place at ns = part_fails at
  read_name (Some t) place at ns = read_node true by.Var place 0 t [] at ns

  -- .. of the current object
  abbrev pub read_this : Option ℕ → Place → ℕ → List CertNode → Part y.Kind
  read_this None place at ns = part_fails at
  read_this (Some l) place at ns = read_node true by.This place 0 (y.read (Own l)) [] at ns

  -- .. of a call of a method that there is
  abbrev pub read_call : Option (Signature y.Kind) → Place → ℕ → List y.Kind → List ℕ → List ℕ → ℕ → List CertNode → Part y.Kind
  read_call None place parts ts e f at ns = part_fails at
  read_call (Some m) place parts ts e f at ns = read_node (same_types ts m.params) by.Call place parts m.result (union e (union f m.effect)) at ns

  -- .. of an assignment to a `var` field
  abbrev pub read_set : Option Field → Place → y.Kind → List ℕ → ℕ → List CertNode → Part y.Kind
  read_set None place k e at ns = part_fails at
  read_set (Some v) place k e at ns = read_node (same k (y.read v.typ)) by.Set place 1 (y.read Nothing) e at ns

  -- a `val`'s type is its initialiser's and the written one; without that the initialiser is no `if`
  abbrev pub val_holds : Option y.Kind → Option TypeRef → Value → y.Kind → Truth
  val_holds o None x k = both (is_found o k) (is_expression x)
  val_holds o (Some u) x k = both (is_found o k) (same k (y.read u))

  module _ (s : Scope) (locals : List y.Kind) (owner : Option ℕ) where
    abbrev mutual
      -- an expression: its parts in the order of evaluation, and its own node
      pub read_expr : Expr → ℕ → List CertNode → Part y.Kind
      read_expr (Number q n) at ns = read_node true by.Lit q 0 (y.read Int) [] at ns
      read_expr (Quoted q bytes) at ns = read_node true by.Lit q 0 (y.read Text) [] at ns
      read_expr (TruthOf q b) at ns = read_node true by.Lit q 0 (y.read Bool) [] at ns
      read_expr (NothingOf q) at ns = read_node true by.Lit q 0 (y.read Nothing) [] at ns
      read_expr (This q) at ns = read_this owner q at ns
      read_expr (Name q name) at ns = read_name (binding_type y s locals owner name) q at ns
      read_expr (Unary q op x) at ns =
          part_then (read_expr x at ns) (λ k e i rest. read_node (same k (first_operand y (first_row (unary_rows op)).operands)) by.Op q 1 (y.read (first_row (unary_rows op)).result) (union e []) i rest)
      read_expr (Binary q op x z) at ns =
          part_then (read_expr x at ns) (λ k e i rest. part_then (read_expr z i rest) (λ l f j last.
          let r = row_of y same (binary_rows op) k in
          read_node (both (same k (first_operand y r.operands)) (same l (second_operand y r.operands))) by.Op q 2 (y.read r.result) (union e (union f [])) j last))
      read_expr (TextCall q op xs) at ns =
          parts_then (read_values xs at ns) (λ ts e i rest. read_node (same_types ts (map y.read (first_row (text_rows op)).operands)) by.Op q (value_count xs) (y.read (first_row (text_rows op)).result) e i rest)
      read_expr (Call q x name xs) at ns =
          part_then (read_expr x at ns) (λ k e i rest. parts_then (read_values xs i rest) (λ ts f j last. read_call (find_method name (y.methods k)) q (value_count xs + 1) ts e f j last))
      read_expr (New q l xs) at ns =
          parts_then (read_values xs at ns) (λ ts e i rest. read_node (same_types ts (map y.read (field_types s l))) by.New q (value_count xs) (y.read (Own l)) e i rest)
      read_expr (Ascribe q x t) at ns = part_then (read_value x at ns) (λ k e i rest. read_node (same k (y.read t)) by.Asc q 1 (y.read t) e i rest)
      read_expr (Assign q name x) at ns = part_then (read_value x at ns) (λ k e i rest. read_set (var_field s owner name) q k e i rest)

      -- .. a value, of which an `if` has branches of one type
      pub read_value : Value → ℕ → List CertNode → Part y.Kind
      read_value (Plain x) at ns = read_expr x at ns
      read_value (If q test first second) at ns =
          part_then (read_expr test at ns) (λ k e i rest. part_then (read_block first i rest) (λ t f j others. part_then (read_block second j others) (λ u g l last.
          read_node (both (same k (y.read Bool)) (same u t)) by.If q 3 t (union e (union f g)) l last)))

      -- .. values, one after the other
      pub read_values : Values → ℕ → List CertNode → Parts y.Kind
      read_values none at ns = parts_stand [] [] at ns
      read_values (more x xs) at ns = more_parts (read_value x at ns) (λ t e i rest. with_part t e (read_values xs i rest))

      -- .. a block: the node of T-Seq stands after the statement and the rest
      pub read_block : Block → ℕ → List CertNode → Part y.Kind
      read_block (Last x) at ns = read_value x at ns
      read_block (Then x b) at ns =
          part_then (read_value x at ns) (λ k e i rest. part_then (read_block b i rest) (λ t f j last. read_node (same k (y.read Nothing)) by.Seq (mark x) 2 t (union e f) j last))
      read_block (Val q n typ x b) at ns =
          part_then (read_value x at ns) (λ k e i rest. read_val (val_holds (slice_get locals n) typ x k) q e i rest
          (λ j others. part_then (read_block b j others) (λ t f l last. read_node true by.Seq q 2 t (union e f) l last)))

-- the node of a body whose premises hold or not
abbrev pub read_body_node : Truth → Place → ℕ → ℕ → List CertNode → Bodies
read_body_node holds place parts at [] = bodies_fail at
read_body_node holds place parts at (n ∷ ns) = if both holds (says_untyped by.Body place parts [] n) then bodies_stand (at + 1) ns else bodies_fail at

module _ (y : Reading) (same : y.Kind → y.Kind → Truth) (c : Lists y.Kind) (s : Scope) (locals : List y.Kind) where
  -- what the scope does at its start
  abbrev pub read_start : Start → ℕ → List CertNode → Bodies
  read_start (Init values) at ns =
      values_then (read_values y same c s locals None values at ns) (λ ts e i rest.
      read_body_node (both (same_types y same c ts (map y.read (field_types s 0))) (c.allows e (y.effect s.start_effect))) s.start_place (value_count values) i rest)
  read_start (Run block) at ns =
      block_then (read_block y same c s locals None block at ns) (λ t e i rest. read_body_node (both (same t (y.read Nothing)) (c.allows e (y.effect s.start_effect))) s.start_place 1 i rest)

  -- a method's body, at its result type and within its effect
  abbrev pub read_body : Body → ℕ → List CertNode → Bodies
  read_body b at ns =
      block_then (read_block y same c s locals (Some b.owner) b.block at ns) (λ t e i rest.
      read_body_node (both (same t (y.read b.signature.result)) (c.allows e (y.effect b.signature.effect))) b.place 1 i rest)

  -- bodies in their order
  abbrev pub read_bodies : List Body → ℕ → List CertNode → Bodies
  read_bodies [] at ns = bodies_stand at ns
  read_bodies (b ∷ bs) at ns = bodies_then (read_body b at ns) (λ i rest. read_bodies bs i rest)

  -- the nodes of a scope, from the first on: those of its start, of its bodies in their order, and no more
  abbrev pub read_scope : List CertNode → Bodies
  read_scope ns = at_end (bodies_then (read_start s.start 0 ns) (λ i rest. read_bodies s.bodies i rest))

  -- the nodes are those of the scope, and no more
  abbrev pub AreReadToEnd : List CertNode → Type 0
  AreReadToEnd ns = (at : ℕ) × (read_scope ns ≡ bodies_stand at [])

------------------------------------------------------------
-- The nodes of derivations

module _ {K : Type 0} (c : Lists K) where
  -- a number names the type of a step, and is 0 where that has none
  abbrev pub SaysType : ℕ → Option K → Type 0
  SaysType n None = nat_eq n 0 ≡ true
  SaysType n (Some t) = c.named n ≡ Some t

  -- a node says a step; a T-Sub has its pair, and a set that can stand
  pub record SaysStep (n : CertNode) (st : Step K) : Type 0 where
    pub rule : says_rule st.rule st.place st.parts n ≡ true
    pub typ : SaysType n.typ st.typ
    pub effect : n.effect ≡ st.effect
    pub pair : (a b : K) → st.below ≡ Some a → st.typ ≡ Some b → c.listed a b ≡ true
    pub stands : (a : K) → st.below ≡ Some a → c.stands st.effect ≡ true

  -- the nodes say these steps, and then there is the rest
  abbrev pub SaySteps : List CertNode → List (Step K) → List CertNode → Type 0
  SaySteps ns [] rest = ns ≡ rest
  SaySteps [] (st ∷ sts) rest = ⊥
  SaySteps (n ∷ ns) (st ∷ sts) rest = SaysStep n st × SaySteps ns sts rest

-- the nodes are those of derivations of the scope's bodies over these types of its `val`s
abbrev pub AreDerived : (y : Reading) → Lists y.Kind → Scope → List y.Kind → List CertNode → Type 0
AreDerived y c s locals ns = (d : ScopeDerivation y.Kind) × (d.locals ≡ locals) × DerivesScope y s d × SaySteps c ns (scope_steps y s d) []

------------------------------------------------------------
-- Laws

-- the nodes of an annotated scope are read to the end exactly where they are those of derivations, over any lists in which each pair is a
-- subtyping and sets are compared as the rules do
abbrev pub AnnotatedNodesAreRead : Type 0
AnnotatedNodesAreRead =
    (p : Program) (k : ℕ) (s : Scope) (locals : List TypeRef) (c : Lists TypeRef) → ((a b : TypeRef) → c.listed a b ≡ true → IsAnnotatedSubtype p k a b) →
    ((e f : List ℕ) → (c.includes e f ≡ true) ↔ Within e f) → ((e f : List ℕ) → (c.allows e f ≡ true) ↔ IsWithin (bounds_of p k) e f) → (ns : List CertNode) →
    AreReadToEnd (annotated_reading p k) same_type c s locals ns ↔ AreDerived (annotated_reading p k) c s locals ns

-- .. of a plain module, where no set is looked at
abbrev pub PlainNodesAreRead : Type 0
PlainNodesAreRead =
    (p : Program) (k : ℕ) (s : Scope) (locals : List TypeRef) (c : Lists TypeRef) → ((a b : TypeRef) → c.listed a b ≡ true → IsPlainSubtype p k a b) →
    ((e f : List ℕ) → c.includes e f ≡ true) → ((e f : List ℕ) → c.allows e f ≡ true) → (ns : List CertNode) →
    AreReadToEnd (plain_reading p k) same_type c s locals ns ↔ AreDerived (plain_reading p k) c s locals ns
