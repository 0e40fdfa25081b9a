-- The canonical derivation of a body: what is written for each form over the types of the `val`s. Each part stands at the type that its own rule
-- gives, and T-Sub only where the node above asks for another type (docs/LANGUAGE.md, "Typing of bodies").
use Rattle.std.specs.Prelude.{◌≡◌, ◌↔◌, ℕ, zero, suc, List, [], ◌∷◌, Option, Some, None, Bool as Truth, true, false, map, slice_get, nat_eq}
use Rattle.wy_text.specs.declared.fault.Place.{Place}
use Rattle.wy_text.specs.Members.{In}
use Rattle.wy_effects.specs.EffSet.{union}
use Rattle.wy_types.specs.declared.types.TypeRef.{TypeRef}
use Rattle.wy_types.specs.declared.types.TypeRef.TheVariants.{Int, Bool, Text, Unit as Nothing, Named, At, Own}
use Rattle.wy_types.specs.declared.resolved.Field.{Field}
use Rattle.wy_types.specs.Code.{Expr, Number, Quoted, Truth as TruthOf, Nothing as NothingOf, This, Name, Unary, Binary, TextCall, Call, New, Ascribe, Assign, Value, Plain, If, Values, none, more, Block, Last, Then, Val}
use Rattle.wy_types.specs.Program.{Program, Scope, Body, Start, Init, Run}
use Rattle.wy_types.specs.Types.{is_plain}
use Rattle.wy_types.specs.Core.{ScopeFits, IsCore}
use Rattle.wy_types.specs.Vals.{scope_vals}
use Rattle.wy_types.specs.Signature.{Signature, find_method}
use Rattle.wy_rules.specs.Readings.{Reading, IsBelow}
use Rattle.wy_rules.specs.Operators.{Row, row, unary_rows, binary_rows, text_rows}
use Rattle.wy_rules.specs.Derivations.{Derivation, T-Lit, T-Var, T-This, T-Call, T-New, T-If, T-Set, T-Op, T-Asc, T-Sub, Derivations, none as no_derivations, more as one_more, BlockDerivation, Result, T-Seq, T-Val, Block-Sub, BodyDerivation, T-Body, T-Body-Init, ScopeDerivation, effects_of, expr_mark, mark, block_mark}
use Rattle.wy_rules.specs.Typing.{field_types, var_field, binding_type, DerivesScope, ScopeHolds}
use Rattle.wy_rules.specs.Acceptance.{reading_of, scope_reading}
use Rattle.wy_rules.specs.Nodes.{scope_nodes}
use Rattle.wy_rules.specs.Failing.{ValSettles, AllPass}
use Rattle.wy_rules.specs.EachVal.{EachVal}

-- a derivation with the type and the effect that it gives
pub record Typed (K : Type 0) : Type 0 where
  pub derivation : Derivation K
  pub typ : K
  pub effect : List ℕ

-- .. of a block
pub record TypedBlock (K : Type 0) : Type 0 where
  pub derivation : BlockDerivation K
  pub typ : K
  pub effect : List ℕ

-- T-Sub over a derivation whose type is not the one that is asked for; its effect is its part's
abbrev pub subsumed_unless : {K : Type 0} → Truth → Place → Typed K → Derivation K
subsumed_unless true place m = m.derivation
subsumed_unless false place m = T-Sub place m.derivation m.typ m.effect

-- .. of a block
abbrev pub block_subsumed_unless : {K : Type 0} → Truth → Place → TypedBlock K → BlockDerivation K
block_subsumed_unless true place m = m.derivation
block_subsumed_unless false place m = Block-Sub place m.derivation m.typ m.effect

-- the list of the types of `val`s, with this type for the one of a number
abbrev pub with_local : {K : Type 0} → ℕ → K → List K → List K
with_local zero k [] = k ∷ []
with_local zero k (u ∷ us) = k ∷ us
with_local (suc n) k [] = k ∷ with_local n k []
with_local (suc n) k (u ∷ us) = u ∷ with_local n k us

-- the first row of an operator, which is its only one unless it is an equality
abbrev pub first_row : List Row → Row
first_row [] = row [] Nothing
first_row (r ∷ rows) = r

-- one row or another
abbrev pub row_or : Truth → Row → Row → Row
row_or true r other = r
row_or false r other = other

------------------------------------------------------------
-- What a premise looks up: where it finds nothing no derivation stands, and `()`'s type or no type is put

module _ (y : Reading) where
  -- the type of what a name stands for, or of a `val`
  abbrev pub found_type : Option y.Kind → y.Kind
  found_type None = y.read Nothing
  found_type (Some k) = k

  -- the type of the current object
  abbrev pub object_type : Option ℕ → y.Kind
  object_type None = y.read Nothing
  object_type (Some l) = y.read (Own l)

  -- the type of a `var` field
  abbrev pub field_type : Option Field → y.Kind
  field_type None = y.read Nothing
  field_type (Some f) = y.read f.typ

  -- the parameters' types, the effect and the result's type of a method
  abbrev pub method_params : Option (Signature y.Kind) → List y.Kind
  method_params None = []
  method_params (Some m) = m.params

  abbrev pub method_effect : Option (Signature y.Kind) → List ℕ
  method_effect None = []
  method_effect (Some m) = m.effect

  abbrev pub method_result : Option (Signature y.Kind) → y.Kind
  method_result None = y.read Nothing
  method_result (Some m) = m.result

  -- the types of a row's first two operands
  abbrev pub first_operand : List TypeRef → y.Kind
  first_operand [] = y.read Nothing
  first_operand (t ∷ ts) = y.read t

  abbrev pub second_operand : List TypeRef → y.Kind
  second_operand [] = y.read Nothing
  second_operand (t ∷ ts) = first_operand ts

------------------------------------------------------------
-- What is written, with a test of types

module _ (y : Reading) (same : y.Kind → y.Kind → Truth) where
  -- the row whose first operand has the type, or else the last one
  abbrev pub row_of : List Row → y.Kind → Row
  row_of [] k = row [] Nothing
  row_of (r ∷ []) k = r
  row_of (r ∷ a ∷ rows) k = row_or (same k (first_operand y r.operands)) r (row_of (a ∷ rows) k)

  -- a derivation at the type that the node above asks for
  abbrev pub at_type : Place → Typed y.Kind → y.Kind → Derivation y.Kind
  at_type place m t = subsumed_unless (same m.typ t) place m

  -- .. of a block
  abbrev pub block_at_type : Place → TypedBlock y.Kind → y.Kind → BlockDerivation y.Kind
  block_at_type place m t = block_subsumed_unless (same m.typ t) place m

  module _ (s : Scope) (locals : List y.Kind) (owner : Option ℕ) where
    abbrev mutual
      -- of an expression, at the type that its rule gives
      pub canonical_expr : Expr → Typed y.Kind
      canonical_expr (Number q n) = record { derivation = T-Lit q; typ = y.read Int; effect = [] }
      canonical_expr (Quoted q bytes) = record { derivation = T-Lit q; typ = y.read Text; effect = [] }
      canonical_expr (TruthOf q b) = record { derivation = T-Lit q; typ = y.read Bool; effect = [] }
      canonical_expr (NothingOf q) = record { derivation = T-Lit q; typ = y.read Nothing; effect = [] }
      canonical_expr (This q) = record { derivation = T-This q; typ = object_type y owner; effect = [] }
      canonical_expr (Name q name) = record { derivation = T-Var q; typ = found_type y (binding_type y s locals owner name); effect = [] }
      canonical_expr (Unary q op x) =
          let m = canonical_expr x in
          let r = first_row (unary_rows op) in
          record { derivation = T-Op q r (one_more (at_type (expr_mark x) m (first_operand y r.operands)) m.effect no_derivations); typ = y.read r.result; effect = union m.effect [] }
      canonical_expr (Binary q op x z) =
          let m = canonical_expr x in
          let n = canonical_expr z in
          let r = row_of (binary_rows op) m.typ in
          record {
            derivation = T-Op q r (one_more (at_type (expr_mark x) m (first_operand y r.operands)) m.effect (one_more (at_type (expr_mark z) n (second_operand y r.operands)) n.effect no_derivations));
            typ = y.read r.result;
            effect = union m.effect (union n.effect []);
          }
      canonical_expr (TextCall q op xs) =
          let r = first_row (text_rows op) in
          let ds = canonical_values xs (map y.read r.operands) in
          record { derivation = T-Op q r ds; typ = y.read r.result; effect = effects_of ds }
      canonical_expr (Call q x name xs) =
          let m = canonical_expr x in
          let o = find_method name (y.methods m.typ) in
          let ds = canonical_values xs (method_params y o) in
          record { derivation = T-Call q m.derivation m.typ m.effect ds; typ = method_result y o; effect = union m.effect (union (effects_of ds) (method_effect y o)) }
      canonical_expr (New q l xs) =
          let ds = canonical_values xs (map y.read (field_types s l)) in
          record { derivation = T-New q ds; typ = y.read (Own l); effect = effects_of ds }
      canonical_expr (Ascribe q x t) =
          let m = canonical_value x (y.read t) in
          record { derivation = T-Asc q (at_type (mark x) m (y.read t)); typ = y.read t; effect = m.effect }
      canonical_expr (Assign q name x) =
          let t = field_type y (var_field s owner name) in
          let m = canonical_value x t in
          record { derivation = T-Set q (at_type (mark x) m t); typ = y.read Nothing; effect = m.effect }

      -- .. of a value: an `if` at the type that is asked for, another at its own
      pub canonical_value : Value → y.Kind → Typed y.Kind
      canonical_value (Plain x) t = canonical_expr x
      canonical_value (If q test first second) t =
          let c = canonical_expr test in
          let a = canonical_block first t in
          let b = canonical_block second t in
          record {
            derivation = T-If q (at_type (expr_mark test) c (y.read Bool)) c.effect (block_at_type (block_mark first) a t) a.effect (block_at_type (block_mark second) b t) b.effect;
            typ = t;
            effect = union c.effect (union a.effect b.effect);
          }

      -- .. of values, each at the type that is asked for
      pub canonical_values : Values → List y.Kind → Derivations y.Kind
      canonical_values none ts = no_derivations
      canonical_values (more x xs) [] = no_derivations
      canonical_values (more x xs) (t ∷ ts) = let m = canonical_value x t in one_more (at_type (mark x) m t) m.effect (canonical_values xs ts)

      -- .. of a block: where its last value is an `if` it has the type that is asked for, else that value's own
      pub canonical_block : Block → y.Kind → TypedBlock y.Kind
      canonical_block (Last x) t = let m = canonical_value x t in record { derivation = Result m.derivation; typ = m.typ; effect = m.effect }
      canonical_block (Then x b) t =
          let m = canonical_value x (y.read Nothing) in
          let r = canonical_block b t in
          record { derivation = T-Seq (mark x) (at_type (mark x) m (y.read Nothing)) m.effect r.derivation r.effect; typ = r.typ; effect = union m.effect r.effect }
      canonical_block (Val q n typ x b) t =
          let k = found_type y (slice_get locals n) in
          let m = canonical_value x k in
          let r = canonical_block b t in
          record { derivation = T-Val q (at_type (mark x) m k) k m.effect r.derivation r.effect; typ = r.typ; effect = union m.effect r.effect }

  module _ (s : Scope) (locals : List y.Kind) where
    -- of what the scope starts with: the fields' initialisers at their types, or the block of `run`
    abbrev pub canonical_start : Start → BodyDerivation y.Kind
    canonical_start (Init values) = T-Body-Init s.start_place (canonical_values s locals None values (map y.read (field_types s 0)))
    canonical_start (Run block) =
        let m = canonical_block s locals None block (y.read Nothing) in
        T-Body s.start_place (block_at_type (block_mark block) m (y.read Nothing)) m.effect

    -- of a body, at its result type
    abbrev pub canonical_body : Body → BodyDerivation y.Kind
    canonical_body b =
        let m = canonical_block s locals (Some b.owner) b.block (y.read b.signature.result) in
        T-Body b.place (block_at_type (block_mark b.block) m (y.read b.signature.result)) m.effect

    -- of the start and all bodies
    abbrev pub canonical_scope : ScopeDerivation y.Kind
    canonical_scope = record { locals = locals; start = canonical_start s.start; bodies = map canonical_body s.bodies }

  ------------------------------------------------------------
  -- The types of the `val`s, found one after the other

  -- of a `val`: the written type, or else that of its initialiser
  module _ (s : Scope) (locals : List y.Kind) (owner : Option ℕ) where
    abbrev pub val_type : Option TypeRef → Value → y.Kind
    val_type None (Plain x) = (canonical_expr s locals owner x).typ
    val_type None (If q test first second) = y.read Nothing
    val_type (Some t) x = y.read t

  module _ (s : Scope) (owner : Option ℕ) where
    abbrev mutual
      -- what an expression adds to the types that are known: those of the `val`s inside
      pub settle_expr : Expr → List y.Kind → List y.Kind
      settle_expr (Number q n) us = us
      settle_expr (Quoted q bytes) us = us
      settle_expr (TruthOf q b) us = us
      settle_expr (NothingOf q) us = us
      settle_expr (This q) us = us
      settle_expr (Name q name) us = us
      settle_expr (Unary q op x) us = settle_expr x us
      settle_expr (Binary q op x z) us = settle_expr z (settle_expr x us)
      settle_expr (TextCall q op xs) us = settle_values xs us
      settle_expr (Call q x name xs) us = settle_values xs (settle_expr x us)
      settle_expr (New q l xs) us = settle_values xs us
      settle_expr (Ascribe q x t) us = settle_value x us
      settle_expr (Assign q name x) us = settle_value x us

      pub settle_value : Value → List y.Kind → List y.Kind
      settle_value (Plain x) us = settle_expr x us
      settle_value (If q test first second) us = settle_block second (settle_block first (settle_expr test us))

      pub settle_values : Values → List y.Kind → List y.Kind
      settle_values none us = us
      settle_values (more x xs) us = settle_values xs (settle_value x us)

      -- a `val` is settled once those in its initialiser are
      pub settle_block : Block → List y.Kind → List y.Kind
      settle_block (Last x) us = settle_value x us
      settle_block (Then x b) us = settle_block b (settle_value x us)
      settle_block (Val q n typ x b) us = let vs = settle_value x us in settle_block b (with_local n (val_type s vs owner typ x) vs)

  module _ (s : Scope) where
    -- the start comes first, then the bodies in their order
    abbrev pub settle_start : Start → List y.Kind
    settle_start (Init values) = settle_values s None values []
    settle_start (Run block) = settle_block s None block []

    abbrev pub settle_bodies : List Body → List y.Kind → List y.Kind
    settle_bodies [] us = us
    settle_bodies (b ∷ bs) us = settle_bodies bs (settle_block s (Some b.owner) b.block us)

    -- of all `val`s of a scope, by their numbers
    abbrev pub canonical_locals : List y.Kind
    canonical_locals = settle_bodies s.bodies (settle_start s.start)

  -- a `val` is settled: its type is its written one, or else that of its initialiser, over the types of all
  module _ (s : Scope) (locals : List y.Kind) where
    abbrev pub IsSettled : Option ℕ → ℕ → Option TypeRef → Value → Type 0
    IsSettled owner n typ x = slice_get locals n ≡ Some (val_type s locals owner typ x)

------------------------------------------------------------
-- The test of types: it says whether they are the same

-- both are true
abbrev pub both : Truth → Truth → Truth
both true b = b
both false b = false

-- the same atoms, the same sets, the same type
abbrev pub same_numbers : List ℕ → List ℕ → Truth
same_numbers [] [] = true
same_numbers (a ∷ e) (b ∷ f) = both (nat_eq a b) (same_numbers e f)
same_numbers e f = false

abbrev pub same_sets : List (List ℕ) → List (List ℕ) → Truth
same_sets [] [] = true
same_sets (e ∷ es) (f ∷ fs) = both (same_numbers e f) (same_sets es fs)
same_sets es fs = false

abbrev pub same_type : TypeRef → TypeRef → Truth
same_type Int Int = true
same_type Bool Bool = true
same_type Text Text = true
same_type Nothing Nothing = true
same_type (Named d es) (Named e fs) = both (nat_eq d e) (same_sets es fs)
same_type (At d e) (At f g) = both (nat_eq d f) (same_numbers e g)
same_type (Own l) (Own k) = nat_eq l k
same_type t u = false

-- .. of the types of a scope of either kind, which are read as they are written
abbrev pub same_read : (p : Program) (k : ℕ) (plain : Truth) → (reading_of p k plain).Kind → (reading_of p k plain).Kind → Truth
same_read p k true = same_type
same_read p k false = same_type

------------------------------------------------------------
-- Laws

-- of the scope of a number, over given types of its `val`s
abbrev pub canonical_over : (p : Program) (k : ℕ) (s : Scope) → List (scope_reading p k s).Kind → ScopeDerivation (scope_reading p k s).Kind
canonical_over p k s locals = canonical_scope (scope_reading p k s) (same_read p k (is_plain s.kind)) s locals

-- .. and the types of its `val`s that are found one after the other
abbrev pub locals_of : (p : Program) (k : ℕ) (s : Scope) → List (scope_reading p k s).Kind
locals_of p k s = canonical_locals (scope_reading p k s) (same_read p k (is_plain s.kind)) s

-- the test tells types apart, so T-Sub stands exactly where the type is another than the one that is asked for
abbrev pub TypesAreToldApart : Type 0
TypesAreToldApart = (t u : TypeRef) → (same_type t u ≡ true) ↔ (t ≡ u)

-- where each node of a scope passes over some types of its `val`s, what is written over them is a derivation of it
abbrev pub CanonicalDerivationHolds : Type 0
CanonicalDerivationHolds =
    (p : Program) (k : ℕ) (s : Scope) → ScopeFits p s → (locals : List (scope_reading p k s).Kind) → AllPass p k s locals (scope_nodes s) →
    DerivesScope (scope_reading p k s) s (canonical_over p k s locals)

-- a scope that holds has the derivation that is written over the types of its `val`s that are found one after the other, and all of them are settled
abbrev pub ScopesHaveCanonicalDerivations : Type 0
ScopesHaveCanonicalDerivations =
    (p : Program) (k : ℕ) (s : Scope) → ScopeFits p s → ScopeHolds (scope_reading p k s) s →
    EachVal (IsSettled (scope_reading p k s) (same_read p k (is_plain s.kind)) s (locals_of p k s)) s ×
    DerivesScope (scope_reading p k s) s (canonical_over p k s (locals_of p k s))

-- a `val` of this number has a type in the list, and over any derivation of the scope a supertype of it
abbrev pub IsLeastLocal : (y : Reading) → Scope → List y.Kind → ℕ → Type 0
IsLeastLocal y s locals n =
    (t : y.Kind) × (slice_get locals n ≡ Some t) × ((d : ScopeDerivation y.Kind) (u : y.Kind) → DerivesScope y s d → slice_get d.locals n ≡ Some u → IsBelow y t u)

-- the types that are found are least: each `val` has its written type or the least type of its initialiser, and there is no derivation of the scope in
-- which its type is not a supertype
abbrev pub CanonicalTypesAreLeast : Type 0
CanonicalTypesAreLeast =
    (p : Program) (k : ℕ) (s : Scope) → IsCore p → slice_get p.scopes k ≡ Some s → ScopeHolds (scope_reading p k s) s →
    EachVal (ValSettles (scope_reading p k s) s (locals_of p k s)) s × ((n : ℕ) → In n (scope_vals s) → IsLeastLocal (scope_reading p k s) s (locals_of p k s) n)
