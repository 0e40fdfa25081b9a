-- In what is written each T-Sub gives the effect of its part.
use Rattle.std.proofs.Common.{◌≡◌, ℕ, List, [], ◌∷◌, map, refl, Option, Some, None, Bool as Truth, true, false}
use Rattle.std.specs.Prelude.{slice_get}
use Rattle.wy_text.specs.declared.fault.Place.{Place}
use Rattle.wy_types.specs.declared.types.TypeRef.TheVariants.{Bool, Unit as Nothing}
use Rattle.wy_types.specs.Code.{Expr, Number, Quoted, Truth as TruthOf, Nothing as NothingOf, This, Name, Unary, Binary, TextCall, Call, New, Ascribe, Assign, Value, Plain, If, Values, none, more, Block, Last, Then, Val}
use Rattle.wy_types.specs.Program.{Scope, Body, Start, Init, Run}
use Rattle.wy_types.specs.Signature.{find_method}
use Rattle.wy_rules.specs.Readings.{Reading}
use Rattle.wy_rules.specs.Operators.{unary_rows, binary_rows, text_rows}
use Rattle.wy_rules.specs.Derivations.{Derivation, T-Lit, T-Var, T-This, T-Call, T-New, T-If, T-Set, T-Op, T-Asc, T-Sub, Derivations, none as no_derivations, more as one_more, BlockDerivation, Result, T-Seq, T-Val, Block-Sub, BodyDerivation, T-Body, T-Body-Init, expr_mark, mark, block_mark}
use Rattle.wy_rules.specs.Typing.{field_types, var_field}
use Rattle.wy_rules.specs.Canonical.{Typed, TypedBlock, subsumed_unless, block_subsumed_unless, found_type, method_params, field_type, first_operand, second_operand, row_of, first_row, at_type, block_at_type, canonical_expr, canonical_value, canonical_values, canonical_block, canonical_start, canonical_body, canonical_scope}

abbrev mutual
  -- of a derivation at an effect: below each T-Sub stands the same one
  pub Keeps : {K : Type 0} → Derivation K → List ℕ → Type 0
  Keeps (T-Lit q) f = Unit {0}
  Keeps (T-Var q) f = Unit {0}
  Keeps (T-This q) f = Unit {0}
  Keeps (T-Call q d k e ds) f = Keeps d e × KeepsAll ds
  Keeps (T-New q ds) f = KeepsAll ds
  Keeps (T-If q d e a g b h) f = Keeps d e × KeepsBlock a g × KeepsBlock b h
  Keeps (T-Set q d) f = Keeps d f
  Keeps (T-Op q r ds) f = KeepsAll ds
  Keeps (T-Asc q d) f = Keeps d f
  Keeps (T-Sub q d k e) f = (e ≡ f) × Keeps d e

  -- of derivations, each at its effect
  pub KeepsAll : {K : Type 0} → Derivations K → Type 0
  KeepsAll no_derivations = Unit {0}
  KeepsAll (one_more d e ds) = Keeps d e × KeepsAll ds

  -- .. of a block
  pub KeepsBlock : {K : Type 0} → BlockDerivation K → List ℕ → Type 0
  KeepsBlock (Result d) f = Keeps d f
  KeepsBlock (T-Seq q d e ds g) f = Keeps d e × KeepsBlock ds g
  KeepsBlock (T-Val q d k e ds g) f = Keeps d e × KeepsBlock ds g
  KeepsBlock (Block-Sub q ds k e) f = (e ≡ f) × KeepsBlock ds e

-- .. of a body, and of bodies
abbrev pub KeepsBody : {K : Type 0} → BodyDerivation K → Type 0
KeepsBody (T-Body q d e) = KeepsBlock d e
KeepsBody (T-Body-Init q ds) = KeepsAll ds

-- .. of each body
abbrev pub KeepsBodies : {K : Type 0} → List (BodyDerivation K) → Type 0
KeepsBodies [] = Unit {0}
KeepsBodies (d ∷ ds) = KeepsBody d × KeepsBodies ds

module _ {K : Type 0} where
  sub_keeps : (b : Truth) (q : Place) (m : Typed K) → Keeps m.derivation m.effect → Keeps (subsumed_unless b q m) m.effect
  sub_keeps true q m h = h
  sub_keeps false q m h = (refl, h)

  block_sub_keeps : (b : Truth) (q : Place) (m : TypedBlock K) → KeepsBlock m.derivation m.effect → KeepsBlock (block_subsumed_unless b q m) m.effect
  block_sub_keeps true q m h = h
  block_sub_keeps false q m h = (refl, h)

module _ (y : Reading) (same : y.Kind → y.Kind → Truth) (s : Scope) (locals : List y.Kind) where
  abbrev IsKeeping : Typed y.Kind → Type 0
  IsKeeping m = Keeps m.derivation m.effect

  abbrev IsKeepingBlock : TypedBlock y.Kind → Type 0
  IsKeepingBlock m = KeepsBlock m.derivation m.effect

  at : (q : Place) (m : Typed y.Kind) (t : y.Kind) → IsKeeping m → Keeps (at_type y same q m t) m.effect
  at q m t h = sub_keeps (same m.typ t) q m h

  block_at : (q : Place) (m : TypedBlock y.Kind) (t : y.Kind) → IsKeepingBlock m → KeepsBlock (block_at_type y same q m t) m.effect
  block_at q m t h = block_sub_keeps (same m.typ t) q m h

  module _ (owner : Option ℕ) where
    mutual
      expr_keeps : (x : Expr) → IsKeeping (canonical_expr y same s locals owner x)
      expr_keeps (Number q n) = tt
      expr_keeps (Quoted q bytes) = tt
      expr_keeps (TruthOf q b) = tt
      expr_keeps (NothingOf q) = tt
      expr_keeps (This q) = tt
      expr_keeps (Name q name) = tt
      expr_keeps (Unary q op x) = (at (expr_mark x) (canonical_expr y same s locals owner x) (first_operand y (first_row (unary_rows op)).operands) (expr_keeps x), tt)
      expr_keeps (Binary q op x v) =
          let r = row_of y same (binary_rows op) (canonical_expr y same s locals owner x).typ in
          (at (expr_mark x) (canonical_expr y same s locals owner x) (first_operand y r.operands) (expr_keeps x), (at (expr_mark v) (canonical_expr y same s locals owner v) (second_operand y r.operands) (expr_keeps v), tt))
      expr_keeps (TextCall q op xs) = values_keep xs (map y.read (first_row (text_rows op)).operands)
      expr_keeps (Call q x name xs) = (expr_keeps x, values_keep xs (method_params y (find_method name (y.methods (canonical_expr y same s locals owner x).typ))))
      expr_keeps (New q l xs) = values_keep xs (map y.read (field_types s l))
      expr_keeps (Ascribe q x t) = at (mark x) (canonical_value y same s locals owner x (y.read t)) (y.read t) (value_keeps x (y.read t))
      expr_keeps (Assign q name x) =
          let t = field_type y (var_field s owner name) in
          at (mark x) (canonical_value y same s locals owner x t) t (value_keeps x t)

      value_keeps : (x : Value) (t : y.Kind) → IsKeeping (canonical_value y same s locals owner x t)
      value_keeps (Plain x) t = expr_keeps x
      value_keeps (If q test first second) t = (
        at (expr_mark test) (canonical_expr y same s locals owner test) (y.read Bool) (expr_keeps test),
        block_at (block_mark first) (canonical_block y same s locals owner first t) t (block_keeps first t),
        block_at (block_mark second) (canonical_block y same s locals owner second t) t (block_keeps second t),
      )

      values_keep : (xs : Values) (ts : List y.Kind) → KeepsAll (canonical_values y same s locals owner xs ts)
      values_keep none ts = tt
      values_keep (more x xs) [] = tt
      values_keep (more x xs) (t ∷ ts) = (at (mark x) (canonical_value y same s locals owner x t) t (value_keeps x t), values_keep xs ts)

      block_keeps : (b : Block) (t : y.Kind) → IsKeepingBlock (canonical_block y same s locals owner b t)
      block_keeps (Last x) t = value_keeps x t
      block_keeps (Then x rest) t = (at (mark x) (canonical_value y same s locals owner x (y.read Nothing)) (y.read Nothing) (value_keeps x (y.read Nothing)), block_keeps rest t)
      block_keeps (Val q n typ x rest) t =
          let k = found_type y (slice_get locals n) in
          (at (mark x) (canonical_value y same s locals owner x k) k (value_keeps x k), block_keeps rest t)

  start_keeps : (st : Start) → KeepsBody (canonical_start y same s locals st)
  start_keeps (Init values) = values_keep None values (map y.read (field_types s 0))
  start_keeps (Run block) = block_at (block_mark block) (canonical_block y same s locals None block (y.read Nothing)) (y.read Nothing) (block_keeps None block (y.read Nothing))

  bodies_keep : (bs : List Body) → KeepsBodies (map (canonical_body y same s locals) bs)
  bodies_keep [] = tt
  bodies_keep (b ∷ bs) =
      let r = y.read b.signature.result in
      (block_at (block_mark b.block) (canonical_block y same s locals (Some b.owner) b.block r) r (block_keeps (Some b.owner) b.block r), bodies_keep bs)

  -- of what is written for a scope
  pub scope_keeps : KeepsBody (canonical_scope y same s locals).start × KeepsBodies (canonical_scope y same s locals).bodies
  scope_keeps = (start_keeps s.start, bodies_keep s.bodies)
