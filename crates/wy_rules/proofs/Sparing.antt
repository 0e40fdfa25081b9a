-- In what is written no T-Sub stands directly above another.
use Rattle.std.proofs.Common.{ℕ, List, [], ◌∷◌, map, Option, Some, None, Bool as Truth, true, false}
use Rattle.std.specs.Prelude.{slice_get}
use Rattle.wy_text.specs.declared.fault.Place.{Place}
use Rattle.wy_types.specs.declared.types.TypeRef.TheVariants.{Bool, Unit as Nothing}
use Rattle.wy_types.specs.Code.{Expr, Number, Quoted, Truth as TruthOf, Nothing as NothingOf, This, Name, Unary, Binary, TextCall, Call, New, Ascribe, Assign, Value, Plain, If, Values, none, more, Block, Last, Then, Val}
use Rattle.wy_types.specs.Program.{Scope, Body, Start, Init, Run}
use Rattle.wy_types.specs.Types.{is_plain}
use Rattle.wy_types.specs.Signature.{find_method}
use Rattle.wy_rules.specs.Readings.{Reading}
use Rattle.wy_rules.specs.Operators.{unary_rows, binary_rows, text_rows}
use Rattle.wy_rules.specs.Derivations.{expr_mark, mark, block_mark}
use Rattle.wy_rules.specs.Typing.{field_types, var_field}
use Rattle.wy_rules.specs.Acceptance.{scope_reading}
use Rattle.wy_rules.specs.Canonical.{Typed, TypedBlock, subsumed_unless, block_subsumed_unless, found_type, method_params, field_type, first_operand, second_operand, row_of, first_row, at_type, block_at_type, canonical_expr, canonical_value, canonical_values, canonical_block, canonical_start, canonical_body, same_read}
use Rattle.wy_rules.specs.Sparse.{NoSub, NoBlockSub, Sparse, AllSparse, BlockSparse, BodySparse, BodiesSparse, NoSubsumptionAboveAnother}

module _ {K : Type 0} where
  sub_sparse : (b : Truth) (q : Place) (m : Typed K) → NoSub m.derivation → Sparse m.derivation → Sparse (subsumed_unless b q m)
  sub_sparse true q m n h = h
  sub_sparse false q m n h = (n, h)

  block_sub_sparse : (b : Truth) (q : Place) (m : TypedBlock K) → NoBlockSub m.derivation → BlockSparse m.derivation → BlockSparse (block_subsumed_unless b q m)
  block_sub_sparse true q m n h = h
  block_sub_sparse false q m n h = (n, h)

module _ (y : Reading) (same : y.Kind → y.Kind → Truth) (s : Scope) (locals : List y.Kind) where
  abbrev IsSparse : Typed y.Kind → Type 0
  IsSparse m = NoSub m.derivation × Sparse m.derivation

  abbrev IsSparseBlock : TypedBlock y.Kind → Type 0
  IsSparseBlock m = NoBlockSub m.derivation × BlockSparse m.derivation

  at : (q : Place) (m : Typed y.Kind) (t : y.Kind) → IsSparse m → Sparse (at_type y same q m t)
  at q m t h = sub_sparse (same m.typ t) q m h.0 h.1

  block_at : (q : Place) (m : TypedBlock y.Kind) (t : y.Kind) → IsSparseBlock m → BlockSparse (block_at_type y same q m t)
  block_at q m t h = block_sub_sparse (same m.typ t) q m h.0 h.1

  module _ (owner : Option ℕ) where
    mutual
      expr_sparse : (x : Expr) → IsSparse (canonical_expr y same s locals owner x)
      expr_sparse (Number q n) = (tt, tt)
      expr_sparse (Quoted q bytes) = (tt, tt)
      expr_sparse (TruthOf q b) = (tt, tt)
      expr_sparse (NothingOf q) = (tt, tt)
      expr_sparse (This q) = (tt, tt)
      expr_sparse (Name q name) = (tt, tt)
      expr_sparse (Unary q op x) = (tt, (at (expr_mark x) (canonical_expr y same s locals owner x) (first_operand y (first_row (unary_rows op)).operands) (expr_sparse x), tt))
      expr_sparse (Binary q op x v) =
          let r = row_of y same (binary_rows op) (canonical_expr y same s locals owner x).typ in
          (tt, (at (expr_mark x) (canonical_expr y same s locals owner x) (first_operand y r.operands) (expr_sparse x), (at (expr_mark v) (canonical_expr y same s locals owner v) (second_operand y r.operands) (expr_sparse v), tt)))
      expr_sparse (TextCall q op xs) = (tt, values_sparse xs (map y.read (first_row (text_rows op)).operands))
      expr_sparse (Call q x name xs) = (let m = expr_sparse x in (tt, (m.0, m.1, values_sparse xs (method_params y (find_method name (y.methods (canonical_expr y same s locals owner x).typ))))))
      expr_sparse (New q l xs) = (tt, values_sparse xs (map y.read (field_types s l)))
      expr_sparse (Ascribe q x t) = (tt, at (mark x) (canonical_value y same s locals owner x (y.read t)) (y.read t) (value_sparse x (y.read t)))
      expr_sparse (Assign q name x) =
          let t = field_type y (var_field s owner name) in
          (tt, at (mark x) (canonical_value y same s locals owner x t) t (value_sparse x t))

      value_sparse : (x : Value) (t : y.Kind) → IsSparse (canonical_value y same s locals owner x t)
      value_sparse (Plain x) t = expr_sparse x
      value_sparse (If q test first second) t = (
        tt,
        (
          at (expr_mark test) (canonical_expr y same s locals owner test) (y.read Bool) (expr_sparse test),
          block_at (block_mark first) (canonical_block y same s locals owner first t) t (block_sparse first t),
          block_at (block_mark second) (canonical_block y same s locals owner second t) t (block_sparse second t),
        ),
      )

      values_sparse : (xs : Values) (ts : List y.Kind) → AllSparse (canonical_values y same s locals owner xs ts)
      values_sparse none ts = tt
      values_sparse (more x xs) [] = tt
      values_sparse (more x xs) (t ∷ ts) = (at (mark x) (canonical_value y same s locals owner x t) t (value_sparse x t), values_sparse xs ts)

      block_sparse : (b : Block) (t : y.Kind) → IsSparseBlock (canonical_block y same s locals owner b t)
      block_sparse (Last x) t = value_sparse x t
      block_sparse (Then x rest) t =
          let r = block_sparse rest t in
          (tt, (at (mark x) (canonical_value y same s locals owner x (y.read Nothing)) (y.read Nothing) (value_sparse x (y.read Nothing)), r.0, r.1))
      block_sparse (Val q n typ x rest) t =
          let r = block_sparse rest t in
          let k = found_type y (slice_get locals n) in
          (tt, (at (mark x) (canonical_value y same s locals owner x k) k (value_sparse x k), r.0, r.1))

  start_sparse : (st : Start) → BodySparse (canonical_start y same s locals st)
  start_sparse (Init values) = values_sparse None values (map y.read (field_types s 0))
  start_sparse (Run block) = block_at (block_mark block) (canonical_block y same s locals None block (y.read Nothing)) (y.read Nothing) (block_sparse None block (y.read Nothing))

  bodies_sparse : (bs : List Body) → BodiesSparse (map (canonical_body y same s locals) bs)
  bodies_sparse [] = tt
  bodies_sparse (b ∷ bs) =
      let r = y.read b.signature.result in
      (block_at (block_mark b.block) (canonical_block y same s locals (Some b.owner) b.block r) r (block_sparse (Some b.owner) b.block r), bodies_sparse bs)

pub no_subsumption_above_another : NoSubsumptionAboveAnother
no_subsumption_above_another p k s locals =
    let y = scope_reading p k s in
    let same = same_read p k (is_plain s.kind) in
    (start_sparse y same s locals s.start, bodies_sparse y same s locals s.bodies)
