-- The `val` statements of a scope have the numbers between its counts, each once.
use Rattle.std.proofs.Common.{◌≡◌, ℕ, List, [], ◌∷◌, ◌++◌, refl, sym, ap, ap₂, append-nil}
use Rattle.wy_text.specs.declared.fault.Place.{Place}
use Rattle.wy_syntax.specs.Trees as t
use Rattle.wy_types.specs.Code as code
use Rattle.wy_types.specs.Vals.{expr_vals, value_vals, values_vals, block_vals, bodies_vals}
use Rattle.wy_bodies.specs.Sight.{Sight, inside, with_params}
use Rattle.wy_bodies.specs.Bodies.{Within, Count, one_val, one_literal, one_body, rhs_after, stmt_after, stmts_after, part_after, parts_after, tail_after, stmt_sight, last_or, operand, bound, expr_value, expr_values, rhs_value, stmt_block, stmts_block, part_values, with_field, tail_block, rhs_bodies, stmt_bodies, stmts_bodies, part_bodies, parts_bodies, tail_bodies}
use Rattle.wy_well_formed.proofs.Spreads.{Spread, spread_as, spread_none, spread_both, spread_first, spread_method, bodies_vals_append}

both_empty : (xs ys : List ℕ) → xs ≡ [] → ys ≡ [] → xs ++ ys ≡ []
both_empty xs ys h g = ap₂ (λ a b. a ++ b) h g

-- expressions have none
operand_vals : (v : code.Value) → value_vals v ≡ [] → expr_vals (operand v) ≡ []
operand_vals (code.Plain x) h = h
operand_vals (code.If p c a b) h = refl

module _ (w : Within) (si : Sight) where
  mutual
    expr_has_none : (e : t.ExprTree) → value_vals (expr_value w si e) ≡ []
    expr_has_none (t.number v p) = refl
    expr_has_none (t.text x p) = refl
    expr_has_none (t.yes p) = refl
    expr_has_none (t.no p) = refl
    expr_has_none (t.this p) = refl
    expr_has_none (t.name n) = refl
    expr_has_none (t.unit p) = refl
    expr_has_none (t.negate e p) = operand_vals (expr_value w si e) (expr_has_none e)
    expr_has_none (t.invert e p) = operand_vals (expr_value w si e) (expr_has_none e)
    expr_has_none (t.binary o a b p) = both_empty _ _ (operand_vals (expr_value w si a) (expr_has_none a)) (operand_vals (expr_value w si b) (expr_has_none b))
    expr_has_none (t.call e n es) = both_empty _ _ (operand_vals (expr_value w si e) (expr_has_none e)) (exprs_have_none es)
    expr_has_none (t.size e p) = both_empty _ _ (expr_has_none e) refl
    expr_has_none (t.part e a b p) = both_empty _ _ (expr_has_none e) (both_empty _ _ (expr_has_none a) (both_empty _ _ (expr_has_none b) refl))
    expr_has_none (t.byte_at e i p) = both_empty _ _ (expr_has_none e) (both_empty _ _ (expr_has_none i) refl)
    expr_has_none (t.byte e p) = both_empty _ _ (expr_has_none e) refl
    expr_has_none (t.show e p) = both_empty _ _ (expr_has_none e) refl
    expr_has_none (t.ascribe e u p) = expr_has_none e
    expr_has_none (t.choice c a b p) = both_empty _ _ (operand_vals (expr_value w si c) (expr_has_none c)) (both_empty _ _ (expr_has_none a) (expr_has_none b))

    exprs_have_none : (es : t.ExprTrees) → values_vals (expr_values w si es) ≡ []
    exprs_have_none t.none = refl
    exprs_have_none (t.more e es) = both_empty _ _ (expr_has_none e) (exprs_have_none es)

-- a value before the rest of a block
pub last_or_vals : (w : Within) (p : Place) (si : Sight) (n : Count) (xs : t.StmtTrees) (v : code.Value) → block_vals (last_or w xs v (stmts_block w p si n xs)) ≡ value_vals v ++ block_vals (stmts_block w p si n xs)
last_or_vals w p si n t.no_stmts v = sym (append-nil (value_vals v))
last_or_vals w p si n (t.more_stmts x xs) v = refl

module _ (w : Within) where
  -- a statement's own numbers
  abbrev pub stmt_vals : Sight → Count → t.StmtTree → List ℕ
  stmt_vals si n (t.val x u r) = n.vals ∷ value_vals (rhs_value w si (one_val n) r)
  stmt_vals si n (t.assign x r) = value_vals (rhs_value w si n r)
  stmt_vals si n (t.run r) = value_vals (rhs_value w si n r)

  pub stmt_block_vals : (p : Place) (si sj : Sight) (n m : Count) (x : t.StmtTree) (xs : t.StmtTrees) → block_vals (stmt_block w si n x xs (stmts_block w p sj m xs)) ≡ stmt_vals si n x ++ block_vals (stmts_block w p sj m xs)
  stmt_block_vals p si sj n m (t.val x u r) xs = refl
  stmt_block_vals p si sj n m (t.assign x r) xs = last_or_vals w p sj m xs (code.Plain (code.Assign x.place (bound w si x) (rhs_value w si n r)))
  stmt_block_vals p si sj n m (t.run r) xs = last_or_vals w p sj m xs (rhs_value w si n r)

  -- those of a field's initialiser
  abbrev pub part_vals : Sight → Count → t.PartTree → List ℕ
  part_vals si n (t.field k x u r) = value_vals (rhs_value w si n r)
  part_vals si n (t.method g b) = []

  pub with_field_vals : (si : Sight) (n : Count) (q : t.PartTree) (rest : code.Values) → values_vals (with_field w si n q rest) ≡ part_vals si n q ++ values_vals rest
  with_field_vals si n (t.field k x u r) rest = refl
  with_field_vals si n (t.method g b) rest = refl

  -- a tree's own numbers, and those of the bodies in it
  mutual
    pub rhs_spread : (si : Sight) (n : Count) (r : t.RhsTree) → Spread n.vals (rhs_after n r).vals (value_vals (rhs_value w si n r)) (bodies_vals (rhs_bodies w si n r))
    rhs_spread si n (t.literal p ps) = parts_spread si (inside si ps) n.literals (one_literal n) ps
    rhs_spread si n (t.branch p c a b) =
        let m = stmts_after n a in
        let va = block_vals (stmts_block w p si n a) in
        let vb = block_vals (stmts_block w p si m b) in
        let ba = stmts_bodies w si n a in
        let bb = stmts_bodies w si m b in
        spread_as n.vals (stmts_after m b).vals (va ++ vb) (expr_vals (operand (expr_value w si c)) ++ (va ++ vb)) (bodies_vals ba ++ bodies_vals bb) (bodies_vals (ba ++ bb))
        (ap (λ l. l ++ (va ++ vb)) (sym (operand_vals (expr_value w si c) (expr_has_none w si c)))) (sym (bodies_vals_append ba bb))
        (spread_both n.vals m.vals (stmts_after m b).vals va (bodies_vals ba) vb (bodies_vals bb) (stmts_spread p si n a) (stmts_spread p si m b))
    rhs_spread si n (t.value e) = spread_as n.vals n.vals [] (value_vals (expr_value w si e)) [] [] (sym (expr_has_none w si e)) refl (spread_none n.vals)

    stmt_spread : (si : Sight) (n : Count) (x : t.StmtTree) → Spread n.vals (stmt_after n x).vals (stmt_vals si n x) (bodies_vals (stmt_bodies w si n x))
    stmt_spread si n (t.val x u r) =
        spread_first n.vals (rhs_after (one_val n) r).vals (value_vals (rhs_value w si (one_val n) r)) (bodies_vals (rhs_bodies w si (one_val n) r)) (rhs_spread si (one_val n) r)
    stmt_spread si n (t.assign x r) = rhs_spread si n r
    stmt_spread si n (t.run r) = rhs_spread si n r

    pub stmts_spread : (p : Place) (si : Sight) (n : Count) (xs : t.StmtTrees) → Spread n.vals (stmts_after n xs).vals (block_vals (stmts_block w p si n xs)) (bodies_vals (stmts_bodies w si n xs))
    stmts_spread p si n t.no_stmts = spread_none n.vals
    stmts_spread p si n (t.more_stmts x xs) =
        let m = stmt_after n x in
        let sj = stmt_sight w si n x in
        let va = stmt_vals si n x in
        let vb = block_vals (stmts_block w p sj m xs) in
        let ba = stmt_bodies w si n x in
        let bb = stmts_bodies w sj m xs in
        spread_as n.vals (stmts_after m xs).vals (va ++ vb) (block_vals (stmts_block w p si n (t.more_stmts x xs))) (bodies_vals ba ++ bodies_vals bb) (bodies_vals (ba ++ bb))
        (sym (stmt_block_vals p si sj n m x xs)) (sym (bodies_vals_append ba bb))
        (spread_both n.vals m.vals (stmts_after m xs).vals va (bodies_vals ba) vb (bodies_vals bb) (stmt_spread si n x) (stmts_spread p sj m xs))

    part_spread : (si within : Sight) (owner : ℕ) (n : Count) (q : t.PartTree) → Spread n.vals (part_after n q).vals (part_vals si n q) (bodies_vals (part_bodies w si within owner n q))
    part_spread si within owner n (t.field k x u r) = rhs_spread si n r
    part_spread si within owner n (t.method g b) =
        let sj = with_params within n.bodies g.params in
        spread_method n.vals (tail_after (one_body n) b).vals (block_vals (tail_block w g.place sj (one_body n) b)) (bodies_vals (tail_bodies w sj (one_body n) b)) (tail_spread g.place sj (one_body n) b)

    pub parts_spread : (si within : Sight) (owner : ℕ) (n : Count) (qs : t.PartTrees) → Spread n.vals (parts_after n qs).vals (values_vals (part_values w si n qs)) (bodies_vals (parts_bodies w si within owner n qs))
    parts_spread si within owner n t.no_parts = spread_none n.vals
    parts_spread si within owner n (t.more_parts q qs) =
        let m = part_after n q in
        let va = part_vals si n q in
        let vb = values_vals (part_values w si m qs) in
        let ba = part_bodies w si within owner n q in
        let bb = parts_bodies w si within owner m qs in
        spread_as n.vals (parts_after m qs).vals (va ++ vb) (values_vals (part_values w si n (t.more_parts q qs))) (bodies_vals ba ++ bodies_vals bb) (bodies_vals (ba ++ bb))
        (sym (with_field_vals si n q (part_values w si m qs))) (sym (bodies_vals_append ba bb))
        (spread_both n.vals m.vals (parts_after m qs).vals va (bodies_vals ba) vb (bodies_vals bb) (part_spread si within owner n q) (parts_spread si within owner m qs))

    pub tail_spread : (p : Place) (si : Sight) (n : Count) (b : t.TailTree) → Spread n.vals (tail_after n b).vals (block_vals (tail_block w p si n b)) (bodies_vals (tail_bodies w si n b))
    tail_spread p si n (t.short r) = rhs_spread si n r
    tail_spread p si n (t.long xs) = stmts_spread p si n xs
