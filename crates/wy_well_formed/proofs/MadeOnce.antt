-- The literals that a scope makes have the numbers between its counts, each once.
use Rattle.std.proofs.Common.{◌≡◌, ℕ, List, [], ◌∷◌, ◌++◌, refl, sym, ap, ap₂, ◌∙◌, append-nil, append_assoc}
use Rattle.wy_text.specs.declared.fault.Place.{Place}
use Rattle.wy_syntax.specs.Trees as t
use Rattle.wy_text.specs.Members.{Apart}
use Rattle.wy_types.specs.Code as code
use Rattle.wy_types.specs.Program.{Scope, Body}
use Rattle.wy_symbols.specs.declared.scoping.Head.{Head}
use Rattle.wy_symbols.specs.Declarations.{ModuleTree, ProgramTree, types_of, modules_of}
use Rattle.wy_symbols.specs.Atoms.{heads_of}
use Rattle.wy_names.specs.Scopes.{module_within, program_within, scope_of_module, scope_of_program}
use Rattle.wy_bodies.specs.Sight.{Sight, outermost, inside, with_params}
use Rattle.wy_bodies.specs.Bodies.{Within, Count, at_start, one_val, one_literal, one_body, rhs_after, stmt_after, stmts_after, part_after, parts_after, tail_after, stmt_sight, last_or, operand, bound, expr_value, expr_values, rhs_value, stmt_block, stmts_block, part_values, with_field, tail_block, rhs_bodies, stmt_bodies, stmts_bodies, part_bodies, parts_bodies, tail_bodies}
use Rattle.wy_rules.specs.News.{expr_news, value_news, values_news, block_news, bodies_news, scope_news}
use Rattle.wy_well_formed.specs.WellFormed.{ResolvedMakesOnce}
use Rattle.wy_well_formed.proofs.EachScope.{each_scope}
use Rattle.wy_well_formed.proofs.Spreads.{Spread, spread_as, spread_none, spread_both, spread_first, spread_method, spread_apart}

bodies_news_append : (xs ys : List Body) → bodies_news (xs ++ ys) ≡ bodies_news xs ++ bodies_news ys
bodies_news_append [] ys = refl
bodies_news_append (x ∷ xs) ys = ap (λ l. block_news x.block ++ l) (bodies_news_append xs ys) ∙ sym (append_assoc (block_news x.block) (bodies_news xs) (bodies_news ys))

both_empty : (xs ys : List ℕ) → xs ≡ [] → ys ≡ [] → xs ++ ys ≡ []
both_empty xs ys h g = ap₂ (λ a b. a ++ b) h g

-- expressions have none
operand_news : (v : code.Value) → value_news v ≡ [] → expr_news (operand v) ≡ []
operand_news (code.Plain x) h = h
operand_news (code.If p c a b) h = refl

module _ (w : Within) (si : Sight) where
  mutual
    expr_has_none : (e : t.ExprTree) → value_news (expr_value w si e) ≡ []
    expr_has_none (t.number v p) = refl
    expr_has_none (t.text x p) = refl
    expr_has_none (t.yes p) = refl
    expr_has_none (t.no p) = refl
    expr_has_none (t.this p) = refl
    expr_has_none (t.name n) = refl
    expr_has_none (t.unit p) = refl
    expr_has_none (t.negate e p) = operand_news (expr_value w si e) (expr_has_none e)
    expr_has_none (t.invert e p) = operand_news (expr_value w si e) (expr_has_none e)
    expr_has_none (t.binary o a b p) = both_empty _ _ (operand_news (expr_value w si a) (expr_has_none a)) (operand_news (expr_value w si b) (expr_has_none b))
    expr_has_none (t.call e n es) = both_empty _ _ (operand_news (expr_value w si e) (expr_has_none e)) (exprs_have_none es)
    expr_has_none (t.size e p) = both_empty _ _ (expr_has_none e) refl
    expr_has_none (t.part e a b p) = both_empty _ _ (expr_has_none e) (both_empty _ _ (expr_has_none a) (both_empty _ _ (expr_has_none b) refl))
    expr_has_none (t.byte_at e i p) = both_empty _ _ (expr_has_none e) (both_empty _ _ (expr_has_none i) refl)
    expr_has_none (t.byte e p) = both_empty _ _ (expr_has_none e) refl
    expr_has_none (t.show e p) = both_empty _ _ (expr_has_none e) refl
    expr_has_none (t.ascribe e u p) = expr_has_none e
    expr_has_none (t.choice c a b p) = both_empty _ _ (operand_news (expr_value w si c) (expr_has_none c)) (both_empty _ _ (expr_has_none a) (expr_has_none b))

    exprs_have_none : (es : t.ExprTrees) → values_news (expr_values w si es) ≡ []
    exprs_have_none t.none = refl
    exprs_have_none (t.more e es) = both_empty _ _ (expr_has_none e) (exprs_have_none es)

-- a value before the rest of a block
pub last_or_news : (w : Within) (p : Place) (si : Sight) (n : Count) (xs : t.StmtTrees) (v : code.Value) →
    block_news (last_or w xs v (stmts_block w p si n xs)) ≡ value_news v ++ block_news (stmts_block w p si n xs)
last_or_news w p si n t.no_stmts v = sym (append-nil (value_news v))
last_or_news w p si n (t.more_stmts x xs) v = refl

module _ (w : Within) where
  -- a statement's own numbers
  abbrev pub stmt_news : Sight → Count → t.StmtTree → List ℕ
  stmt_news si n (t.val x u r) = value_news (rhs_value w si (one_val n) r)
  stmt_news si n (t.assign x r) = value_news (rhs_value w si n r)
  stmt_news si n (t.run r) = value_news (rhs_value w si n r)

  pub stmt_block_news : (p : Place) (si sj : Sight) (n m : Count) (x : t.StmtTree) (xs : t.StmtTrees) →
      block_news (stmt_block w si n x xs (stmts_block w p sj m xs)) ≡ stmt_news si n x ++ block_news (stmts_block w p sj m xs)
  stmt_block_news p si sj n m (t.val x u r) xs = refl
  stmt_block_news p si sj n m (t.assign x r) xs = last_or_news w p sj m xs (code.Plain (code.Assign x.place (bound w si x) (rhs_value w si n r)))
  stmt_block_news p si sj n m (t.run r) xs = last_or_news w p sj m xs (rhs_value w si n r)

  -- those of a field's initialiser
  abbrev pub part_news : Sight → Count → t.PartTree → List ℕ
  part_news si n (t.field k x u r) = value_news (rhs_value w si n r)
  part_news si n (t.method g b) = []

  pub with_field_news : (si : Sight) (n : Count) (q : t.PartTree) (rest : code.Values) →
      values_news (with_field w si n q rest) ≡ part_news si n q ++ values_news rest
  with_field_news si n (t.field k x u r) rest = refl
  with_field_news si n (t.method g b) rest = refl

  -- a tree's own numbers, and those of the bodies in it
  mutual
    pub rhs_spread : (si : Sight) (n : Count) (r : t.RhsTree) →
        Spread n.literals (rhs_after n r).literals (value_news (rhs_value w si n r)) (bodies_news (rhs_bodies w si n r))
    rhs_spread si n (t.literal p ps) =
        let m = one_literal n in
        spread_first n.literals (parts_after m ps).literals (values_news (part_values w si m ps)) (bodies_news (parts_bodies w si (inside si ps) n.literals m ps))
        (parts_spread si (inside si ps) n.literals m ps)
    rhs_spread si n (t.branch p c a b) =
        let m = stmts_after n a in
        let va = block_news (stmts_block w p si n a) in
        let vb = block_news (stmts_block w p si m b) in
        let ba = stmts_bodies w si n a in
        let bb = stmts_bodies w si m b in
        spread_as n.literals (stmts_after m b).literals
        (va ++ vb) (expr_news (operand (expr_value w si c)) ++ (va ++ vb)) (bodies_news ba ++ bodies_news bb) (bodies_news (ba ++ bb))
        (ap (λ l. l ++ (va ++ vb)) (sym (operand_news (expr_value w si c) (expr_has_none w si c)))) (sym (bodies_news_append ba bb))
        (spread_both n.literals m.literals (stmts_after m b).literals va (bodies_news ba) vb (bodies_news bb) (stmts_spread p si n a) (stmts_spread p si m b))
    rhs_spread si n (t.value e) =
        spread_as n.literals n.literals [] (value_news (expr_value w si e)) [] [] (sym (expr_has_none w si e)) refl (spread_none n.literals)

    stmt_spread : (si : Sight) (n : Count) (x : t.StmtTree) →
        Spread n.literals (stmt_after n x).literals (stmt_news si n x) (bodies_news (stmt_bodies w si n x))
    stmt_spread si n (t.val x u r) = rhs_spread si (one_val n) r
    stmt_spread si n (t.assign x r) = rhs_spread si n r
    stmt_spread si n (t.run r) = rhs_spread si n r

    pub stmts_spread : (p : Place) (si : Sight) (n : Count) (xs : t.StmtTrees) →
        Spread n.literals (stmts_after n xs).literals (block_news (stmts_block w p si n xs)) (bodies_news (stmts_bodies w si n xs))
    stmts_spread p si n t.no_stmts = spread_none n.literals
    stmts_spread p si n (t.more_stmts x xs) =
        let m = stmt_after n x in
        let sj = stmt_sight w si n x in
        let va = stmt_news si n x in
        let vb = block_news (stmts_block w p sj m xs) in
        let ba = stmt_bodies w si n x in
        let bb = stmts_bodies w sj m xs in
        spread_as n.literals (stmts_after m xs).literals
        (va ++ vb) (block_news (stmts_block w p si n (t.more_stmts x xs))) (bodies_news ba ++ bodies_news bb) (bodies_news (ba ++ bb))
        (sym (stmt_block_news p si sj n m x xs)) (sym (bodies_news_append ba bb))
        (spread_both n.literals m.literals (stmts_after m xs).literals va (bodies_news ba) vb (bodies_news bb) (stmt_spread si n x) (stmts_spread p sj m xs))

    part_spread : (si within : Sight) (owner : ℕ) (n : Count) (q : t.PartTree) →
        Spread n.literals (part_after n q).literals (part_news si n q) (bodies_news (part_bodies w si within owner n q))
    part_spread si within owner n (t.field k x u r) = rhs_spread si n r
    part_spread si within owner n (t.method g b) =
        let sj = with_params within n.bodies g.params in
        spread_method n.literals (tail_after (one_body n) b).literals
        (block_news (tail_block w g.place sj (one_body n) b)) (bodies_news (tail_bodies w sj (one_body n) b)) (tail_spread g.place sj (one_body n) b)

    pub parts_spread : (si within : Sight) (owner : ℕ) (n : Count) (qs : t.PartTrees) →
        Spread n.literals (parts_after n qs).literals (values_news (part_values w si n qs)) (bodies_news (parts_bodies w si within owner n qs))
    parts_spread si within owner n t.no_parts = spread_none n.literals
    parts_spread si within owner n (t.more_parts q qs) =
        let m = part_after n q in
        let va = part_news si n q in
        let vb = values_news (part_values w si m qs) in
        let ba = part_bodies w si within owner n q in
        let bb = parts_bodies w si within owner m qs in
        spread_as n.literals (parts_after m qs).literals
        (va ++ vb) (values_news (part_values w si n (t.more_parts q qs))) (bodies_news ba ++ bodies_news bb) (bodies_news (ba ++ bb))
        (sym (with_field_news si n q (part_values w si m qs))) (sym (bodies_news_append ba bb))
        (spread_both n.literals m.literals (parts_after m qs).literals
        va (bodies_news ba) vb (bodies_news bb) (part_spread si within owner n q) (parts_spread si within owner m qs))

    pub tail_spread : (p : Place) (si : Sight) (n : Count) (b : t.TailTree) →
        Spread n.literals (tail_after n b).literals (block_news (tail_block w p si n b)) (bodies_news (tail_bodies w si n b))
    tail_spread p si n (t.short r) = rhs_spread si n r
    tail_spread p si n (t.long xs) = stmts_spread p si n xs

------------------------------------------------------------
-- Scopes

module_makes_once : (heads : List Head) (modules : List ModuleTree) (m : ModuleTree) → Apart (scope_news (scope_of_module heads modules m))
module_makes_once heads modules m =
    let w = module_within heads modules m in
    let within = inside outermost m.parts in
    spread_apart at_start.literals (parts_after at_start m.parts).literals
    (values_news (part_values w outermost at_start m.parts)) (bodies_news (parts_bodies w outermost within 0 at_start m.parts))
    (parts_spread w outermost within 0 at_start m.parts)

program_makes_once : (heads : List Head) (modules : List ModuleTree) (g : ProgramTree) → Apart (scope_news (scope_of_program heads modules g))
program_makes_once heads modules g =
    let w = program_within heads modules g in
    spread_apart at_start.literals (tail_after at_start g.body).literals
    (block_news (tail_block w g.run outermost at_start g.body)) (bodies_news (tail_bodies w outermost at_start g.body))
    (tail_spread w g.run outermost at_start g.body)

pub makes_once : ResolvedMakesOnce
makes_once items p r =
    let modules = modules_of items in
    let heads = heads_of (types_of items) in
    let P : Scope → Type 0 = λ v. Apart (scope_news v) in
    each_scope items p r P (λ m i. module_makes_once heads modules m) (program_makes_once heads modules r.program)
