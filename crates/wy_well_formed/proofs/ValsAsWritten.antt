-- The `val` statements of a scope are numbered as they are written: each has the number that its place has among those of the tree.
use Rattle.std.proofs.Common.{◌≡◌, ℕ, suc, ◌+◌, List, [], ◌∷◌, ◌++◌, length, inl, inr, Some, refl, sym, ap₂, ◌∙◌, subst, arith}
use Rattle.std.specs.Prelude.{slice_get}
use Rattle.std.proofs.lemmas.List.{length-append}
use Rattle.wy_text.specs.declared.fault.Place.{Place}
use Rattle.wy_syntax.specs.Trees as t
use Rattle.wy_text.proofs.Lists.{In-cases, In-left, In-right}
use Rattle.wy_types.specs.Code as code
use Rattle.wy_types.specs.Program.{Body}
use Rattle.wy_types.specs.Vals.{start_vals, bodies_vals}
use Rattle.wy_symbols.specs.declared.scoping.Head.{Head}
use Rattle.wy_symbols.specs.Declarations.{ModuleTree, ProgramTree, types_of, modules_of}
use Rattle.wy_symbols.specs.Atoms.{heads_of}
use Rattle.wy_names.specs.Scopes.{module_within, program_within, scope_of_module, scope_of_program}
use Rattle.wy_bodies.specs.Sight.{Sight, outermost, inside, with_params}
use Rattle.wy_bodies.specs.Bodies.{Within, Count, at_start, one_val, one_literal, one_body, rhs_after, stmt_after, stmts_after, part_after, parts_after, tail_after, stmt_sight, last_or, operand, bound, expr_value, expr_values, rhs_value, stmt_block, stmts_block, part_values, tail_block, rhs_bodies, stmt_bodies, stmts_bodies, part_bodies, parts_bodies, tail_bodies}
use Rattle.wy_well_formed.specs.ValPlaces.{ValAt, AllAt, AreNumberedBy, ResolvedValsAreAsWritten, start_vals_at, expr_vals_at, value_vals_at, values_vals_at, block_vals_at, bodies_vals_at, rhs_val_places, stmt_val_places, stmts_val_places, part_val_places, parts_val_places, tail_val_places}
use Rattle.wy_well_formed.proofs.Placed.{Lies, lies_left, lies_right, lies_itself}
use Rattle.wy_well_formed.proofs.EachScope.{module_scope_is, program_scope_is}
use Rattle.wy_well_formed.proofs.Spreads.{Spread}
use Rattle.wy_well_formed.proofs.Vals.{parts_spread, tail_spread}

-- several lists of `val`s
all_append : (places : List Place) (vs ws : List ValAt) → AllAt places vs → AllAt places ws → AllAt places (vs ++ ws)
all_append places vs ws h g v i = elim (In-cases v vs ws i) [ inl j ↦ h v j | inr j ↦ g v j ]

all_none : (places : List Place) (vs : List ValAt) → vs ≡ [] → AllAt places vs
all_none places vs e = (let P : List ValAt → Type 0 = λ l. AllAt places l in subst P (sym e) (λ v i. absurd i))

bodies_all : (places : List Place) (xs ys : List Body) → AllAt places (bodies_vals_at xs) → AllAt places (bodies_vals_at ys) → AllAt places (bodies_vals_at (xs ++ ys))
bodies_all places [] ys h g = g
bodies_all places (x ∷ xs) ys h g =
    let own = block_vals_at x.block in
    let rest = bodies_vals_at xs in
    all_append places own (bodies_vals_at (xs ++ ys)) (λ v i. h v (In-left v own rest i)) (bodies_all places xs ys (λ v i. h v (In-right v own rest i)) g)

both_empty : (xs ys : List ValAt) → xs ≡ [] → ys ≡ [] → xs ++ ys ≡ []
both_empty xs ys h g = ap₂ (λ a b. a ++ b) h g

-- expressions have none
operand_vals_at : (v : code.Value) → value_vals_at v ≡ [] → expr_vals_at (operand v) ≡ []
operand_vals_at (code.Plain x) h = h
operand_vals_at (code.If p c a b) h = refl

module _ (w : Within) (si : Sight) where
  mutual
    expr_has_none : (e : t.ExprTree) → value_vals_at (expr_value w si e) ≡ []
    expr_has_none (t.number v p) = refl
    expr_has_none (t.text x p) = refl
    expr_has_none (t.yes p) = refl
    expr_has_none (t.no p) = refl
    expr_has_none (t.this p) = refl
    expr_has_none (t.name n) = refl
    expr_has_none (t.unit p) = refl
    expr_has_none (t.negate e p) = operand_vals_at (expr_value w si e) (expr_has_none e)
    expr_has_none (t.invert e p) = operand_vals_at (expr_value w si e) (expr_has_none e)
    expr_has_none (t.binary o a b p) = both_empty _ _ (operand_vals_at (expr_value w si a) (expr_has_none a)) (operand_vals_at (expr_value w si b) (expr_has_none b))
    expr_has_none (t.call e n es) = both_empty _ _ (operand_vals_at (expr_value w si e) (expr_has_none e)) (exprs_have_none es)
    expr_has_none (t.size e p) = both_empty _ _ (expr_has_none e) refl
    expr_has_none (t.part e a b p) = both_empty _ _ (expr_has_none e) (both_empty _ _ (expr_has_none a) (both_empty _ _ (expr_has_none b) refl))
    expr_has_none (t.byte_at e i p) = both_empty _ _ (expr_has_none e) (both_empty _ _ (expr_has_none i) refl)
    expr_has_none (t.byte e p) = both_empty _ _ (expr_has_none e) refl
    expr_has_none (t.show e p) = both_empty _ _ (expr_has_none e) refl
    expr_has_none (t.ascribe e u p) = expr_has_none e
    expr_has_none (t.choice c a b p) = both_empty _ _ (operand_vals_at (expr_value w si c) (expr_has_none c)) (both_empty _ _ (expr_has_none a) (expr_has_none b))

    exprs_have_none : (es : t.ExprTrees) → values_vals_at (expr_values w si es) ≡ []
    exprs_have_none t.none = refl
    exprs_have_none (t.more e es) = both_empty _ _ (expr_has_none e) (exprs_have_none es)

-- the count of `val`s grows by as many as the tree has
mutual
  rhs_vals_more : (n : Count) (r : t.RhsTree) → (rhs_after n r).vals ≡ n.vals + length (rhs_val_places r)
  rhs_vals_more n (t.literal p ps) = parts_vals_more (one_literal n) ps
  rhs_vals_more n (t.branch p c a b) =
      let h = stmts_vals_more n a in
      let g = stmts_vals_more (stmts_after n a) b in
      let l = length-append (stmts_val_places a) (stmts_val_places b) in
      omega (arith, h, g, l)
  rhs_vals_more n (t.value e) = omega arith

  stmt_vals_more : (n : Count) (x : t.StmtTree) → (stmt_after n x).vals ≡ n.vals + length (stmt_val_places x)
  stmt_vals_more n (t.val x u r) = (let h = rhs_vals_more (one_val n) r in omega (arith, h))
  stmt_vals_more n (t.assign x r) = rhs_vals_more n r
  stmt_vals_more n (t.run r) = rhs_vals_more n r

  stmts_vals_more : (n : Count) (xs : t.StmtTrees) → (stmts_after n xs).vals ≡ n.vals + length (stmts_val_places xs)
  stmts_vals_more n t.no_stmts = omega arith
  stmts_vals_more n (t.more_stmts x xs) =
      let h = stmt_vals_more n x in
      let g = stmts_vals_more (stmt_after n x) xs in
      let l = length-append (stmt_val_places x) (stmts_val_places xs) in
      omega (arith, h, g, l)

  part_vals_more : (n : Count) (q : t.PartTree) → (part_after n q).vals ≡ n.vals + length (part_val_places q)
  part_vals_more n (t.field k x u r) = rhs_vals_more n r
  part_vals_more n (t.method g b) = tail_vals_more (one_body n) b

  pub parts_vals_more : (n : Count) (qs : t.PartTrees) → (parts_after n qs).vals ≡ n.vals + length (parts_val_places qs)
  parts_vals_more n t.no_parts = omega arith
  parts_vals_more n (t.more_parts q qs) =
      let h = part_vals_more n q in
      let g = parts_vals_more (part_after n q) qs in
      let l = length-append (part_val_places q) (parts_val_places qs) in
      omega (arith, h, g, l)

  pub tail_vals_more : (n : Count) (b : t.TailTree) → (tail_after n b).vals ≡ n.vals + length (tail_val_places b)
  tail_vals_more n (t.short r) = rhs_vals_more n r
  tail_vals_more n (t.long xs) = stmts_vals_more n xs

-- the places of two trees, one after another
module _ (all : List Place) (k m : ℕ) (ps qs : List Place) (more : m ≡ k + length ps) (lie : Lies all k (ps ++ qs)) where
  of_first : Lies all k ps
  of_first = lies_left all k ps qs lie

  of_second : Lies all m qs
  of_second = lies_right all k m ps qs more lie

-- a value before the rest of a block
last_or_all : (all : List Place) (w : Within) (p : Place) (si : Sight) (n : Count) (xs : t.StmtTrees) (v : code.Value) → AllAt all (value_vals_at v) → AllAt all (block_vals_at (stmts_block w p si n xs)) →
    AllAt all (block_vals_at (last_or w xs v (stmts_block w p si n xs)))
last_or_all all w p si n t.no_stmts v h g = h
last_or_all all w p si n (t.more_stmts x xs) v h g = all_append all (value_vals_at v) (block_vals_at (stmts_block w p si n (t.more_stmts x xs))) h g

module _ (all : List Place) (w : Within) where
  -- a tree's own `val`s, and those of the bodies in it, stand at the places that lie in the list from the count on
  mutual
    rhs_own : (si : Sight) (n : Count) (r : t.RhsTree) → Lies all n.vals (rhs_val_places r) → AllAt all (value_vals_at (rhs_value w si n r))
    rhs_own si n (t.literal p ps) lie = parts_own si (one_literal n) ps lie
    rhs_own si n (t.branch p c a b) lie =
        let m = stmts_after n a in
        let pa = stmts_val_places a in
        let pb = stmts_val_places b in
        let more = stmts_vals_more n a in
        let va = block_vals_at (stmts_block w p si n a) in
        let vb = block_vals_at (stmts_block w p si m b) in
        all_append all (expr_vals_at (operand (expr_value w si c))) (va ++ vb) (all_none all (expr_vals_at (operand (expr_value w si c))) (operand_vals_at (expr_value w si c) (expr_has_none w si c)))
        (all_append all va vb (stmts_own p si n a (of_first all n.vals m.vals pa pb more lie)) (stmts_own p si m b (of_second all n.vals m.vals pa pb more lie)))
    rhs_own si n (t.value e) lie = all_none all (value_vals_at (expr_value w si e)) (expr_has_none w si e)

    -- a statement before the others of its block
    stmt_own : (p : Place) (si sj : Sight) (n m : Count) (x : t.StmtTree) (xs : t.StmtTrees) → Lies all n.vals (stmt_val_places x) → AllAt all (block_vals_at (stmts_block w p sj m xs)) →
        AllAt all (block_vals_at (stmt_block w si n x xs (stmts_block w p sj m xs)))
    stmt_own p si sj n m (t.val x u r) xs lie h =
        let same : suc n.vals ≡ n.vals + 1 = omega arith in
        let within = rhs_own si (one_val n) r (subst (λ k. Lies all k (rhs_val_places r)) same lie.1) in
        λ v i. elim i [
          | inl e ↦ subst (λ (u : ValAt). slice_get all u.number ≡ Some u.place) e lie.0
          | inr j ↦ all_append all (value_vals_at (rhs_value w si (one_val n) r)) (block_vals_at (stmts_block w p sj m xs)) within h v j
        ]
    stmt_own p si sj n m (t.assign x r) xs lie h = last_or_all all w p sj m xs (code.Plain (code.Assign x.place (bound w si x) (rhs_value w si n r))) (rhs_own si n r lie) h
    stmt_own p si sj n m (t.run r) xs lie h = last_or_all all w p sj m xs (rhs_value w si n r) (rhs_own si n r lie) h

    stmts_own : (p : Place) (si : Sight) (n : Count) (xs : t.StmtTrees) → Lies all n.vals (stmts_val_places xs) → AllAt all (block_vals_at (stmts_block w p si n xs))
    stmts_own p si n t.no_stmts lie = λ v i. absurd i
    stmts_own p si n (t.more_stmts x xs) lie =
        let m = stmt_after n x in
        let px = stmt_val_places x in
        let ps = stmts_val_places xs in
        let more = stmt_vals_more n x in
        let sj = stmt_sight w si n x in
        stmt_own p si sj n m x xs (of_first all n.vals m.vals px ps more lie) (stmts_own p sj m xs (of_second all n.vals m.vals px ps more lie))

    pub parts_own : (si : Sight) (n : Count) (qs : t.PartTrees) → Lies all n.vals (parts_val_places qs) → AllAt all (values_vals_at (part_values w si n qs))
    parts_own si n t.no_parts lie = λ v i. absurd i
    parts_own si n (t.more_parts (t.field k x u r) qs) lie =
        let m = rhs_after n r in
        let pr = rhs_val_places r in
        let ps = parts_val_places qs in
        let more = rhs_vals_more n r in
        all_append all (value_vals_at (rhs_value w si n r)) (values_vals_at (part_values w si m qs))
        (rhs_own si n r (of_first all n.vals m.vals pr ps more lie)) (parts_own si m qs (of_second all n.vals m.vals pr ps more lie))
    parts_own si n (t.more_parts (t.method g b) qs) lie =
        let m = part_after n (t.method g b) in
        parts_own si m qs (of_second all n.vals m.vals (tail_val_places b) (parts_val_places qs) (tail_vals_more (one_body n) b) lie)

    pub tail_own : (p : Place) (si : Sight) (n : Count) (b : t.TailTree) → Lies all n.vals (tail_val_places b) → AllAt all (block_vals_at (tail_block w p si n b))
    tail_own p si n (t.short r) lie = rhs_own si n r lie
    tail_own p si n (t.long xs) lie = stmts_own p si n xs lie

  mutual
    rhs_inner : (si : Sight) (n : Count) (r : t.RhsTree) → Lies all n.vals (rhs_val_places r) → AllAt all (bodies_vals_at (rhs_bodies w si n r))
    rhs_inner si n (t.literal p ps) lie = parts_inner si (inside si ps) n.literals (one_literal n) ps lie
    rhs_inner si n (t.branch p c a b) lie =
        let m = stmts_after n a in
        let pa = stmts_val_places a in
        let pb = stmts_val_places b in
        let more = stmts_vals_more n a in
        bodies_all all (stmts_bodies w si n a) (stmts_bodies w si m b) (stmts_inner si n a (of_first all n.vals m.vals pa pb more lie)) (stmts_inner si m b (of_second all n.vals m.vals pa pb more lie))
    rhs_inner si n (t.value e) lie = λ v i. absurd i

    stmt_inner : (si : Sight) (n : Count) (x : t.StmtTree) → Lies all n.vals (stmt_val_places x) → AllAt all (bodies_vals_at (stmt_bodies w si n x))
    stmt_inner si n (t.val x u r) lie =
        let same : suc n.vals ≡ n.vals + 1 = omega arith in
        rhs_inner si (one_val n) r (subst (λ k. Lies all k (rhs_val_places r)) same lie.1)
    stmt_inner si n (t.assign x r) lie = rhs_inner si n r lie
    stmt_inner si n (t.run r) lie = rhs_inner si n r lie

    stmts_inner : (si : Sight) (n : Count) (xs : t.StmtTrees) → Lies all n.vals (stmts_val_places xs) → AllAt all (bodies_vals_at (stmts_bodies w si n xs))
    stmts_inner si n t.no_stmts lie = λ v i. absurd i
    stmts_inner si n (t.more_stmts x xs) lie =
        let m = stmt_after n x in
        let px = stmt_val_places x in
        let ps = stmts_val_places xs in
        let more = stmt_vals_more n x in
        let sj = stmt_sight w si n x in
        bodies_all all (stmt_bodies w si n x) (stmts_bodies w sj m xs) (stmt_inner si n x (of_first all n.vals m.vals px ps more lie)) (stmts_inner sj m xs (of_second all n.vals m.vals px ps more lie))

    part_inner : (si within : Sight) (owner : ℕ) (n : Count) (q : t.PartTree) → Lies all n.vals (part_val_places q) → AllAt all (bodies_vals_at (part_bodies w si within owner n q))
    part_inner si within owner n (t.field k x u r) lie = rhs_inner si n r lie
    part_inner si within owner n (t.method g b) lie =
        let sj = with_params within n.bodies g.params in
        all_append all (block_vals_at (tail_block w g.place sj (one_body n) b)) (bodies_vals_at (tail_bodies w sj (one_body n) b))
        (tail_own g.place sj (one_body n) b lie) (tail_inner sj (one_body n) b lie)

    pub parts_inner : (si within : Sight) (owner : ℕ) (n : Count) (qs : t.PartTrees) → Lies all n.vals (parts_val_places qs) → AllAt all (bodies_vals_at (parts_bodies w si within owner n qs))
    parts_inner si within owner n t.no_parts lie = λ v i. absurd i
    parts_inner si within owner n (t.more_parts q qs) lie =
        let m = part_after n q in
        let pq = part_val_places q in
        let ps = parts_val_places qs in
        let more = part_vals_more n q in
        bodies_all all (part_bodies w si within owner n q) (parts_bodies w si within owner m qs)
        (part_inner si within owner n q (of_first all n.vals m.vals pq ps more lie)) (parts_inner si within owner m qs (of_second all n.vals m.vals pq ps more lie))

    pub tail_inner : (si : Sight) (n : Count) (b : t.TailTree) → Lies all n.vals (tail_val_places b) → AllAt all (bodies_vals_at (tail_bodies w si n b))
    tail_inner si n (t.short r) lie = rhs_inner si n r lie
    tail_inner si n (t.long xs) lie = stmts_inner si n xs lie

------------------------------------------------------------
-- Scopes

as_many : (start bodies : List ℕ) (last places : ℕ) → Spread 0 last start bodies → last ≡ 0 + places → length (start ++ bodies) ≡ places
as_many start bodies last places h more = (let c = h.count in let l = length-append start bodies in omega (arith, c, l, more))

pub module_as_written : (heads : List Head) (modules : List ModuleTree) (m : ModuleTree) → AreNumberedBy (parts_val_places m.parts) (scope_of_module heads modules m)
module_as_written heads modules m =
    let s = scope_of_module heads modules m in
    let w = module_within heads modules m in
    let within = inside outermost m.parts in
    let places = parts_val_places m.parts in
    record {
      many = as_many (start_vals s.start) (bodies_vals s.bodies) (parts_after at_start m.parts).vals (length places) (parts_spread w outermost within 0 at_start m.parts) (parts_vals_more at_start m.parts);
      there = all_append places (start_vals_at s.start) (bodies_vals_at s.bodies) (parts_own places w outermost at_start m.parts (lies_itself places)) (parts_inner places w outermost within 0 at_start m.parts (lies_itself places));
    }

pub program_as_written : (heads : List Head) (modules : List ModuleTree) (g : ProgramTree) → AreNumberedBy (tail_val_places g.body) (scope_of_program heads modules g)
program_as_written heads modules g =
    let s = scope_of_program heads modules g in
    let w = program_within heads modules g in
    let places = tail_val_places g.body in
    record {
      many = as_many (start_vals s.start) (bodies_vals s.bodies) (tail_after at_start g.body).vals (length places) (tail_spread w g.run outermost at_start g.body) (tail_vals_more at_start g.body);
      there = all_append places (start_vals_at s.start) (bodies_vals_at s.bodies) (tail_own places w g.run outermost at_start g.body (lies_itself places)) (tail_inner places w outermost at_start g.body (lies_itself places));
    }

same_some : {X : Type 0} (x y : X) → Some x ≡ Some y → x ≡ y
same_some x y e = cc

same_first : {X : Type 0} (x y : X) → x ∷ [] ≡ y ∷ [] → x ≡ y
same_first x y e = cc

pub vals_as_written : ResolvedValsAreAsWritten
vals_as_written items p r =
    let heads = heads_of (types_of items) in
    let modules = modules_of items in
    record {
      modules = λ k m s e f.
          subst (AreNumberedBy (parts_val_places m.parts)) (same_some (scope_of_module heads modules m) s (sym (module_scope_is items p r k m e) ∙ f)) (module_as_written heads modules m);
      program = λ g s e f.
          let same = same_first r.program g (sym r.one ∙ e) in
          let P : ProgramTree → Type 0 = λ v. AreNumberedBy (tail_val_places v.body) s in
          subst P same (subst (AreNumberedBy (tail_val_places (r.program).body)) (same_some (scope_of_program heads modules r.program) s (sym (program_scope_is items p r) ∙ f)) (program_as_written heads modules r.program));
    }
