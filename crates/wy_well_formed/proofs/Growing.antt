-- How the counts of literals and bodies grow over a tree: by as many as the tree has.
use Rattle.std.proofs.Common.{◌≡◌, ℕ, ◌+◌, length, arith, length-append}
use Rattle.wy_syntax.specs.Trees as t
use Rattle.wy_bodies.specs.Sight.{Sight, with_params, inside}
use Rattle.wy_bodies.specs.Bodies.{Within, Count, one_val, one_literal, one_body, rhs_after, stmt_after, stmts_after, part_after, parts_after, tail_after, stmt_sight, rhs_literals, stmt_literals, stmts_literals, part_literals, parts_literals, tail_literals, rhs_bodies, stmt_bodies, stmts_bodies, part_bodies, parts_bodies, tail_bodies}

module _ (w : Within) where
  -- literals
  mutual
    pub rhs_literals_more : (si : Sight) (n : Count) (r : t.RhsTree) → (rhs_after n r).literals ≡ n.literals + length (rhs_literals w si n r)
    rhs_literals_more si n (t.literal p ps) = (let h = parts_literals_more si (inside si ps) (one_literal n) ps in omega arith)
    rhs_literals_more si n (t.branch p c a b) =
        let h = stmts_literals_more si n a in
        let g = stmts_literals_more si (stmts_after n a) b in
        omega (arith, length-append (stmts_literals w si n a) (stmts_literals w si (stmts_after n a) b))
    rhs_literals_more si n (t.value e) = omega arith

    pub stmt_literals_more : (si : Sight) (n : Count) (x : t.StmtTree) → (stmt_after n x).literals ≡ n.literals + length (stmt_literals w si n x)
    stmt_literals_more si n (t.val x u r) = rhs_literals_more si (one_val n) r
    stmt_literals_more si n (t.assign x r) = rhs_literals_more si n r
    stmt_literals_more si n (t.run r) = rhs_literals_more si n r

    pub stmts_literals_more : (si : Sight) (n : Count) (xs : t.StmtTrees) → (stmts_after n xs).literals ≡ n.literals + length (stmts_literals w si n xs)
    stmts_literals_more si n t.no_stmts = omega arith
    stmts_literals_more si n (t.more_stmts x xs) =
        let h = stmt_literals_more si n x in
        let g = stmts_literals_more (stmt_sight w si n x) (stmt_after n x) xs in
        omega (arith, length-append (stmt_literals w si n x) (stmts_literals w (stmt_sight w si n x) (stmt_after n x) xs))

    pub part_literals_more : (si within : Sight) (n : Count) (q : t.PartTree) → (part_after n q).literals ≡ n.literals + length (part_literals w si within n q)
    part_literals_more si within n (t.field k x u r) = rhs_literals_more si n r
    part_literals_more si within n (t.method g b) = tail_literals_more (with_params within n.bodies g.params) (one_body n) b

    pub parts_literals_more : (si within : Sight) (n : Count) (qs : t.PartTrees) → (parts_after n qs).literals ≡ n.literals + length (parts_literals w si within n qs)
    parts_literals_more si within n t.no_parts = omega arith
    parts_literals_more si within n (t.more_parts q qs) =
        let h = part_literals_more si within n q in
        let g = parts_literals_more si within (part_after n q) qs in
        omega (arith, length-append (part_literals w si within n q) (parts_literals w si within (part_after n q) qs))

    pub tail_literals_more : (si : Sight) (n : Count) (b : t.TailTree) → (tail_after n b).literals ≡ n.literals + length (tail_literals w si n b)
    tail_literals_more si n (t.short r) = rhs_literals_more si n r
    tail_literals_more si n (t.long xs) = stmts_literals_more si n xs

  -- bodies
  mutual
    pub rhs_bodies_more : (si : Sight) (n : Count) (r : t.RhsTree) → (rhs_after n r).bodies ≡ n.bodies + length (rhs_bodies w si n r)
    rhs_bodies_more si n (t.literal p ps) = parts_bodies_more si (inside si ps) n.literals (one_literal n) ps
    rhs_bodies_more si n (t.branch p c a b) =
        let h = stmts_bodies_more si n a in
        let g = stmts_bodies_more si (stmts_after n a) b in
        omega (arith, length-append (stmts_bodies w si n a) (stmts_bodies w si (stmts_after n a) b))
    rhs_bodies_more si n (t.value e) = omega arith

    pub stmt_bodies_more : (si : Sight) (n : Count) (x : t.StmtTree) → (stmt_after n x).bodies ≡ n.bodies + length (stmt_bodies w si n x)
    stmt_bodies_more si n (t.val x u r) = rhs_bodies_more si (one_val n) r
    stmt_bodies_more si n (t.assign x r) = rhs_bodies_more si n r
    stmt_bodies_more si n (t.run r) = rhs_bodies_more si n r

    pub stmts_bodies_more : (si : Sight) (n : Count) (xs : t.StmtTrees) → (stmts_after n xs).bodies ≡ n.bodies + length (stmts_bodies w si n xs)
    stmts_bodies_more si n t.no_stmts = omega arith
    stmts_bodies_more si n (t.more_stmts x xs) =
        let h = stmt_bodies_more si n x in
        let g = stmts_bodies_more (stmt_sight w si n x) (stmt_after n x) xs in
        omega (arith, length-append (stmt_bodies w si n x) (stmts_bodies w (stmt_sight w si n x) (stmt_after n x) xs))

    pub part_bodies_more : (si within : Sight) (owner : ℕ) (n : Count) (q : t.PartTree) → (part_after n q).bodies ≡ n.bodies + length (part_bodies w si within owner n q)
    part_bodies_more si within owner n (t.field k x u r) = rhs_bodies_more si n r
    part_bodies_more si within owner n (t.method g b) =
        let h = tail_bodies_more (with_params within n.bodies g.params) (one_body n) b in
        omega arith

    pub parts_bodies_more : (si within : Sight) (owner : ℕ) (n : Count) (qs : t.PartTrees) → (parts_after n qs).bodies ≡ n.bodies + length (parts_bodies w si within owner n qs)
    parts_bodies_more si within owner n t.no_parts = omega arith
    parts_bodies_more si within owner n (t.more_parts q qs) =
        let h = part_bodies_more si within owner n q in
        let g = parts_bodies_more si within owner (part_after n q) qs in
        omega (arith, length-append (part_bodies w si within owner n q) (parts_bodies w si within owner (part_after n q) qs))

    pub tail_bodies_more : (si : Sight) (n : Count) (b : t.TailTree) → (tail_after n b).bodies ≡ n.bodies + length (tail_bodies w si n b)
    tail_bodies_more si n (t.short r) = rhs_bodies_more si n r
    tail_bodies_more si n (t.long xs) = stmts_bodies_more si n xs
