-- Of `val` statements the methods of a literal capture those that stand before them, in the start or in an earlier body.
use Rattle.std.proofs.Common.{◌≡◌, ℕ, suc, ◌+◌, List, [], ◌∷◌, ◌++◌, inl, inr, Option, refl, sym, ap, ◌∙◌, subst, arith}
use Rattle.std.specs.Prelude.{slice_get}
use Rattle.wy_text.specs.declared.fault.Place.{Place}
use Rattle.wy_syntax.specs.declared.types.Param.{Param}
use Rattle.wy_syntax.specs.Trees as t
use Rattle.wy_text.specs.Members as members
use Rattle.wy_text.specs.Members.{In}
use Rattle.wy_text.proofs.Lists.{In-left, In-right, In-cases}
use Rattle.wy_types.specs.declared.code.Variable.TheVariants.{Parameter, Local}
use Rattle.wy_types.specs.declared.code.Binding.TheVariants as to
use Rattle.wy_types.specs.declared.resolved.Literal.{Literal}
use Rattle.wy_types.specs.Program.{Scope, Body}
use Rattle.wy_types.specs.Core.{CapturesBefore}
use Rattle.wy_types.specs.Vals.{literal_captures, expr_vals, value_vals, values_vals, block_vals}
use Rattle.wy_bodies.specs.declared.sight.Entry.{Entry}
use Rattle.wy_bodies.specs.Sight.{Sight, entry, variables, fields_from, params_from, with_val, with_params, inside, captures}
use Rattle.wy_bodies.specs.Bodies as names
use Rattle.wy_bodies.specs.Bodies.{Count, one_val, one_literal, one_body, stmt_after, stmts_after, part_after, stmt_sight, operand, expr_value, rhs_value, stmts_block, part_values, tail_block, rhs_literals, stmt_literals, stmts_literals, part_literals, parts_literals, tail_literals, rhs_bodies, stmt_bodies, stmts_bodies, part_bodies, parts_bodies, tail_bodies}
use Rattle.wy_well_formed.proofs.Placed.{Lies, lies_left, lies_right}
use Rattle.wy_well_formed.proofs.Growing.{stmt_literals_more, stmts_literals_more, part_literals_more}
use Rattle.wy_well_formed.proofs.Sights.{bound_entry, variables_among, captured_is_last}
use Rattle.wy_well_formed.proofs.Vals.{stmt_vals, stmt_block_vals, part_vals, with_field_vals}

-- the `val`s that entries stand for are among numbers
abbrev pub LocalsIn : List ℕ → List Entry → Type 0
LocalsIn before es = (e : Entry) (k : ℕ) → In e es → e.bound ≡ to.Variable (Local k) → In k before

pub locals_wider : (before more : List ℕ) (es : List Entry) → members.Within before more → LocalsIn before es → LocalsIn more es
locals_wider before more es le h e k i b = le k (h e k i b)

-- after a `val`
locals_val : (before : List ℕ) (si : Sight) (name : List ℕ) (k : ℕ) → In k before → LocalsIn before si.entries → LocalsIn before (with_val si name k).entries
locals_val before si name k there h e j i b =
    elim (In-cases e si.entries (entry name (to.Variable (Local k)) ∷ []) i) [
      | inl q ↦ h e j q b
      | inr q ↦ elim q [
        | inl same ↦ (let is : to.Variable (Local k) ≡ to.Variable (Local j) = ap (λ (d : Entry). d.bound) same ∙ b in let eq : k ≡ j = cc in let P : ℕ → Type 0 = λ m. In m before in subst P eq there)
        | inr none ↦ absurd none
      ]
    ]

-- fields and parameters are none
no_local_field : (before : List ℕ) (k : ℕ) (ps : t.PartTrees) → LocalsIn before (fields_from k ps)
no_local_field before k t.no_parts e j i b = absurd i
no_local_field before k (t.more_parts (t.field kind x u r) ps) e j (inl same) b = absurd (let is : to.Field k ≡ to.Variable (Local j) = ap (λ (d : Entry). d.bound) same ∙ b in cc)
no_local_field before k (t.more_parts (t.field kind x u r) ps) e j (inr i) b = no_local_field before (k + 1) ps e j i b
no_local_field before k (t.more_parts (t.method g m) ps) e j i b = no_local_field before k ps e j i b

no_local_param : (before : List ℕ) (body k : ℕ) (ps : List Param) → LocalsIn before (params_from body k ps)
no_local_param before body k [] e j i b = absurd i
no_local_param before body k (p ∷ ps) e j (inl same) b = absurd (let is : to.Variable (Parameter body k) ≡ to.Variable (Local j) = ap (λ (d : Entry). d.bound) same ∙ b in cc)
no_local_param before body k (p ∷ ps) e j (inr i) b = no_local_param before body (k + 1) ps e j i b

-- going into the methods of a literal
pub locals_inside : (before : List ℕ) (si : Sight) (ps : t.PartTrees) → LocalsIn before si.entries → LocalsIn before (inside si ps).entries
locals_inside before si ps h e k i b =
    elim (In-cases e (variables si.entries) (fields_from 0 ps) i) [
      | inl j ↦ h e k (variables_among si.entries e j).0 b
      | inr j ↦ no_local_field before 0 ps e k j b
    ]

locals_params : (before : List ℕ) (si : Sight) (body : ℕ) (ps : List Param) → LocalsIn before si.entries → LocalsIn before (with_params si body ps).entries
locals_params before si body ps h e k i b =
    elim (In-cases e si.entries (params_from body 0 ps) i) [ inl j ↦ h e k j b | inr j ↦ no_local_param before body 0 ps e k j b ]

-- what a literal captures of them
pub captured_before : (before : List ℕ) (si : Sight) (ps : t.PartTrees) → LocalsIn before si.entries → (k : ℕ) → In (Local k) (captures si ps) → In k before
captured_before before si ps h k i =
    let r = captured_is_last (variables si.entries) ps (Local k) i in
    let e = bound_entry (variables si.entries) r.0 (to.Variable (Local k)) r.2 in
    h e.0 k (variables_among si.entries e.0 e.1).0 e.2

-- more before, and one list of bodies after another
captures_wider : (s : Scope) (before more : List ℕ) (bs : List Body) → members.Within before more → CapturesBefore s before bs → CapturesBefore s more bs
captures_wider s before more [] le h = tt
captures_wider s before more (b ∷ bs) le h = (
  λ k i. le k (h.0 k i),
  captures_wider s (before ++ block_vals b.block) (more ++ block_vals b.block) bs
      (λ k i. elim (In-cases k before (block_vals b.block) i) [ inl j ↦ In-left k more (block_vals b.block) (le k j) | inr j ↦ In-right k more (block_vals b.block) j ])
      h.1,
)

captures_append : (s : Scope) (before : List ℕ) (xs ys : List Body) → CapturesBefore s before xs → CapturesBefore s before ys → CapturesBefore s before (xs ++ ys)
captures_append s before [] ys h g = g
captures_append s before (b ∷ xs) ys h g =
    (h.0, captures_append s (before ++ block_vals b.block) xs ys h.1 (captures_wider s before (before ++ block_vals b.block) ys (λ k i. In-left k before (block_vals b.block) i) g))

-- parts of numbers within others
within_left : (xs ys zs : List ℕ) → members.Within (xs ++ ys) zs → members.Within xs zs
within_left xs ys zs h k i = h k (In-left k xs ys i)

within_right : (xs ys zs : List ℕ) → members.Within (xs ++ ys) zs → members.Within ys zs
within_right xs ys zs h k i = h k (In-right k xs ys i)

module _ (s : Scope) (w : names.Within) where
  stmt_locals : (before : List ℕ) (si : Sight) (n : Count) (x : t.StmtTree) → members.Within (stmt_vals w si n x) before → LocalsIn before si.entries → LocalsIn before (stmt_sight w si n x).entries
  stmt_locals before si n (t.val x u r) there h = locals_val before si x.text n.vals (there n.vals (inl refl)) h
  stmt_locals before si n (t.assign x r) there h = h
  stmt_locals before si n (t.run r) there h = h

  -- the bodies in a tree, where its own numbers and what is in sight are before them
  mutual
    pub rhs_captured : (before : List ℕ) (si : Sight) (n : Count) (r : t.RhsTree) → LocalsIn before si.entries → members.Within (value_vals (rhs_value w si n r)) before → Lies s.literals n.literals (rhs_literals w si n r) → CapturesBefore s before (rhs_bodies w si n r)
    rhs_captured before si n (t.literal q ps) h v lie =
        let same : suc n.literals ≡ n.literals + 1 = omega arith in
        let rest = subst (λ k. Lies s.literals k (parts_literals w si (inside si ps) (one_literal n) ps)) same lie.1 in
        let P : Option Literal → Type 0 = λ o. (k : ℕ) → In (Local k) (literal_captures o) → In k before in
        parts_captured before si (inside si ps) n.literals (one_literal n) ps h (locals_inside before si ps h) (subst P (sym lie.0) (captured_before before si ps h)) v rest
    rhs_captured before si n (t.branch q c a b) h v lie =
        let m = stmts_after n a in
        let va = block_vals (stmts_block w q si n a) in
        let vb = block_vals (stmts_block w q si m b) in
        let both = within_right (expr_vals (operand (expr_value w si c))) (va ++ vb) before v in
        captures_append s before (stmts_bodies w si n a) (stmts_bodies w si m b)
        (stmts_captured before q si n a h (within_left va vb before both) (lies_left s.literals n.literals (stmts_literals w si n a) (stmts_literals w si m b) lie))
        (stmts_captured before q si m b h (within_right va vb before both) (lies_right s.literals n.literals m.literals (stmts_literals w si n a) (stmts_literals w si m b) (stmts_literals_more w si n a) lie))
    rhs_captured before si n (t.value e) h v lie = tt

    stmt_captured : (before : List ℕ) (si : Sight) (n : Count) (x : t.StmtTree) → LocalsIn before si.entries → members.Within (stmt_vals w si n x) before → Lies s.literals n.literals (stmt_literals w si n x) → CapturesBefore s before (stmt_bodies w si n x)
    stmt_captured before si n (t.val x u r) h v lie = rhs_captured before si (one_val n) r h (λ k i. v k (inr i)) lie
    stmt_captured before si n (t.assign x r) h v lie = rhs_captured before si n r h v lie
    stmt_captured before si n (t.run r) h v lie = rhs_captured before si n r h v lie

    pub stmts_captured : (before : List ℕ) (q : Place) (si : Sight) (n : Count) (xs : t.StmtTrees) → LocalsIn before si.entries → members.Within (block_vals (stmts_block w q si n xs)) before → Lies s.literals n.literals (stmts_literals w si n xs) → CapturesBefore s before (stmts_bodies w si n xs)
    stmts_captured before q si n t.no_stmts h v lie = tt
    stmts_captured before q si n (t.more_stmts x xs) h v lie =
        let m = stmt_after n x in
        let sj = stmt_sight w si n x in
        let va = stmt_vals w si n x in
        let vb = block_vals (stmts_block w q sj m xs) in
        let P : List ℕ → Type 0 = λ l. members.Within l before in
        let all = subst P (stmt_block_vals w q si sj n m x xs) v in
        let mine = within_left va vb before all in
        captures_append s before (stmt_bodies w si n x) (stmts_bodies w sj m xs)
        (stmt_captured before si n x h mine (lies_left s.literals n.literals (stmt_literals w si n x) (stmts_literals w sj m xs) lie))
        (stmts_captured before q sj m xs (stmt_locals before si n x mine h) (within_right va vb before all)
        (lies_right s.literals n.literals m.literals (stmt_literals w si n x) (stmts_literals w sj m xs) (stmt_literals_more w si n x) lie))

    part_captured : (before : List ℕ) (si within : Sight) (owner : ℕ) (n : Count) (q : t.PartTree) → LocalsIn before si.entries → LocalsIn before within.entries →
        ((k : ℕ) → In (Local k) (literal_captures (slice_get s.literals owner)) → In k before) → members.Within (part_vals w si n q) before → Lies s.literals n.literals (part_literals w si within n q) → CapturesBefore s before (part_bodies w si within owner n q)
    part_captured before si within owner n (t.field k x u r) h g own v lie = rhs_captured before si n r h v lie
    part_captured before si within owner n (t.method f b) h g own v lie =
        let sj = with_params within n.bodies f.params in
        let mine = block_vals (tail_block w f.place sj (one_body n) b) in
        let wider : members.Within before (before ++ mine) = λ k i. In-left k before mine i in
        (own, tail_captured (before ++ mine) f.place sj (one_body n) b (locals_wider before (before ++ mine) sj.entries wider (locals_params before within n.bodies f.params g)) (λ k i. In-right k before mine i) lie)

    pub parts_captured : (before : List ℕ) (si within : Sight) (owner : ℕ) (n : Count) (qs : t.PartTrees) → LocalsIn before si.entries → LocalsIn before within.entries →
        ((k : ℕ) → In (Local k) (literal_captures (slice_get s.literals owner)) → In k before) → members.Within (values_vals (part_values w si n qs)) before → Lies s.literals n.literals (parts_literals w si within n qs) → CapturesBefore s before (parts_bodies w si within owner n qs)
    parts_captured before si within owner n t.no_parts h g own v lie = tt
    parts_captured before si within owner n (t.more_parts q qs) h g own v lie =
        let m = part_after n q in
        let va = part_vals w si n q in
        let vb = values_vals (part_values w si m qs) in
        let P : List ℕ → Type 0 = λ l. members.Within l before in
        let all = subst P (with_field_vals w si n q (part_values w si m qs)) v in
        captures_append s before (part_bodies w si within owner n q) (parts_bodies w si within owner m qs)
        (part_captured before si within owner n q h g own (within_left va vb before all) (lies_left s.literals n.literals (part_literals w si within n q) (parts_literals w si within m qs) lie))
        (parts_captured before si within owner m qs h g own (within_right va vb before all)
        (lies_right s.literals n.literals m.literals (part_literals w si within n q) (parts_literals w si within m qs) (part_literals_more w si within n q) lie))

    pub tail_captured : (before : List ℕ) (q : Place) (si : Sight) (n : Count) (b : t.TailTree) → LocalsIn before si.entries → members.Within (block_vals (tail_block w q si n b)) before → Lies s.literals n.literals (tail_literals w si n b) → CapturesBefore s before (tail_bodies w si n b)
    tail_captured before q si n (t.short r) h v lie = rhs_captured before si n r h v lie
    tail_captured before q si n (t.long xs) h v lie = stmts_captured before q si n xs h v lie
