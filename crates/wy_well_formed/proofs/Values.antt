-- Right sides, statements and initialisers that are not refused fit.
use Rattle.std.proofs.Common.{◌≡◌, ℕ, suc, ◌+◌, ◌<◌, List, [], ◌∷◌, ◌++◌, length, Bool as Truth, Option, Some, None, refl, sym, subst, arith}
use Rattle.std.specs.Prelude.{◌||◌, slice_get}
use Rattle.wy_text.specs.declared.fault.Place.{Place}
use Rattle.wy_syntax.specs.declared.types.TypeUse.{TypeUse}
use Rattle.wy_syntax.specs.Trees as t
use Rattle.wy_text.specs.Members as members
use Rattle.wy_types.specs.declared.types.TypeRef.{TypeRef}
use Rattle.wy_types.specs.declared.code.Variable.{Variable}
use Rattle.wy_types.specs.declared.code.Variable.TheVariants.{Local}
use Rattle.wy_types.specs.declared.resolved.Literal.{Literal}
use Rattle.wy_types.specs.Code as code
use Rattle.wy_types.specs.Program.{Program, Scope}
use Rattle.wy_types.specs.Core.{IsWritten, ExprFits, ValueFits, ValuesFit, BlockFits}
use Rattle.wy_types.specs.Vals.{value_count, literal_fields, literal_captures}
use Rattle.wy_symbols.specs.Declarations.{same_name}
use Rattle.wy_bodies.specs.Sight.{Sight, inside, expr_writes, rhs_writes, stmt_writes, stmts_write, part_writes, parts_write, tail_writes}
use Rattle.wy_bodies.specs.Bodies.{Within, Count, one_val, one_literal, one_body, rhs_after, stmt_after, stmts_after, part_after, tail_after, bound, typed, typed_if, stmt_sight, last_or, expr_value, rhs_value, stmt_block, stmts_block, part_values, with_field, tail_block, fields_of, literal_of, rhs_literals, stmt_literals, stmts_literals, part_literals, parts_literals, tail_literals}
use Rattle.wy_bodies.specs.BodyRefusals.{value_refusals, typed_refusals, typed_if_refusals, expr_refusals, repeated_parts, rhs_refusals, stmt_refusals, stmts_refusals, part_refusals, parts_refusals, tail_refusals}
use Rattle.wy_symbols.proofs.Firsts.{same_itself}
use Rattle.wy_well_formed.proofs.Scoping.{ReadsIn}
use Rattle.wy_well_formed.proofs.Repeats.{append_empty}
use Rattle.wy_well_formed.proofs.Placed.{Lies, lies_left, lies_right, number_below}
use Rattle.wy_well_formed.proofs.Growing.{stmt_literals_more, stmts_literals_more, part_literals_more}
use Rattle.wy_well_formed.proofs.Sights.{some_same}
use Rattle.wy_well_formed.proofs.Seeing.{Sees, sees_left, sees_right, sees_val, writes_left, name_fits, captures_seen}
use Rattle.wy_well_formed.proofs.Expressions.{expr_fits, operand_fits}

-- there is an initialiser for each field
pub value_for_each : (w : Within) (si : Sight) (n : Count) (ps : t.PartTrees) → value_count (part_values w si n ps) ≡ length (fields_of w ps)
value_for_each w si n t.no_parts = refl
value_for_each w si n (t.more_parts (t.field k x u r) ps) = (let h = value_for_each w si (rhs_after n r) ps in omega arith)
value_for_each w si n (t.more_parts (t.method g b) ps) = value_for_each w si (tail_after (one_body n) b) ps

pub positive : (k j m : ℕ) → m ≡ k + j → 0 < k → 0 < m
positive k j m e h = omega arith

-- the variables that are seen after a statement
abbrev stmt_vars : List Variable → Count → t.StmtTree → List Variable
stmt_vars vars n (t.val x u r) = Local n.vals ∷ vars
stmt_vars vars n (t.assign x r) = vars
stmt_vars vars n (t.run r) = vars

stmt_sees : (s : Scope) (owner : Option ℕ) (vars : List Variable) (w : Within) (si : Sight) (n : Count) (x : t.StmtTree) (W : List ℕ → Truth) → Sees s owner vars si W → Sees s owner (stmt_vars vars n x) (stmt_sight w si n x) W
stmt_sees s owner vars w si n (t.val x u r) W h = sees_val s owner vars si W x.text n.vals h
stmt_sees s owner vars w si n (t.assign x r) W h = h
stmt_sees s owner vars w si n (t.run r) W h = h

module _ (p : Program) (s : Scope) (w : Within) (read : ReadsIn p s w) where
  typed_if_written : (u : Option TypeUse) → typed_if_refusals w u ≡ [] → (k : TypeRef) → typed_if w u ≡ Some k → IsWritten p s k
  typed_if_written None r k e = absurd (cc)
  typed_if_written (Some u) r k e = (let same : typed w u ≡ k = some_same (typed w u) k e in subst (IsWritten p s) same (read.types u r))

  module _ (owner : Option ℕ) where
    last_or_fits : (vars : List Variable) (xs : t.StmtTrees) (v : code.Value) (rest : code.Block) → ValueFits p s owner vars v → BlockFits p s owner vars rest → BlockFits p s owner vars (last_or w xs v rest)
    last_or_fits vars t.no_stmts v rest h g = h
    last_or_fits vars (t.more_stmts x xs) v rest h g = (h, g)

    -- the `new` of a literal
    new_fits : (vars : List Variable) (si : Sight) (n : Count) (q : Place) (ps : t.PartTrees) → 0 < n.literals → slice_get s.literals n.literals ≡ Some (literal_of w si ps) → Sees s owner vars si (λ x. parts_write x ps) →
        ValuesFit p s owner vars (part_values w si (one_literal n) ps) → ExprFits p s owner vars (code.New q n.literals (part_values w si (one_literal n) ps))
    new_fits vars si n q ps pos at h g =
        let P : Option Literal → Type 0 = λ o. value_count (part_values w si (one_literal n) ps) ≡ length (literal_fields o) in
        let Q : Option Literal → Type 0 = λ o. members.Within (literal_captures o) vars in
        (pos, number_below s.literals n.literals (literal_of w si ps) at, subst P (sym at) (value_for_each w si (one_literal n) ps), subst Q (sym at) (captures_seen s owner vars si ps h), g)

    -- what stands in a block or an initialiser, at literals that lie in the scope's
    mutual
      pub rhs_fits : (vars : List Variable) (si : Sight) (n : Count) (r : t.RhsTree) → Sees s owner vars si (λ x. rhs_writes x r) → rhs_refusals w si n r ≡ [] → 0 < n.literals → Lies s.literals n.literals (rhs_literals w si n r) → ValueFits p s owner vars (rhs_value w si n r)
      rhs_fits vars si n (t.literal q ps) h e pos lie =
          let r = append_empty (repeated_parts ps) (parts_refusals w si (inside si ps) (one_literal n) ps) e in
          let same : suc n.literals ≡ n.literals + 1 = omega arith in
          let rest : Lies s.literals (n.literals + 1) (parts_literals w si (inside si ps) (one_literal n) ps) = subst (λ k. Lies s.literals k (parts_literals w si (inside si ps) (one_literal n) ps)) same lie.1 in
          new_fits vars si n q ps pos lie.0 h (initials_fit vars si (inside si ps) (one_literal n) ps h r.1 (omega arith) rest)
      rhs_fits vars si n (t.branch q c a b) h e pos lie =
          let m = stmts_after n a in
          let r = append_empty (expr_refusals w si c) (stmts_refusals w si n a ++ stmts_refusals w si m b) e in
          let z = append_empty (stmts_refusals w si n a) (stmts_refusals w si m b) r.1 in
          let both = sees_right s owner vars si (λ x. expr_writes x c) (λ x. stmts_write x a || stmts_write x b) h in
          let more = stmts_literals_more w si n a in (
            operand_fits p s w read owner vars si (expr_value w si c) (expr_fits p s w read owner vars si c (sees_left s owner vars si (λ x. expr_writes x c) (λ x. stmts_write x a || stmts_write x b) h) r.0),
            stmts_fit q vars si n a (sees_left s owner vars si (λ x. stmts_write x a) (λ x. stmts_write x b) both) z.0 pos (lies_left s.literals n.literals (stmts_literals w si n a) (stmts_literals w si m b) lie),
            stmts_fit q vars si m b (sees_right s owner vars si (λ x. stmts_write x a) (λ x. stmts_write x b) both) z.1 (positive n.literals _ m.literals more pos)
                (lies_right s.literals n.literals m.literals (stmts_literals w si n a) (stmts_literals w si m b) more lie),
          )
      rhs_fits vars si n (t.value v) h e pos lie = expr_fits p s w read owner vars si v h e

      stmt_fits : (vars : List Variable) (si : Sight) (n : Count) (x : t.StmtTree) (after : t.StmtTrees) (rest : code.Block) → Sees s owner vars si (λ y. stmt_writes y x) → stmt_refusals w si n x ≡ [] → 0 < n.literals →
          Lies s.literals n.literals (stmt_literals w si n x) → BlockFits p s owner (stmt_vars vars n x) rest → BlockFits p s owner vars (stmt_block w si n x after rest)
      stmt_fits vars si n (t.val x u r) after rest h e pos lie g =
          let z = append_empty (typed_if_refusals w u) (rhs_refusals w si (one_val n) r) e in
          (typed_if_written u z.0, rhs_fits vars si (one_val n) r h z.1 pos lie, g)
      stmt_fits vars si n (t.assign x r) after rest h e pos lie g =
          let z = append_empty (value_refusals w si x) (rhs_refusals w si n r) e in
          let W : List ℕ → Truth = λ y. stmt_writes y (t.assign x r) in
          last_or_fits vars after (code.Plain (code.Assign x.place (bound w si x) (rhs_value w si n r))) rest (
            name_fits p s owner vars w si W read.own h x (writes_left (same_name x.text x.text) (rhs_writes x.text r) (same_itself x.text)) z.0,
            rhs_fits vars si n r (sees_right s owner vars si (λ y. same_name x.text y) (λ y. rhs_writes y r) h) z.1 pos lie,
          )
          g
      stmt_fits vars si n (t.run r) after rest h e pos lie g = last_or_fits vars after (rhs_value w si n r) rest (rhs_fits vars si n r h e pos lie) g

      pub stmts_fit : (q : Place) (vars : List Variable) (si : Sight) (n : Count) (xs : t.StmtTrees) → Sees s owner vars si (λ x. stmts_write x xs) → stmts_refusals w si n xs ≡ [] → 0 < n.literals → Lies s.literals n.literals (stmts_literals w si n xs) → BlockFits p s owner vars (stmts_block w q si n xs)
      stmts_fit q vars si n t.no_stmts h e pos lie = tt
      stmts_fit q vars si n (t.more_stmts x xs) h e pos lie =
          let m = stmt_after n x in
          let sj = stmt_sight w si n x in
          let z = append_empty (stmt_refusals w si n x) (stmts_refusals w sj m xs) e in
          let more = stmt_literals_more w si n x in
          let rest = sees_right s owner vars si (λ y. stmt_writes y x) (λ y. stmts_write y xs) h in
          stmt_fits vars si n x xs (stmts_block w q sj m xs) (sees_left s owner vars si (λ y. stmt_writes y x) (λ y. stmts_write y xs) h) z.0 pos (lies_left s.literals n.literals (stmt_literals w si n x) (stmts_literals w sj m xs) lie)
          (stmts_fit q (stmt_vars vars n x) sj m xs (stmt_sees s owner vars w si n x (λ y. stmts_write y xs) rest) z.1 (positive n.literals _ m.literals more pos)
          (lies_right s.literals n.literals m.literals (stmt_literals w si n x) (stmts_literals w sj m xs) more lie))

      initial_fits : (vars : List Variable) (si within : Sight) (n : Count) (q : t.PartTree) (rest : code.Values) → Sees s owner vars si (λ x. part_writes x q) → part_refusals w si within n q ≡ [] → 0 < n.literals →
          Lies s.literals n.literals (part_literals w si within n q) → ValuesFit p s owner vars rest → ValuesFit p s owner vars (with_field w si n q rest)
      initial_fits vars si within n (t.field k x u r) rest h e pos lie g =
          let z = append_empty (typed_refusals w u) (rhs_refusals w si n r) e in
          (rhs_fits vars si n r h z.1 pos lie, g)
      initial_fits vars si within n (t.method f b) rest h e pos lie g = g

      pub initials_fit : (vars : List Variable) (si within : Sight) (n : Count) (qs : t.PartTrees) → Sees s owner vars si (λ x. parts_write x qs) → parts_refusals w si within n qs ≡ [] → 0 < n.literals →
          Lies s.literals n.literals (parts_literals w si within n qs) → ValuesFit p s owner vars (part_values w si n qs)
      initials_fit vars si within n t.no_parts h e pos lie = tt
      initials_fit vars si within n (t.more_parts q qs) h e pos lie =
          let m = part_after n q in
          let z = append_empty (part_refusals w si within n q) (parts_refusals w si within m qs) e in
          let more = part_literals_more w si within n q in
          initial_fits vars si within n q (part_values w si m qs) (sees_left s owner vars si (λ x. part_writes x q) (λ x. parts_write x qs) h) z.0 pos (lies_left s.literals n.literals (part_literals w si within n q) (parts_literals w si within m qs) lie)
          (initials_fit vars si within m qs (sees_right s owner vars si (λ x. part_writes x q) (λ x. parts_write x qs) h) z.1 (positive n.literals _ m.literals more pos)
          (lies_right s.literals n.literals m.literals (part_literals w si within n q) (parts_literals w si within m qs) more lie))

    pub tail_fits : (q : Place) (vars : List Variable) (si : Sight) (n : Count) (b : t.TailTree) → Sees s owner vars si (λ x. tail_writes x b) → tail_refusals w si n b ≡ [] → 0 < n.literals → Lies s.literals n.literals (tail_literals w si n b) → BlockFits p s owner vars (tail_block w q si n b)
    tail_fits q vars si n (t.short r) h e pos lie = rhs_fits vars si n r h e pos lie
    tail_fits q vars si n (t.long xs) h e pos lie = stmts_fit q vars si n xs h e pos lie
