use Rattle.std.proofs.Common.{append_assoc, ◌≡◌, suc, List, refl, rules, subst}
use Rattle.wy_syntax.specs.declared.statements.Part.{Part}
use Rattle.wy_syntax.specs.declared.statements.Stmt.{Stmt}
use Rattle.wy_syntax.specs.Canonical.{block_text, parts_text}
use Rattle.wy_syntax.specs.Collected.{Adds}
use Rattle.wy_syntax.specs.Views.{part_trees, stmt_trees}
use Rattle.wy_syntax.proofs.Layers.{rhs_tree-Branch}
use Rattle.wy_syntax.proofs.Gathered.{all_through}
use Rattle.wy_syntax.proofs.printing.statements.+printing.Goals as goal

pub push_block-returns : goal.push_block-returns
push_block-returns t c =
    let inside : c.in-Some.inside ≡ suc c.args.indents = search rules in
    let all = all_through c.args.block.now c.loop-stmt.stmt-index (λ (ss : List Stmt). block_text c.in-Some.inside (stmt_trees ss)) c.loop-stmt-test.false refl c.loop-stmt.invariant in
    subst (λ n. Adds (block_text n (stmt_trees c.args.block.now)) c.args.out.now c.loop-stmt.out) inside all

pub push_parts-returns : goal.push_parts-returns
push_parts-returns t c =
    let inside : c.in-Some.inside ≡ suc c.args.indents = search rules in
    let all = all_through c.args.parts.now c.loop-part.part-index (λ (ps : List Part). parts_text c.in-Some.inside (part_trees ps)) c.loop-part-test.false refl c.loop-part.invariant in
    subst (λ n. Adds (parts_text n (part_trees c.args.parts.now)) c.args.out.now c.loop-part.out) inside all

pub push_rhs-returns-in-Branch : goal.push_rhs-returns-in-Branch
push_rhs-returns-in-Branch t c =
    rw (c.in-Branch.is, rhs_tree-Branch c.in-Branch.field-0 c.in-Branch.condition c.in-Branch.first c.in-Branch.second) record {
      enough = λ whole. c.push_if.ensures.enough (c.push_block.ensures.enough (c.push_else.ensures.enough (c.push_block-in-Branch.ensures.enough whole)));
      added = λ whole.
          let w3 = c.push_block-in-Branch.ensures.enough whole in
          let w2 = c.push_else.ensures.enough w3 in
          let w1 = c.push_block.ensures.enough w2 in
          simp append_assoc (simp (c.push_else.ensures.added w3, c.push_block.ensures.added w2, c.push_if.ensures.added w1, c.deref-in-Branch.ensures.value, c.deref-in-Branch-2.ensures.value, append_assoc) at c.push_block-in-Branch.ensures.added whole);
    }
