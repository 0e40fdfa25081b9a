use Rattle.wy_verify.proofs.Walks.{literals_step}
use Rattle.wy_verify.proofs.tables.Called.add_scope.Goals as goal

pub loop-at-preserved : goal.loop-at-preserved
loop-at-preserved c =
    literals_step c.args.self.now.bodies c.loop-at.self.bodies c.add_literal.new.self.bodies c.args.scope c.loop-at.at c.in_ok-word.field-0 c.args.literals.now c.item_at.result.now
    c.item_at.ensures c.in_ok-word.ensures c.loop-at.invariant c.in_ok-add_literal.ensures
