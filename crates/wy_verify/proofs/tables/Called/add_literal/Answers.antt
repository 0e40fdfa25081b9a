use Rattle.wy_verify.proofs.Walks.{methods_step}
use Rattle.wy_verify.proofs.tables.Called.add_literal.Goals as goal

pub loop-at-preserved : goal.loop-at-preserved
loop-at-preserved c =
    methods_step c.args.self.now.bodies c.loop-at.self.bodies c.note.new.self.bodies c.args.scope c.args.literal c.loop-at.at c.args.methods.now c.item_at.result.now
    c.item_at.ensures c.loop-at.invariant c.in_ok-note.ensures
