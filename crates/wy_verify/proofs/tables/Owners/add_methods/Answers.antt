use Rattle.wy_verify.proofs.Owning.{methods_step}
use Rattle.wy_verify.proofs.tables.Owners.add_methods.Goals as goal

pub loop-at-preserved : goal.loop-at-preserved
loop-at-preserved c =
    methods_step c.args.self.now.owners c.loop-at.self.owners c.note.new.self.owners c.args.scope c.args.literal
    c.loop-at.at c.args.methods.now c.item_at.result.now c.item_at.ensures c.loop-at.invariant c.in_ok-note.ensures
