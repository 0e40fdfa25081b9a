use Rattle.wy_verify.proofs.Owning.{literals_step}
use Rattle.wy_verify.proofs.tables.Owners.add_literals.Goals as goal

pub loop-at-preserved : goal.loop-at-preserved
loop-at-preserved c =
    literals_step c.args.self.now.owners c.loop-at.self.owners c.add_methods.new.self.owners c.args.scope c.loop-at.at
    c.in_ok-word.field-0 c.args.literals.now c.item_at.result.now c.item_at.ensures c.in_ok-word.ensures
    c.loop-at.invariant c.in_ok-add_methods.ensures
