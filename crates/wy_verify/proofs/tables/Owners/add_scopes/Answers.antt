use Rattle.wy_verify.proofs.Owning.{scopes_step}
use Rattle.wy_verify.proofs.tables.Owners.add_scopes.Goals as goal

pub loop-at-preserved : goal.loop-at-preserved
loop-at-preserved c =
    scopes_step c.args.self.now.owners c.loop-at.self.owners c.add_scope.new.self.owners c.loop-at.at
    c.in_ok-word.field-0 c.args.scopes.now c.item_at.result.now c.item_at.ensures c.in_ok-word.ensures
    c.loop-at.invariant c.in_ok-add_scope.ensures
