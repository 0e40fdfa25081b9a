use Rattle.std.proofs.Common.{sym, subst}
use Rattle.wy_machine.specs.OpenBodies.{StackState}
use Rattle.wy_machine.specs.Steps.{acting, stepping, IsNotStuck}
use Rattle.wy_machine.proofs.Fetching.{next_there, fetched}
use Rattle.wy_machine.proofs.Quiet.{unstuck}
use Rattle.wy_machine.proofs.Telling.{next_observed}
use Rattle.wy_machine.proofs.step.step.Goals as goal

pub fetch-placed-requires : goal.fetch-placed-requires
fetch-placed-requires g c = next_there c.args.code.now c.args.depth c.args.machine.now.stack c.args.machine.now.store c.requires.sound

pub act-requires-clause-sound : goal.act-requires-clause-sound
act-requires-clause-sound g c =
    let m = c.args.machine.now in
    subst (λ (s : StackState). IsNotStuck (acting c.args.code.now c.args.depth c.fetch-placed.result.now.place s m.store c.fetch-placed.result.now.instruction)) (sym c.fetch-placed.ensures.after)
    (unstuck (stepping c.args.code.now c.args.depth m.stack m.store) _ (fetched c.args.code.now c.args.depth m.stack m.store c.fetch-placed.result.now c.fetch-placed.ensures.next) c.requires.sound)

pub returns-clause-step : goal.returns-clause-step
returns-clause-step g c =
    let m = c.args.machine.now in
    next_observed g.W.Observer.hears c.args.code.now c.args.depth m.stack _ _ m.store _ c.fetch-placed.result.now c.fetch-placed.ensures.next c.fetch-placed.ensures.after _ _ _ _ _ c.act.ensures.step
