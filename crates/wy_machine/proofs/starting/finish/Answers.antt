use Rattle.std.proofs.Common.{[], ◌∷◌}
use Rattle.wy_device.specs.declared.deed.Event.TheVariants.{Leave}
use Rattle.wy_machine.specs.Steps.{beginning}
use Rattle.wy_machine.proofs.StartSteps.{leave_quiet, finishing, begin_sound}
use Rattle.wy_machine.proofs.Quiet.{same_step}
use Rattle.wy_machine.proofs.starting.finish.Goals as goal

pub begin-requires-clause-sound : goal.begin-requires-clause-sound
begin-requires-clause-sound c = begin_sound c.args.code.now c.args.machine.now.store c.args.place c.args.machine.now.stack c.requires.sound

pub returns-clause-step : goal.returns-clause-step
returns-clause-step c = λ d.
    let m = c.args.machine.now in
    same_step c.args.code.now _ _ (beginning c.args.code.now (Leave ∷ []) m.store) _ d d _ (finishing c.args.code.now m.store c.args.place m.stack c.requires.sound) (c.begin.ensures.step (Leave ∷ []) leave_quiet d)
