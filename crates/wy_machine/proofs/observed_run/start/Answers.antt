use Rattle.std.proofs.Common.{[], sym, ap, ◌∙◌, subst}
use Rattle.wy_machine.specs.Steps.{beginning, starting, IsNotStuck}
use Rattle.wy_machine.specs.StoreStates.{store_with}
use Rattle.wy_machine.specs.StoreState.{StoreState}
use Rattle.wy_machine.proofs.FirstSteps.{starts}
use Rattle.wy_machine.proofs.Quiet.{no_events, same_step, unstuck}
use Rattle.wy_machine.proofs.observed_run.start.Goals as goal

pub begin-requires-clause-sound : goal.begin-requires-clause-sound
begin-requires-clause-sound c =
    let code = c.args.code.now in
    let first = c.restart.ensures ∙ ap store_with c.requires.loaded.objects in
    subst (λ (w : StoreState). IsNotStuck (beginning code [] w)) (sym first) (unstuck (starting code) _ (starts code) c.requires.sound)

pub returns-clause-step : goal.returns-clause-step
returns-clause-step c = λ d.
    let code = c.args.code.now in
    let first = c.restart.ensures ∙ ap store_with c.requires.loaded.objects in
    same_step code _ _ (beginning code [] c.restart.new.self) (starting code) d d _
    (λ t. starts code t ∙ ap (λ (w : StoreState). beginning code [] w t) (sym first))
    (c.begin.ensures.step [] no_events d)
