use Rattle.std.proofs.Common.{◌≡◌, Ok, Err, sym, ap, ◌∙◌, subst}
use Rattle.std.specs.Prelude.{IfErr}
use Rattle.wy_machine.specs.declared.run_end.RunEnd.TheVariants.{Ended}
use Rattle.wy_machine.specs.Steps.{starting, outcome, IsStep}
use Rattle.wy_machine.proofs.Showings.{shows_first}
use Rattle.wy_machine.proofs.Telling.{told_entry, told_stop}
use Rattle.wy_machine.proofs.observed_run.start_or_end.Goals as goal

pub returns-then-went_on-clause-step : goal.returns-then-went_on-clause-step
returns-then-went_on-clause-step g c = λ d.
    let own = sym c.went_on.ensures ∙ ap (λ went. outcome went c.went_on.new.end) c.if-went_on.true in
    told_entry g.W.Observer.hears c.args.code.now 0 _ _ _ _ d d (shows_first c.args.code.now)
    (subst (λ r. IsStep c.args.code.now c.start.new.machine.stack c.start.new.machine.store (starting c.args.code.now) d d r) own (c.start.ensures.step d))
    c.instance.result c.body.result c.instance.ensures c.body.ensures _ _ _ c.entered.ensures

pub returns-else-went_on-clause-step : goal.returns-else-went_on-clause-step
returns-else-went_on-clause-step g c = λ d.
    let own = sym c.went_on.ensures ∙ ap (λ went. outcome went c.went_on.new.end) c.if-went_on.false in
    told_stop g.W.Observer.hears c.args.code.now 0 _ _ _ _ d d (shows_first c.args.code.now) c.went_on.new.end
    (subst (λ r. IsStep c.args.code.now c.start.new.machine.stack c.start.new.machine.store (starting c.args.code.now) d d r) own (c.start.ensures.step d))
    (subst (λ r. IfErr r (λ end. end ≡ Ended)) own c.start.ensures.ends) c.args.observer.now
