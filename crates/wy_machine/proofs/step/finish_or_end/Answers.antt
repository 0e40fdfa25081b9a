use Rattle.std.proofs.Common.{false, refl, subst}
use Rattle.wy_code.specs.declared.instruction.Instruction.TheVariants.{Finish}
use Rattle.wy_machine.specs.Observing.{Left}
use Rattle.wy_machine.specs.Steps.{acting, outcome, IsStep}
use Rattle.wy_machine.proofs.Showings.{shows_finish}
use Rattle.wy_machine.proofs.Telling.{told_both, told_end, told_cut}
use Rattle.wy_machine.proofs.step.finish_or_end.Goals as goal

pub returns-then-not-left-clause-step : goal.returns-then-not-left-clause-step
returns-then-not-left-clause-step g c = λ d.
    let m = c.args.machine.now in
    told_cut g.W.Observer.hears c.args.code.now m.stack.running.instance _ _ _ _ d d (shows_finish c.args.code.now 0 c.args.place.now m.stack m.store _ refl) c.instance-instance.result c.instance-instance.ensures c.finish-own.result (c.finish-own.ensures.step d) c.finish-own.ensures.ends _ _ c.left.new.end
    (subst (λ went. g.W.Observer.hears (Left c.instance-instance.result) c.args.observer.now c.left.new.self (outcome went c.left.new.end)) c.if-not-left.true c.left.ensures)

pub returns-in-Ok-clause-step : goal.returns-in-Ok-clause-step
returns-in-Ok-clause-step g c = λ d.
    let m = c.args.machine.now in
    let first = subst (λ went. g.W.Observer.hears (Left c.instance-instance.result) c.args.observer.now c.left.new.self (outcome went c.left.new.end)) c.if-not-left.false c.left.ensures in
    told_both g.W.Observer.hears c.args.code.now m.stack.running.instance c.finish-own.new.machine.stack c.finish-own.new.machine.store _ false d d (shows_finish c.args.code.now 0 c.args.place.now m.stack m.store _ refl) c.instance-instance.result c.instance-instance.ensures
    (subst (λ r. IsStep c.args.code.now c.finish-own.new.machine.stack c.finish-own.new.machine.store (acting c.args.code.now 0 c.args.place.now m.stack m.store Finish) d d r) c.in-Ok.is (c.finish-own.ensures.step d))
    c.instance.result c.body.result c.instance.ensures c.body.ensures _ c.left.new.self _ first _ c.entered.ensures

pub returns-in-Err-clause-step : goal.returns-in-Err-clause-step
returns-in-Err-clause-step g c = λ d.
    let m = c.args.machine.now in
    let first = subst (λ went. g.W.Observer.hears (Left c.instance-instance.result) c.args.observer.now c.left.new.self (outcome went c.left.new.end)) c.if-not-left.false c.left.ensures in
    told_end g.W.Observer.hears c.args.code.now m.stack.running.instance _ _ _ _ d d (shows_finish c.args.code.now 0 c.args.place.now m.stack m.store _ refl) c.instance-instance.result c.instance-instance.ensures c.finish-own.result (c.finish-own.ensures.step d) c.finish-own.ensures.ends c.in-Err.stop c.in-Err.is _ _ first
