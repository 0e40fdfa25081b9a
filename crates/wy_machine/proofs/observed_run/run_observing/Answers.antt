use Rattle.std.proofs.Common.{◌≡◌, sym, ap, ◌∙◌, subst, arith}
use Rattle.wy_machine.specs.Devices.{states}
use Rattle.wy_machine.specs.Steps.{outcome}
use Rattle.wy_machine.proofs.FirstSteps.{first_sound}
use Rattle.wy_machine.proofs.Leading.{sound_after}
use Rattle.wy_machine.proofs.Loads.{still_loaded}
use Rattle.wy_machine.proofs.ObservedRuns.{LeadsHeard, leads_heard_first, start_heard_stops, leads_heard_more, heard_stops, heard_spent}
use Rattle.wy_machine.proofs.Telling.{observed_so}
use Rattle.wy_machine.proofs.observed_run.run_observing.Goals as goal

pub start_or_end-requires-clause-sound : goal.start_or_end-requires-clause-sound
start_or_end-requires-clause-sound g c = first_sound c.args.code.now c.args.depth c.requires.sound

pub returns-then-not-start_or_end-clause-runs : goal.returns-then-not-start_or_end-clause-runs
returns-then-not-start_or_end-clause-runs g c =
    let d = states g.D.Device.state c.args.devices.now in
    let stopped = ap (λ went. outcome went c.start_or_end.new.end) (sym c.if-not-start_or_end.true) in
    start_heard_stops g.W.Observer.hears c.args.code.now c.args.depth 0 _ _ d c.args.observer.now c.start_or_end.new.observer c.args.steps c.start_or_end.new.end
    (observed_so g.W.Observer.hears c.args.code.now 0 _ _ _ _ d d _ _ _ _ stopped (c.start_or_end.ensures.step d))

pub loop-done-init : goal.loop-done-init
loop-done-init g c =
    let d = states g.D.Device.state c.args.devices.now in
    let went = ap (λ went. outcome went c.start_or_end.new.end) (sym c.if-not-start_or_end.false) in
    record {
      leads = leads_heard_first g.W.Observer.hears c.args.code.now c.args.depth 0 _ _ d _ _ (observed_so g.W.Observer.hears c.args.code.now 0 _ _ _ _ d d _ _ _ _ went (c.start_or_end.ensures.step d));
      limits = c.start_or_end.ensures.limits;
      first = c.start_or_end.ensures.first;
    }

pub step-requires-clause-sound : goal.step-requires-clause-sound
step-requires-clause-sound g c =
    sound_after c.args.code.now c.args.depth (states g.D.Device.state c.args.devices.now) c.loop-done.done _ _ (states g.D.Device.state c.loop-done.devices) c.requires.sound c.loop-done.invariant.leads.leads

pub returns-then-not-step-clause-runs : goal.returns-then-not-step-clause-runs
returns-then-not-step-clause-runs g c =
    let old = states g.D.Device.state c.args.devices.now in
    let mid = states g.D.Device.state c.loop-done.devices in
    let new = states g.D.Device.state c.step.new.devices in
    let stopped = ap (λ went. outcome went c.step.new.end) (sym c.if-not-step.true) in
    heard_stops g.W.Observer.hears c.args.code.now c.args.depth old mid new c.loop-done.done _ _ _ _ _ _ _ c.loop-done.invariant.leads c.args.steps c.loop-done-test.true c.step.new.end
    (observed_so g.W.Observer.hears c.args.code.now _ _ _ _ _ mid new _ _ _ _ stopped c.step.ensures.step)

pub loop-done-preserved : goal.loop-done-preserved
loop-done-preserved g c =
    let old = states g.D.Device.state c.args.devices.now in
    let mid = states g.D.Device.state c.loop-done.devices in
    let new = states g.D.Device.state c.step.new.devices in
    let went = ap (λ went. outcome went c.step.new.end) (sym c.if-not-step.false) in
    record {
      leads = leads_heard_more g.W.Observer.hears c.args.code.now c.args.depth old mid new c.loop-done.done _ _ _ _ _ _ _ c.loop-done.invariant.leads
          (observed_so g.W.Observer.hears c.args.code.now _ _ _ _ _ mid new _ _ _ _ went c.step.ensures.step);
      limits = c.step.ensures.limits ∙ c.loop-done.invariant.limits;
      first = c.step.ensures.first ∙ c.loop-done.invariant.first;
    }

pub returns-clause-runs : goal.returns-clause-runs
returns-clause-runs g c =
    let e : c.loop-done.done ≡ c.args.steps = omega arith in
    let old = states g.D.Device.state c.args.devices.now in
    let new = states g.D.Device.state c.loop-done.devices in
    heard_spent g.W.Observer.hears c.args.code.now c.args.depth old new c.args.steps _ _ _ _
    (subst (λ n. LeadsHeard g.W.Observer.hears c.args.code.now c.args.depth n c.loop-done.machine.stack c.loop-done.machine.store old new c.args.observer.now c.loop-done.observer) e c.loop-done.invariant.leads)

pub step-requires-clause-loaded : goal.step-requires-clause-loaded
step-requires-clause-loaded g c = still_loaded c.args.code.now _ _ _ _ c.loop-done.invariant.limits c.loop-done.invariant.first c.requires.loaded
