-- Steps that ask no device.
use Rattle.std.proofs.Common.{◌≡◌, ◌≢◌, Bool, true, List, [], ◌++◌, Result, Ok, Err, refl, sym, ap, ◌∙◌, subst, arith}
use Rattle.std.specs.Prelude.{IsErrAnd}
use Rattle.wy_text.specs.declared.fault.Place.{Place}
use Rattle.wy_text.proofs.Gains.{gained-nil}
use Rattle.wy_text.specs.Outside.{gained}
use Rattle.wy_device.specs.declared.deed.Event.{Event}
use Rattle.wy_device.specs.declared.operation.Kind.TheVariants.{Console, Folder, Clock, Random}
use Rattle.wy_device.specs.DeviceState.{DeviceState}
use Rattle.wy_device.specs.Devices.{DevicesState}
use Rattle.wy_device.specs.Events.{DidExactly, deeds_of}
use Rattle.wy_device.specs.RunEnds as ends
use Rattle.wy_device.specs.Tapes.{Tapes, spliced, answers}
use Rattle.wy_code.specs.declared.code.Code.{Code}
use Rattle.wy_code.specs.Machine.{Next, Go, Halt}
use Rattle.wy_machine.specs.declared.run_end.RunEnd.{RunEnd}
use Rattle.wy_machine.specs.declared.run_end.RunEnd.TheVariants.{Ended, Trap, TooDeep, Spent, DeviceFailed, SinkFailed, Memory}
use Rattle.wy_machine.specs.declared.run_end.TrapKind.{TrapKind}
use Rattle.wy_machine.specs.Runs.{tapes_of, IsSameDevice, AreSameDevices}
use Rattle.wy_machine.specs.OpenBodies.{StackState}
use Rattle.wy_machine.specs.States.{state_of}
use Rattle.wy_machine.specs.Steps.{AreQuiet, IsNotStuck, Halts, Comes, IsStep}
use Rattle.wy_machine.specs.StoreState.{StoreState}
use Rattle.wy_machine.specs.TrapKinds.{trap_meant}
use Rattle.wy_device.specs.Traps as device
use Rattle.wy_machine.specs.Wanting.{WantsOnly, TrapsFirst}

pub no_events : AreQuiet []
no_events = record { none = λ kind. refl }

same_device : (d : DeviceState) → IsSameDevice d d
same_device d = record { kind = refl; counted = omega arith }

pub same_devices : (d : DevicesState) → AreSameDevices d d
same_devices d = record { console = same_device d.console; folder = same_device d.folder; clock = same_device d.clock; random = same_device d.random }

pub did_quietly : (d : DevicesState) (es : List Event) → AreQuiet es → DidExactly d d es
did_quietly d es q = record {
  console = sym (ap (gained d.console.deeds) (q.none Console) ∙ gained-nil d.console.deeds);
  folder = sym (ap (gained d.folder.deeds) (q.none Folder) ∙ gained-nil d.folder.deeds);
  clock = sym (ap (gained d.clock.deeds) (q.none Clock) ∙ gained-nil d.clock.deeds);
  random = sym (ap (gained d.random.deeds) (q.none Random) ∙ gained-nil d.random.deeds);
}

quiet_tapes : (es : List Event) → AreQuiet es → (more : Tapes) → spliced (tapes_of es) more ≡ more
quiet_tapes es q more =
    ap (λ ds. let t : Tapes = record { console = answers ds ++ more.console; folder = answers (deeds_of Folder es) ++ more.folder; clock = answers (deeds_of Clock es) ++ more.clock; random = answers (deeds_of Random es) ++ more.random } in t) (q.none Console)
    ∙ ap (λ ds. let t : Tapes = record { console = more.console; folder = answers ds ++ more.folder; clock = answers (deeds_of Clock es) ++ more.clock; random = answers (deeds_of Random es) ++ more.random } in t) (q.none Folder)
    ∙ ap (λ ds. let t : Tapes = record { console = more.console; folder = more.folder; clock = answers ds ++ more.clock; random = answers (deeds_of Random es) ++ more.random } in t) (q.none Clock)
    ∙ ap (λ ds. let t : Tapes = record { console = more.console; folder = more.folder; clock = more.clock; random = answers ds ++ more.random } in t) (q.none Random)

pub unstuck : (f g : Tapes → Next) → ((t : Tapes) → f t ≡ g t) → IsNotStuck f → IsNotStuck g
unstuck f g e h = record { holds = λ t wrong. h.holds t (e t ∙ wrong) }

-- a step that comes to a stack and a store that are equal
pub step_to : (code : Code) (s s' : StackState) (w w' : StoreState) (next : Tapes → Next) (d d' : DevicesState) (r : Result (Unit {0}) RunEnd) → s' ≡ s → w' ≡ w → IsStep code s w next d d' r → IsStep code s' w' next d d' r
step_to code s s' w w' next d d' r e f h = subst (λ s. IsStep code s w' next d d' r) (sym e) (subst (λ w. IsStep code s w next d d' r) (sym f) h)

-- a step that came out as another did
pub out_so : (code : Code) (s : StackState) (w : StoreState) (next : Tapes → Next) (d d' : DevicesState) (r r' : Result (Unit {0}) RunEnd) → r' ≡ r → IsStep code s w next d d' r → IsStep code s w next d d' r'
out_so code s w next d d' r r' e h = subst (λ r. IsStep code s w next d d' r) (sym e) h

pub wants_so : (taken : Bool) (r r' : Result (Unit {0}) RunEnd) → r' ≡ r → WantsOnly taken r → WantsOnly taken r'
wants_so taken r r' e h = subst (WantsOnly taken) (sym e) h

-- a step of what is the same for all answers
pub same_step : (code : Code) (s : StackState) (w : StoreState) (f g : Tapes → Next) (d d' : DevicesState) (r : Result (Unit {0}) RunEnd) → ((t : Tapes) → g t ≡ f t) → IsStep code s w f d d' r → IsStep code s w g d d' r
same_step code s w f g d d' r e h = record {
  events = h.events;
  did = h.did;
  comes = same_coming h.events r e h.comes;
  same = h.same;
  failed = h.failed;
}
  where
    halting : (es : List Event) (end : ends.RunEnd) → ((t : Tapes) → g t ≡ f t) → Halts es f end → Halts es g end
    halting es end e h = record { halts = λ more. e _ ∙ h.halts more }

    same_coming : (es : List Event) (r : Result (Unit {0}) RunEnd) → ((t : Tapes) → g t ≡ f t) → Comes code s w es f r → Comes code s w es g r
    same_coming es (Ok u) e c = record { goes = λ more. e _ ∙ c.goes more }
    same_coming es (Err Ended) e c = halting es _ e c
    same_coming es (Err (Trap kind place)) e c = halting es _ e c
    same_coming es (Err TooDeep) e c = halting es _ e c
    same_coming es (Err Spent) e c = c
    same_coming es (Err (DeviceFailed grant op)) e c = halting es _ e c
    same_coming es (Err SinkFailed) e c = c
    same_coming es (Err Memory) e c = c

-- .. with the same events
pub same_events : (code : Code) (s : StackState) (w : StoreState) (f g : Tapes → Next) (d d' : DevicesState) (r : Result (Unit {0}) RunEnd) (e : (t : Tapes) → g t ≡ f t) (h : IsStep code s w f d d' r) → (same_step code s w f g d d' r e h).events ≡ h.events
unfolding same_step
same_events code s w f g d d' r e h = refl

-- a step that goes on, traps, ends the run, is too deep, or wants memory
module _ (code : Code) (s : StackState) (w : StoreState) (next : Tapes → Next) (d : DevicesState) where
  pub goes_quietly : (es : List Event) → AreQuiet es → ((t : Tapes) → next t ≡ Go es (state_of code s w t)) → IsStep code s w next d d (Ok tt)
  goes_quietly es q e = record {
    events = es;
    did = did_quietly d es q;
    comes = record { goes = λ more. ap next (quiet_tapes es q more) ∙ e more };
    same = same_devices d;
    failed = tt;
  }

  halts_quietly : (es : List Event) → AreQuiet es → (end : ends.RunEnd) → ((t : Tapes) → next t ≡ Halt end es) → Halts es next end
  halts_quietly es q end e = record { halts = λ more. ap next (quiet_tapes es q more) ∙ e more }

  pub traps : (kind : TrapKind) (place : Place) → ((t : Tapes) → next t ≡ Halt (ends.Trap (trap_meant kind) place) []) → IsStep code s w next d d (Err (Trap kind place))
  traps kind place e = record { events = []; did = did_quietly d [] no_events; comes = halts_quietly [] no_events _ e; same = same_devices d; failed = tt }

  pub ends_run : (es : List Event) → AreQuiet es → ((t : Tapes) → next t ≡ Halt ends.Ended es) → IsStep code s w next d d (Err Ended)
  ends_run es q e = record { events = es; did = did_quietly d es q; comes = halts_quietly es q _ e; same = same_devices d; failed = tt }

  pub is_too_deep : ((t : Tapes) → next t ≡ Halt ends.TooDeep []) → IsStep code s w next d d (Err TooDeep)
  is_too_deep e = record { events = []; did = did_quietly d [] no_events; comes = halts_quietly [] no_events _ e; same = same_devices d; failed = tt }

  pub wants_memory : IsStep code s w next d d (Err Memory)
  wants_memory = record { events = []; did = did_quietly d [] no_events; comes = refl; same = same_devices d; failed = tt }

  pub wants_when : (r : Result (Unit {0}) RunEnd) → IsErrAnd r (λ e. e ≡ Memory) → IsStep code s w next d d r
  wants_when (Ok u) h = absurd h
  wants_when (Err e) h = subst (λ e. IsStep code s w next d d (Err e)) (sym h) wants_memory

-- memory may be wanting where it is taken
pub wants_any : (r : Result (Unit {0}) RunEnd) → WantsOnly true r
wants_any (Ok u) = tt
wants_any (Err Ended) = tt
wants_any (Err (Trap kind place)) = tt
wants_any (Err TooDeep) = tt
wants_any (Err Spent) = tt
wants_any (Err (DeviceFailed grant op)) = tt
wants_any (Err SinkFailed) = tt
wants_any (Err Memory) = refl

pub wants_taken : (taken : Bool) (r : Result (Unit {0}) RunEnd) → taken ≡ true → WantsOnly taken r
wants_taken taken r e = subst (λ b. WantsOnly b r) (sym e) (wants_any r)

-- .. and where no trap comes
pub traps_none : (next : Tapes → Next) → ((t : Tapes) (kind : device.TrapKind) (place : Place) → next t ≢ Halt (ends.Trap kind place) []) → (r : Result (Unit {0}) RunEnd) → TrapsFirst next r
traps_none next h (Ok u) = tt
traps_none next h (Err Ended) = tt
traps_none next h (Err (Trap kind place)) = tt
traps_none next h (Err TooDeep) = tt
traps_none next h (Err Spent) = tt
traps_none next h (Err (DeviceFailed grant op)) = tt
traps_none next h (Err SinkFailed) = tt
traps_none next h (Err Memory) = h
