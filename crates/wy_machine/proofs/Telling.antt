-- Steps before an observer, which is told of their events.
use Rattle.std.proofs.Common.{◌≡◌, Bool, true, List, [], ◌∷◌, ◌++◌, Some, Result, Ok, Err, refl, sym, ap, ◌∙◌, subst, inl, inr, ℕ, ◌+◌}
use Rattle.std.specs.Prelude.{IfErr, IsErrAnd, slice_get}
use Rattle.wy_text.specs.declared.fault.Place.{Place}
use Rattle.wy_device.specs.declared.deed.Deed.{Deed as DeedRecord}
use Rattle.wy_device.specs.declared.deed.Event.{Event}
use Rattle.wy_device.specs.declared.deed.Event.TheVariants as event
use Rattle.wy_device.specs.Devices.{DevicesState}
use Rattle.wy_device.specs.Events.{DidExactly}
use Rattle.wy_device.specs.RunEnds as ends
use Rattle.wy_device.specs.Tapes.{Tapes}
use Rattle.wy_code.specs.declared.code.Code.{Code}
use Rattle.wy_code.specs.declared.instruction.Instruction.{Instruction}
use Rattle.wy_code.specs.declared.instruction.Placed.{Placed}
use Rattle.wy_code.specs.Machine.{Next, Halt}
use Rattle.wy_machine.specs.declared.run_end.RunEnd.{RunEnd}
use Rattle.wy_machine.specs.declared.run_end.RunEnd.TheVariants.{Ended, Trap, Memory}
use Rattle.wy_machine.specs.declared.run_end.TrapKind.{TrapKind}
use Rattle.wy_machine.specs.Runs.{AreSameDevices}
use Rattle.wy_machine.specs.TrapKinds.{trap_meant}
use Rattle.wy_machine.specs.Observing.{ended_by, Told, Left, Did, event_told, events_told, entering, ArePlaced, HeardAll, HeardSome, IsHeardStep, IsObserved}
use Rattle.wy_machine.specs.Stacks.{at_address}
use Rattle.wy_machine.specs.OpenBodies.{StackState}
use Rattle.wy_machine.specs.States.{body_at}
use Rattle.wy_machine.specs.Steps.{acting, stepping, AreQuiet, IsStep}
use Rattle.wy_machine.specs.StoreState.{StoreState}
use Rattle.wy_machine.specs.Wanting.{takes_memory, next_takes, WantsOnly}
use Rattle.wy_machine.proofs.Fetching.{fetched, takes_as}
use Rattle.wy_machine.proofs.Quiet.{no_events, same_step, same_events}
use Rattle.wy_machine.proofs.Showings.{Nothing, Enter, Leave, LeaveAndStart, Shows, IsSilent, shows_silently, events_are}

module _ {X : Type 0} (hears : Told → X → X → Result (Unit {0}) RunEnd → Type 0) (code : Code) (x : ℕ) (s : StackState) (w : StoreState) (next : Tapes → Next) (taken : Bool) (old new : DevicesState) where
  -- a step whose events were all told
  pub told_all : (ts : List Told) (a b : X) (r : Result (Unit {0}) RunEnd) (h : IsStep code s w next old new r) → events_told ts ≡ h.events → ArePlaced x s.running.instance r ts → HeardAll hears ts a b → WantsOnly taken r →
      IsObserved hears code x s w next taken old new a b r
  told_all ts a b (Ok u) h are placed heard wants = record { step = h; told = ts; are = are; placed = placed; heard = heard; wants = wants }
  told_all ts a b (Err end) h are placed heard wants = inl (record { step = h; told = ts; are = are; placed = placed; heard = heard; wants = wants })

  -- a step with no events
  pub told_none : (a : X) (r : Result (Unit {0}) RunEnd) (h : IsStep code s w next old new r) → h.events ≡ [] → WantsOnly taken r → IsObserved hears code x s w next taken old new a a r
  told_none a r h none wants = told_all [] a a r h (sym none) tt refl wants

  -- the observer ended the run at an event
  pub told_some : (ts : List Told) (t : Told) (es : List Event) (a m b : X) (own : Result (Unit {0}) RunEnd) (h : IsStep code s w next old new own) → h.events ≡ events_told ts ++ (event_told t ∷ es) → AreQuiet es → HeardAll hears ts a m →
      (end : RunEnd) → hears t m b (Err end) → IsObserved hears code x s w next taken old new a b (Err end)
  told_some ts t es a m b own h split quiet heard end cut = inr (record {
    own = own;
    step = h;
    heard = record { whole = ts; last = t; later = es; split = split; quiet = quiet; before = m; heard = heard; cut = cut };
  })

  -- the last event of a step that went on
  pub told_last : (ts : List Told) (t : Told) (a m b : X) (h : IsStep code s w next old new (Ok tt)) → h.events ≡ events_told ts ++ (event_told t ∷ []) → ArePlaced x s.running.instance (Ok tt) (ts ++ t ∷ []) → HeardAll hears ts a m →
      (r : Result (Unit {0}) RunEnd) → hears t m b r → IsObserved hears code x s w next taken old new a b r
  told_last ts t a m b h split placed heard (Ok u) last = told_all (ts ++ t ∷ []) a b (Ok u) h (told-append ts (t ∷ []) ∙ sym split) placed (heard-append ts a m heard last) tt
    where
      told-append : (ts us : List Told) → events_told (ts ++ us) ≡ events_told ts ++ events_told us
      told-append [] us = refl
      told-append (t ∷ ts) us = ap (λ es. event_told t ∷ es) (told-append ts us)

      heard-append : (ts : List Told) (a m : X) → HeardAll hears ts a m → hears t m b (Ok tt) → HeardAll hears (ts ++ t ∷ []) a b
      heard-append [] a m e l = (b, subst (λ m. hears t m b (Ok tt)) e l, refl)
      heard-append (u ∷ ts) a m h l = (h.0, h.1, heard-append ts h.0 m h.2 l)
  told_last ts t a m b h split placed heard (Err end) last = told_some ts t [] a m b (Ok tt) h split no_events heard end last

  -- .. as memory was wanting
  pub told_wanting : (a : X) (r : Result (Unit {0}) RunEnd) → taken ≡ true → IsErrAnd r (λ e. e ≡ Memory) → DidExactly old new [] → AreSameDevices old new → IsObserved hears code x s w next taken old new a a r
  told_wanting a (Ok u) e m did same = absurd m
  told_wanting a (Err end) e m did same =
      subst (λ end. IsObserved hears code x s w next taken old new a a (Err end)) (sym m)
      (told_none a (Err Memory) (record { events = []; did = did; comes = refl; same = same; failed = tt }) refl e)

  -- a deed of a step that went on
  pub told_deed : (d : DeedRecord) (h : IsStep code s w next old new (Ok tt)) → h.events ≡ event.Deed d ∷ [] → (a b : X) (r : Result (Unit {0}) RunEnd) → hears (Did d) a b r → IsObserved hears code x s w next taken old new a b r
  told_deed d h is a b r heard = told_last [] (Did d) a a b h is tt refl r heard

  -- a deed of a step that ended the run
  pub told_failure : (d : DeedRecord) (end : RunEnd) (h : IsStep code s w next old new (Err end)) → h.events ≡ event.Deed d ∷ [] → WantsOnly taken (Err end) → (a b : X) → hears (Did d) a b (Ok tt) → IsObserved hears code x s w next taken old new a b (Err end)
  told_failure d end h is wants a b heard = told_all (Did d ∷ []) a b (Err end) h (sym is) tt (b, heard, refl) wants

  -- .. or the observer did
  pub told_failure_cut : (d : DeedRecord) (own : RunEnd) (h : IsStep code s w next old new (Err own)) → h.events ≡ event.Deed d ∷ [] → (a b : X) (end : RunEnd) → hears (Did d) a b (Err end) → IsObserved hears code x s w next taken old new a b (Err end)
  told_failure_cut d own h is a b end heard = told_some [] (Did d) [] a a b (Err own) h is no_events refl end heard

  -- .. whichever it was
  pub told_ending : (d : DeedRecord) (failure : RunEnd) (h : IsStep code s w next old new (Err failure)) → h.events ≡ event.Deed d ∷ [] → WantsOnly taken (Err failure) → (a b : X) (own : Result (Unit {0}) RunEnd) → hears (Did d) a b own → (r : Result (Unit {0}) RunEnd) → r ≡ ended_by failure own →
      IsObserved hears code x s w next taken old new a b r
  told_ending d failure h is wants a b (Ok u) heard r e = subst (λ r. IsObserved hears code x s w next taken old new a b r) (sym e) (told_failure d failure h is wants a b heard)
  told_ending d failure h is wants a b (Err end) heard r e = subst (λ r. IsObserved hears code x s w next taken old new a b r) (sym e) (told_failure_cut d failure h is a b end heard)

  -- a body is entered, and nothing else happens
  pub told_entry : Shows code Enter next → (h : IsStep code s w next old new (Ok tt)) (instance body : ℕ) → instance ≡ s.running.instance → body ≡ s.running.body → (a b : X) (r : Result (Unit {0}) RunEnd) → hears (entering code instance body) a b r →
      IsObserved hears code x s w next taken old new a b r
  told_entry shows h instance body e f a b r heard =
      told_last [] (entering code s.running.instance s.running.body) a a b h (events_are code s w next old new Enter shows (Ok tt) h) refl refl r
      (subst (λ i. hears (entering code i s.running.body) a b r) e (subst (λ j. hears (entering code instance j) a b r) f heard))

  -- none is, as the run ends
  pub told_stop : Shows code Enter next → (end : RunEnd) (h : IsStep code s w next old new (Err end)) → end ≡ Ended → (a : X) → IsObserved hears code x s w next taken old new a a (Err end)
  told_stop shows end h e a =
      let h' = subst (λ e. IsStep code s w next old new (Err e)) e h in
      subst (λ end. IsObserved hears code x s w next taken old new a a (Err end)) (sym e) (told_none a (Err Ended) h' (events_are code s w next old new Enter shows (Err Ended) h') tt)

  -- a body is left
  pub told_leave : Shows code Leave next → (h : IsStep code s w next old new (Ok tt)) (instance : ℕ) → instance ≡ x → (a b : X) (r : Result (Unit {0}) RunEnd) → hears (Left instance) a b r → IsObserved hears code x s w next taken old new a b r
  told_leave shows h instance e a b r heard = told_last [] (Left instance) a a b h (events_are code s w next old new Leave shows (Ok tt) h) e refl r heard

  module _ (shows : Shows code LeaveAndStart next) (instance : ℕ) (here : instance ≡ x) where
    enter_quiet : (name body : List ℕ) → AreQuiet (event.Enter name body ∷ [])
    enter_quiet name body = record { none = λ kind. refl }

    -- .. and another one is entered
    pub told_both : (h : IsStep code s w next old new (Ok tt)) (later body : ℕ) → later ≡ s.running.instance → body ≡ s.running.body → (a m b : X) → hears (Left instance) a m (Ok tt) → (r : Result (Unit {0}) RunEnd) → hears (entering code later body) m b r →
        IsObserved hears code x s w next taken old new a b r
    told_both h later body e f a m b first r second =
        told_last (Left instance ∷ []) (entering code s.running.instance s.running.body) a m b h (events_are code s w next old new LeaveAndStart shows (Ok tt) h) (here, refl) (m, first, refl) r
        (subst (λ i. hears (entering code i s.running.body) m b r) e (subst (λ j. hears (entering code later j) m b r) f second))

    -- .. or the run ends
    pub told_end : (own : Result (Unit {0}) RunEnd) → IsStep code s w next old new own → IfErr own (λ e. e ≡ Ended) → (end : RunEnd) → own ≡ Err end → (a b : X) → hears (Left instance) a b (Ok tt) → IsObserved hears code x s w next taken old new a b (Err end)
    told_end (Ok u) h only end is a b first = cc
    told_end (Err own) h only end is a b first =
        let e : own ≡ end = cc in
        let h' = subst (λ e. IsStep code s w next old new (Err e)) only h in
        subst (λ end. IsObserved hears code x s w next taken old new a b (Err end)) (sym only ∙ e)
        (told_all (Left instance ∷ []) a b (Err Ended) h' (sym (events_are code s w next old new LeaveAndStart shows (Err Ended) h')) here (b, first, refl) tt)

    -- .. or the observer ends it
    pub told_cut : (own : Result (Unit {0}) RunEnd) → (h : IsStep code s w next old new own) → IfErr own (λ e. e ≡ Ended) → (a b : X) (end : RunEnd) → hears (Left instance) a b (Err end) → IsObserved hears code x s w next taken old new a b (Err end)
    told_cut (Ok u) h only a b end cut = told_some [] (Left instance) _ a a b (Ok u) h (events_are code s w next old new LeaveAndStart shows (Ok u) h) (enter_quiet _ _) refl end cut
    told_cut (Err own) h only a b end cut =
        let h' = subst (λ e. IsStep code s w next old new (Err e)) only h in
        told_some [] (Left instance) [] a a b (Err Ended) h' (events_are code s w next old new LeaveAndStart shows (Err Ended) h') no_events refl end cut

  -- a trap
  pub told_trap : (a : X) (kind : TrapKind) (place : Place) → ((t : Tapes) → next t ≡ Halt (ends.Trap (trap_meant kind) place) []) → DidExactly old new [] → AreSameDevices old new → IsObserved hears code x s w next taken old new a a (Err (Trap kind place))
  told_trap a kind place e did same = told_none a (Err (Trap kind place)) (record { events = []; did = did; comes = record { halts = λ more. e _ }; same = same; failed = tt }) refl tt

  -- a step that came out as another did
  pub observed_so : (a b : X) (r r' : Result (Unit {0}) RunEnd) → r' ≡ r → IsObserved hears code x s w next taken old new a b r → IsObserved hears code x s w next taken old new a b r'
  observed_so a b r r' e h = subst (λ r. IsObserved hears code x s w next taken old new a b r) (sym e) h

-- a step that comes to a stack and a store that are equal
pub observed_to : {X : Type 0} (hears : Told → X → X → Result (Unit {0}) RunEnd → Type 0) (code : Code) (x : ℕ) (s s' : StackState) (w w' : StoreState) (next : Tapes → Next) (taken : Bool) (old new : DevicesState) (a b : X) (r : Result (Unit {0}) RunEnd) →
    s' ≡ s → w' ≡ w → IsObserved hears code x s w next taken old new a b r → IsObserved hears code x s' w' next taken old new a b r
observed_to hears code x s s' w w' next taken old new a b r e f h =
    subst (λ s. IsObserved hears code x s w' next taken old new a b r) (sym e) (subst (λ w. IsObserved hears code x s w next taken old new a b r) (sym f) h)

-- a step of what is the same for all answers
pub observed_as : {X : Type 0} (hears : Told → X → X → Result (Unit {0}) RunEnd → Type 0) (code : Code) (x : ℕ) (s : StackState) (w : StoreState) (f g : Tapes → Next) (taken : Bool) (old new : DevicesState) (a b : X) (r : Result (Unit {0}) RunEnd) →
    ((t : Tapes) → g t ≡ f t) → IsObserved hears code x s w f taken old new a b r → IsObserved hears code x s w g taken old new a b r
observed_as hears code x s w f g taken old new a b r e h = of r h
  where
    heard : (r : Result (Unit {0}) RunEnd) → IsHeardStep hears code x s w f taken old new a b r → IsHeardStep hears code x s w g taken old new a b r
    heard r h = record { step = same_step code s w f g old new r e h.step; told = h.told; are = h.are ∙ sym (same_events code s w f g old new r e h.step); placed = h.placed; heard = h.heard; wants = h.wants }

    of : (r : Result (Unit {0}) RunEnd) → IsObserved hears code x s w f taken old new a b r → IsObserved hears code x s w g taken old new a b r
    of (Ok u) h = heard (Ok u) h
    of (Err end) (inl h) = inl (heard (Err end) h)
    of (Err end) (inr h) = inr (record { own = h.own; step = same_step code s w f g old new h.own e h.step; heard = subst (λ es. HeardSome hears es a b end) (sym (same_events code s w f g old new h.own e h.step)) h.heard })

module _ {X : Type 0} (hears : Told → X → X → Result (Unit {0}) RunEnd → Type 0) (code : Code) (x depth : ℕ) (place : Place) (s s' : StackState) (w w' : StoreState) where
  -- a silent instruction
  pub silently : (i j : Instruction) → i ≡ j → IsSilent code j → (taken : Bool) (old new : DevicesState) (r : Result (Unit {0}) RunEnd) → IsStep code s' w' (acting code depth place s w i) old new r → WantsOnly taken r → (a : X) →
      IsObserved hears code x s' w' (acting code depth place s w i) taken old new a a r
  silently i j e silent taken old new r h wants a =
      told_none hears code x s' w' _ taken old new a r h (none r h) wants
    where
      none : (r : Result (Unit {0}) RunEnd) (h : IsStep code s' w' (acting code depth place s w i) old new r) → h.events ≡ []
      none (Ok u) h = events_are code s' w' _ old new Nothing (shows_silently code depth place s w i j e silent) (Ok u) h
      none (Err end) h = events_are code s' w' _ old new Nothing (shows_silently code depth place s w i j e silent) (Err end) h

  -- the instruction that comes next is this one
  pub instruction_observed : (i j : Instruction) → i ≡ j → (old new : DevicesState) (a b : X) (r : Result (Unit {0}) RunEnd) →
      IsObserved hears code s.running.instance s' w' (acting code depth place s w j) (takes_memory j s.running.operands) old new a b r → IsObserved hears code s.running.instance s' w' (acting code depth place s w i) (takes_memory i s.running.operands) old new a b r
  instruction_observed i j e old new a b r h = subst (λ i. IsObserved hears code s.running.instance s' w' (acting code depth place s w i) (takes_memory i s.running.operands) old new a b r) (sym e) h

-- a step does the instruction that was fetched, and takes memory where that does
pub next_observed : {X : Type 0} (hears : Told → X → X → Result (Unit {0}) RunEnd → Type 0) (code : Code) (depth : ℕ) (s s' fetching : StackState) (w w' : StoreState) (placed : Placed) →
    slice_get (body_at code s.running.body).instructions s.running.at ≡ Some placed → fetching ≡ at_address (s.running.at + 1) s → (old new : DevicesState) (a b : X) (r : Result (Unit {0}) RunEnd) →
    IsObserved hears code fetching.running.instance s' w' (acting code depth placed.place fetching w placed.instruction) (takes_memory placed.instruction fetching.running.operands) old new a b r →
    IsObserved hears code s.running.instance s' w' (stepping code depth s w) (next_takes code s) old new a b r
next_observed hears code depth s s' fetching w w' placed e f old new a b r h =
    observed_as hears code s.running.instance s' w' (acting code depth placed.place (at_address (s.running.at + 1) s) w placed.instruction) (stepping code depth s w) (next_takes code s) old new a b r (fetched code depth s w placed e)
    (subst (λ taken. IsObserved hears code s.running.instance s' w' (acting code depth placed.place (at_address (s.running.at + 1) s) w placed.instruction) taken old new a b r) (sym (takes_as code depth s w placed e))
    (subst (λ (f : StackState). IsObserved hears code f.running.instance s' w' (acting code depth placed.place f w placed.instruction) (takes_memory placed.instruction f.running.operands) old new a b r) f h))
