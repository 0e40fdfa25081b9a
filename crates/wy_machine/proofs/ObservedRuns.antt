-- Runs before an observer.
use Rattle.std.proofs.Common.{Option, ◌≡◌, ◌≤◌, ◌<◌, ℕ, false, ◌+◌, List, [], ◌∷◌, ◌++◌, Result, Ok, Err, refl, sym, ap, ap₂, ◌∙◌, subst, arith, append_assoc, inl, inr}
use Rattle.wy_device.specs.declared.deed.Event.{Event}
use Rattle.wy_device.specs.Devices.{DevicesState}
use Rattle.wy_device.specs.RunEnds as ends
use Rattle.wy_meaning.specs.Bounds.{Call}
use Rattle.wy_meaning.specs.OpenCalls.{open_after}
use Rattle.wy_code.specs.declared.code.Code.{Code}
use Rattle.wy_machine.specs.declared.run_end.RunEnd.{RunEnd}
use Rattle.wy_machine.specs.declared.run_end.RunEnd.TheVariants.{Ended, Trap, TooDeep, Spent, DeviceFailed, SinkFailed, Memory}
use Rattle.wy_machine.specs.Observing.{AreFollowed, Told, event_told, events_told, HeardAll, HeardSome, IsObserved, RunsTold}
use Rattle.wy_machine.specs.Runs.{RunsTo, EndsIn}
use Rattle.wy_machine.specs.OpenBodies.{StackState}
use Rattle.wy_machine.specs.Steps.{stepping, starting, IsStep}
use Rattle.wy_machine.specs.StoreState.{StoreState}
use Rattle.wy_machine.specs.Traces.{HappenedIn}
use Rattle.wy_machine.specs.Wanting.{next_takes, WantsOnly}
use Rattle.wy_machine.proofs.Following.{open_in, IsOpen, followed_on, followed_last, followed_after, first_nested, next_nested, first_open, next_open}
use Rattle.wy_machine.proofs.Nesting.{opens_after, IsFew}
use Rattle.wy_machine.proofs.Showings.{Enter, shows_first, events_are}
use Rattle.wy_machine.proofs.FirstSteps.{leads_first, halts_first}
use Rattle.wy_machine.proofs.Leading.{Leads, leads_more, halts_to, spent_to, spent_now, ends_to, did_after, same_after, fault_after}

------------------------------------------------------------
-- What was told after what

pub told-append : (ts us : List Told) → events_told (ts ++ us) ≡ events_told ts ++ events_told us
told-append [] us = refl
told-append (t ∷ ts) us = ap (λ es. event_told t ∷ es) (told-append ts us)

no_event : (e : Event) (es : List Event) → e ∷ es ≡ [] → ⊥
no_event e es p = cc

module _ {X : Type 0} (hears : Told → X → X → Result (Unit {0}) RunEnd → Type 0) where
  pub heard_after : (ts us : List Told) (a b c : X) → HeardAll hears ts a b → HeardAll hears us b c → HeardAll hears (ts ++ us) a c
  heard_after [] us a b c e h = subst (λ m. HeardAll hears us m c) e h
  heard_after (t ∷ ts) us a b c h k = (h.0, h.1, heard_after ts us h.0 b c h.2 k)

  pub some_heard_after : (ts : List Told) (fs : List Event) (a b c : X) (end : RunEnd) → HeardAll hears ts a b → HeardSome hears fs b c end → HeardSome hears (events_told ts ++ fs) a c end
  some_heard_after ts fs a b c end h k = record {
    whole = ts ++ k.whole;
    last = k.last;
    later = k.later;
    split = ap (λ es. events_told ts ++ es) k.split ∙ sym (append_assoc (events_told ts) (events_told k.whole) (event_told k.last ∷ k.later)) ∙ ap (λ es. es ++ (event_told k.last ∷ k.later)) (sym (told-append ts k.whole));
    quiet = k.quiet;
    before = k.before;
    heard = heard_after ts k.whole a b k.before h k.heard;
    cut = k.cut;
  }

  -- there is an event at which the run ended
  none_cut : (es : List Event) (a b : X) (end : RunEnd) → es ≡ [] → HeardSome hears es a b end → ⊥
  none_cut es a b end e h = no_event (events_told h.whole) (sym e ∙ h.split)
    where
      no_event : (whole : List Event) → [] ≡ whole ++ (event_told h.last ∷ h.later) → ⊥
      no_event [] p = cc
      no_event (x ∷ xs) p = cc

  -- a run that came to a state, and was told of
  pub record LeadsHeard (code : Code) (depth q : ℕ) (s : StackState) (w : StoreState) (old new : DevicesState) (a b : X) : Type 0 where
    pub leads : Leads code depth q s w old new
    pub told : List Told
    pub are : events_told told ≡ leads.events
    pub followed : AreFollowed code depth [] told
    pub opened : IsOpen code s leads.events
    pub heard : HeardAll hears told a b

  module _ (code : Code) (depth : ℕ) where
    -- all of the steps have these events
    in_all : (k : ℕ) (es : List Event) (end : ends.RunEnd) → RunsTo code depth k es end → HappenedIn code depth k es
    in_all k es end h = let few : k ≤ k = omega arith in record { steps = k; few = few; end = end; runs = h }

    ------------------------------------------------------------
    -- The start

    module _ (x : ℕ) (s : StackState) (w : StoreState) (d : DevicesState) (a b : X) where
      pub leads_heard_first : IsObserved hears code x s w (starting code) false d d a b (Ok tt) → LeadsHeard code depth 0 s w d d a b
      leads_heard_first h =
          let nested = first_nested code depth s w d d h.step in
          record {
            leads = leads_first code depth s w d d h.step;
            told = h.told;
            are = h.are;
            followed = followed_on code depth x s h.told [] [] refl tt (subst (λ es. open_in code s ≡ opens_after [] es) (sym h.are) nested.0) (subst (λ es. IsFew {A = Option Call} depth [] es) (sym h.are) nested.1) h.placed;
            opened = first_open code s h.step.events nested.0;
            heard = h.heard;
          }

      module _ (k : ℕ) where
        happened_first : (own : Result (Unit {0}) RunEnd) (end : RunEnd) (h : IsStep code s w (starting code) d d own) → HeardSome hears h.events a b end → HappenedIn code depth k h.events
        happened_first (Ok u) end h c = let few : 0 ≤ k = omega arith in record { steps = 0; few = few; end = ends.Spent; runs = spent_now code depth d 0 s w d (leads_first code depth s w d d h) }
        happened_first (Err Ended) end h c = in_all k h.events _ (halts_first code depth k h.events _ h.comes)
        happened_first (Err (Trap kind place)) end h c = in_all k h.events _ (halts_first code depth k h.events _ h.comes)
        happened_first (Err TooDeep) end h c = in_all k h.events _ (halts_first code depth k h.events _ h.comes)
        happened_first (Err Spent) end h c = absurd h.comes
        happened_first (Err (DeviceFailed grant op)) end h c = in_all k h.events _ (halts_first code depth k h.events _ h.comes)
        happened_first (Err SinkFailed) end h c = absurd h.comes
        happened_first (Err Memory) end h c = absurd (none_cut h.events a b end h.comes c)

        ends_first : (end : RunEnd) (h : IsStep code s w (starting code) d d (Err end)) → WantsOnly false (Err end) → EndsIn code depth k h.events end
        ends_first Ended h wants = halts_first code depth k h.events _ h.comes
        ends_first (Trap kind place) h wants = halts_first code depth k h.events _ h.comes
        ends_first TooDeep h wants = halts_first code depth k h.events _ h.comes
        ends_first Spent h wants = absurd h.comes
        ends_first (DeviceFailed grant op) h wants = halts_first code depth k h.events _ h.comes
        ends_first SinkFailed h wants = absurd h.comes
        ends_first Memory h wants = cc

        -- nothing is told where nothing starts
        first_followed : (end : RunEnd) (h : IsStep code s w (starting code) d d (Err end)) (ts : List Told) → events_told ts ≡ h.events → WantsOnly false (Err end) → AreFollowed code depth [] ts
        first_followed end h [] e wants = tt
        first_followed end h (t ∷ ts) e wants = absurd (no_event (event_told t) (events_told ts) (e ∙ events_are code s w (starting code) d d Enter (shows_first code) (Err end) h))

        pub start_heard_stops : (end : RunEnd) → IsObserved hears code x s w (starting code) false d d a b (Err end) → RunsTold hears code depth k d d a b end
        start_heard_stops end (inl h) =
            record { events = h.step.events; did = h.step.did; same = h.step.same; comes = inl (record { ends = ends_first end h.step h.wants; failed = h.step.failed; told = h.told; are = h.are; followed = first_followed end h.step h.told h.are h.wants; heard = h.heard }) }
        start_heard_stops end (inr h) =
            record { events = h.step.events; did = h.step.did; same = h.step.same; comes = inr (record { happened = happened_first h.own end h.step h.heard; heard = h.heard }) }

    ------------------------------------------------------------
    -- One step more

    module _ (old mid new : DevicesState) (q : ℕ) (s s' : StackState) (w w' : StoreState) (a b c : X) (l : LeadsHeard code depth q s w old mid a b) where
      same_events : (ts : List Told) (es : List Event) → events_told ts ≡ es → events_told (l.told ++ ts) ≡ l.leads.events ++ es
      same_events ts es e = told-append l.told ts ∙ ap₂ (λ xs ys. xs ++ ys) l.are e

      then_followed : (ts : List Told) → AreFollowed code depth (open_after [] l.leads.events) ts → AreFollowed code depth [] (l.told ++ ts)
      then_followed ts h = followed_after code depth l.told ts [] l.followed (subst (λ es. AreFollowed code depth (open_after [] es) ts) (sym l.are) h)

      pub leads_heard_more : IsObserved hears code s.running.instance s' w' (stepping code depth s w) (next_takes code s) mid new b c (Ok tt) → LeadsHeard code depth (q + 1) s' w' old new a c
      leads_heard_more h =
          let nested = next_nested code depth s' w' mid new s w h.step in
          record {
            leads = leads_more code depth old q s s' w w' mid new l.leads h.step;
            told = l.told ++ h.told;
            are = same_events h.told h.step.events h.are;
            followed = then_followed h.told
                (followed_on code depth s.running.instance s' h.told (open_in code s) (open_after [] l.leads.events) l.opened (_, refl)
                (subst (λ es. open_in code s' ≡ opens_after (open_in code s) es) (sym h.are) nested.0) (subst (IsFew depth (open_in code s)) (sym h.are) nested.1) h.placed);
            opened = next_open code s s' l.leads.events h.step.events l.opened nested.0;
            heard = heard_after l.told h.told a b c l.heard h.heard;
          }

      module _ (k : ℕ) (lt : q < k) where
        happened_more : (own : Result (Unit {0}) RunEnd) (h : IsStep code s' w' (stepping code depth s w) mid new own) → HappenedIn code depth k (l.leads.events ++ h.events)
        happened_more (Ok u) h =
            let few : q + 1 ≤ k = omega (arith, lt) in
            record { steps = q + 1; few = few; end = ends.Spent; runs = spent_now code depth old (q + 1) s' w' new (leads_more code depth old q s s' w w' mid new l.leads h) }
        happened_more (Err Ended) h = in_all k (l.leads.events ++ h.events) _ (halts_to code depth old q k s w mid l.leads h.events _ lt h.comes)
        happened_more (Err (Trap kind place)) h = in_all k (l.leads.events ++ h.events) _ (halts_to code depth old q k s w mid l.leads h.events _ lt h.comes)
        happened_more (Err TooDeep) h = in_all k (l.leads.events ++ h.events) _ (halts_to code depth old q k s w mid l.leads h.events _ lt h.comes)
        happened_more (Err Spent) h = absurd h.comes
        happened_more (Err (DeviceFailed grant op)) h = in_all k (l.leads.events ++ h.events) _ (halts_to code depth old q k s w mid l.leads h.events _ lt h.comes)
        happened_more (Err SinkFailed) h = absurd h.comes
        happened_more (Err Memory) h = let few : q ≤ k = omega (arith, lt) in record { steps = q; few = few; end = ends.Spent; runs = spent_to code depth old q s w mid l.leads h.events h.comes }

        pub heard_stops : (end : RunEnd) → IsObserved hears code s.running.instance s' w' (stepping code depth s w) (next_takes code s) mid new b c (Err end) → RunsTold hears code depth k old new a c end
        heard_stops end (inl h) = record {
          events = l.leads.events ++ h.step.events;
          did = did_after old mid new l.leads.events h.step.events l.leads.did h.step.did;
          same = same_after old mid new l.leads.same h.step.same;
          comes = inl (record {
            ends = ends_to code depth old q k s w mid l.leads h.step.events end lt h.step.comes h.wants;
            failed = fault_after old mid new l.leads.same h.step.same end h.step.failed;
            told = l.told ++ h.told;
            are = same_events h.told h.step.events h.are;
            followed = then_followed h.told (followed_last code depth s.running.instance s'.running.instance end h.told _ _ (open_after [] l.leads.events) l.opened (_, refl) h.placed);
            heard = heard_after l.told h.told a b c l.heard h.heard;
          });
        }
        heard_stops end (inr h) = record {
          events = l.leads.events ++ h.step.events;
          did = did_after old mid new l.leads.events h.step.events l.leads.did h.step.did;
          same = same_after old mid new l.leads.same h.step.same;
          comes = inr (record {
            happened = happened_more h.own h.step;
            heard = subst (λ es. HeardSome hears (es ++ h.step.events) a c end) l.are (some_heard_after l.told h.step.events a b c end l.heard h.heard);
          });
        }

    pub heard_spent : (old new : DevicesState) (k : ℕ) (s : StackState) (w : StoreState) (a b : X) → LeadsHeard code depth k s w old new a b → RunsTold hears code depth k old new a b Spent
    heard_spent old new k s w a b l = record {
      events = l.leads.events;
      did = l.leads.did;
      same = l.leads.same;
      comes = inl (record { ends = spent_now code depth old k s w new l.leads; failed = tt; told = l.told; are = l.are; followed = l.followed; heard = l.heard });
    }
