-- Runs whose observer writes lines, and runs whose observer does nothing.
use Rattle.std.proofs.Common.{◌≡◌, ◌≤◌, ℕ, List, [], ◌∷◌, Result, Ok, Err, sym, ap, ◌∙◌, subst, arith, ◌⊎◌, inl, inr}
use Rattle.wy_text.specs.Outside.{SinkState}
use Rattle.wy_text.proofs.Gains.{rose_later}
use Rattle.wy_device.specs.declared.deed.Event.{Event}
use Rattle.wy_device.specs.Devices.{DevicesState}
use Rattle.wy_device.specs.RunEnds as ends
use Rattle.wy_code.specs.declared.code.Code.{Code}
use Rattle.wy_machine.specs.declared.run_end.RunEnd.{RunEnd}
use Rattle.wy_machine.specs.declared.run_end.RunEnd.TheVariants.{Ended, Trap, TooDeep, Spent, DeviceFailed, SinkFailed, Memory}
use Rattle.wy_machine.specs.Observing.{Told, event_told, events_told, HeardAll, HeardSome, IsHeardRun, IsCutRun, RunsTold}
use Rattle.wy_machine.specs.Runs.{FailsByFault, Runs}
use Rattle.wy_machine.specs.Traces.{WroteAll, WroteSome, Wrote, EndsTraced, RunsTraced}
use Rattle.wy_machine.proofs.Lines.{wrote_none, wrote_after, some_after, some_before}

counted_on : (a b c : ℕ) → a ≤ b → b ≤ c → a ≤ c
counted_on a b c p q = omega (arith, p, q)

module _ {X : Type 0} (hears : Told → X → X → Result (Unit {0}) RunEnd → Type 0) where
  -- an observer that never ends a run
  pub silent_runs : ((t : Told) (a b : X) (end : RunEnd) → hears t a b (Err end) → ⊥) → (code : Code) (depth k : ℕ) (old new : DevicesState) (a b : X) (end : RunEnd) → RunsTold hears code depth k old new a b end → Runs code depth k old new end
  silent_runs never code depth k old new a b end h = of h.comes
    where
      of : IsHeardRun hears code depth k h.events old new a b end ⊎ IsCutRun hears code depth k h.events a b end → Runs code depth k old new end
      of (inl c) = record { events = h.events; did = h.did; ends = c.ends; same = h.same; failed = c.failed }
      of (inr c) = absurd (never c.heard.last c.heard.before b end c.heard.cut)

  -- what no event changes
  module _ {N : Type 0} (name : X → N) (keeps : (t : Told) (a b : X) (r : Result (Unit {0}) RunEnd) → hears t a b r → name b ≡ name a) where
    all_kept : (ts : List Told) (a b : X) → HeardAll hears ts a b → name b ≡ name a
    all_kept [] a b h = ap name h
    all_kept (t ∷ ts) a b h = all_kept ts h.0 b h.2 ∙ keeps t a h.0 (Ok tt) h.1

    pub kept : (code : Code) (depth k : ℕ) (old new : DevicesState) (a b : X) (end : RunEnd) → RunsTold hears code depth k old new a b end → name b ≡ name a
    kept code depth k old new a b end h = of h.comes
      where
        of : IsHeardRun hears code depth k h.events old new a b end ⊎ IsCutRun hears code depth k h.events a b end → name b ≡ name a
        of (inl c) = all_kept c.told a b c.heard
        of (inr c) = keeps c.heard.last c.heard.before b (Err end) c.heard.cut ∙ all_kept c.heard.whole a c.heard.before c.heard.heard

  -- an observer that writes the line of each event
  module _ (state : X → SinkState) (writes : (t : Told) (a b : X) (r : Result (Unit {0}) RunEnd) → hears t a b r → Wrote (event_told t ∷ []) (state a) (state b) r)
      (counts : (t : Told) (a b : X) (r : Result (Unit {0}) RunEnd) → hears t a b r → (state a).faults ≤ (state b).faults) where
    all_counted : (ts : List Told) (a b : X) → HeardAll hears ts a b → (state a).faults ≤ (state b).faults
    all_counted [] a b h = let e = ap (λ x. (state x).faults) h in omega (arith, e)
    all_counted (t ∷ ts) a b h = counted_on _ _ _ (counts t a h.0 (Ok tt) h.1) (all_counted ts h.0 b h.2)

    all_written : (ts : List Told) (a b : X) → HeardAll hears ts a b → WroteAll (events_told ts) (state a) (state b)
    all_written [] a b h = subst (λ x. WroteAll [] (state a) (state x)) (sym h) (wrote_none (state a))
    all_written (t ∷ ts) a b h = wrote_after (event_told t ∷ []) (events_told ts) (state a) (state h.0) (state b) (writes t a h.0 (Ok tt) h.1) (all_written ts h.0 b h.2)

    -- the line of the last event is not whole, and those behind it lack
    some_written : (es : List Event) (a b : X) (end : RunEnd) (h : HeardSome hears es a b end) → WroteSome (event_told h.last ∷ []) (state h.before) (state b) → WroteSome es (state a) (state b)
    some_written es a b end h some =
        subst (λ es. WroteSome es (state a) (state b)) (sym h.split)
        (some_after (events_told h.whole) (event_told h.last ∷ h.later) (state a) (state h.before) (state b) (all_written h.whole a h.before h.heard)
        (some_before (event_told h.last ∷ []) h.later (state h.before) (state b) h.quiet some))

    module _ (code : Code) (depth k : ℕ) (old new : DevicesState) (a b : X) where
      counted : (end : RunEnd) → RunsTold hears code depth k old new a b end → (state a).faults ≤ (state b).faults
      counted end h = of h.comes
        where
          of : IsHeardRun hears code depth k h.events old new a b end ⊎ IsCutRun hears code depth k h.events a b end → (state a).faults ≤ (state b).faults
          of (inl c) = all_counted c.told a b c.heard
          of (inr c) = counted_on _ _ _ (all_counted c.heard.whole a c.heard.before c.heard.heard) (counts c.heard.last c.heard.before b (Err end) c.heard.cut)

      written : (events : List Event) (end : RunEnd) → (c : IsHeardRun hears code depth k events old new a b end) → WroteAll events (state a) (state b)
      written events end c = subst (λ es. WroteAll es (state a) (state b)) c.are (all_written c.told a b c.heard)

      heard_ends : (events : List Event) (end : RunEnd) → IsHeardRun hears code depth k events old new a b end → EndsTraced code depth k events (state a) (state b) end
      heard_ends events Ended c = (c.ends, written events Ended c)
      heard_ends events (Trap kind place) c = (c.ends, written events (Trap kind place) c)
      heard_ends events TooDeep c = (c.ends, written events TooDeep c)
      heard_ends events Spent c = (c.ends, written events Spent c)
      heard_ends events (DeviceFailed grant op) c = (c.ends, written events (DeviceFailed grant op) c)
      heard_ends events SinkFailed c = absurd c.ends
      heard_ends events Memory c = (record { steps = c.ends.0; few = c.ends.1; end = ends.Spent; runs = c.ends.2 }, inl (written events Memory c))

      cut_ends : (events : List Event) (end : RunEnd) → IsCutRun hears code depth k events a b end → EndsTraced code depth k events (state a) (state b) end
      cut_ends events SinkFailed c =
          let last = writes c.heard.last c.heard.before b (Err SinkFailed) c.heard.cut in
          let first = all_counted c.heard.whole a c.heard.before c.heard.heard in
          let after = counts c.heard.last c.heard.before b (Err SinkFailed) c.heard.cut in
          (c.happened, some_written events a b SinkFailed c.heard last.0, rose_later _ _ _ first last.1 after)
      cut_ends events Memory c = (c.happened, inr (some_written events a b Memory c.heard (writes c.heard.last c.heard.before b (Err Memory) c.heard.cut)))
      cut_ends events Ended c = absurd (writes c.heard.last c.heard.before b (Err Ended) c.heard.cut)
      cut_ends events (Trap kind place) c = absurd (writes c.heard.last c.heard.before b (Err (Trap kind place)) c.heard.cut)
      cut_ends events TooDeep c = absurd (writes c.heard.last c.heard.before b (Err TooDeep) c.heard.cut)
      cut_ends events Spent c = absurd (writes c.heard.last c.heard.before b (Err Spent) c.heard.cut)
      cut_ends events (DeviceFailed grant op) c = absurd (writes c.heard.last c.heard.before b (Err (DeviceFailed grant op)) c.heard.cut)

      cut_fails : (events : List Event) (end : RunEnd) → IsCutRun hears code depth k events a b end → FailsByFault old new end
      cut_fails events SinkFailed c = tt
      cut_fails events Memory c = tt
      cut_fails events Ended c = tt
      cut_fails events (Trap kind place) c = tt
      cut_fails events TooDeep c = tt
      cut_fails events Spent c = tt
      cut_fails events (DeviceFailed grant op) c = absurd (writes c.heard.last c.heard.before b (Err (DeviceFailed grant op)) c.heard.cut)

      pub traced_runs : (end : RunEnd) → RunsTold hears code depth k old new a b end → RunsTraced code depth k old new (state a) (state b) end
      traced_runs end h = of h.comes
        where
          of : IsHeardRun hears code depth k h.events old new a b end ⊎ IsCutRun hears code depth k h.events a b end → RunsTraced code depth k old new (state a) (state b) end
          of (inl c) = record { events = h.events; did = h.did; ends = heard_ends h.events end c; same = h.same; failed = c.failed; counted = counted end h }
          of (inr c) = record { events = h.events; did = h.did; ends = cut_ends h.events end c; same = h.same; failed = cut_fails h.events end c; counted = counted end h }
