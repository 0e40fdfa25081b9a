-- Many steps.
use Rattle.std.proofs.Common.{◌≡◌, ◌≤◌, ◌<◌, ℕ, suc, ◌+◌, ◌-◌, Bool, true, false, List, [], ◌∷◌, ◌++◌, Option, Some, Ok, Err, refl, sym, ap, ap₂, ◌∙◌, subst, arith, append_assoc, append-nil}
use Rattle.std.proofs.lemmas.List.{map-append}
use Rattle.std.specs.Prelude.{if◌then◌else◌}
use Rattle.wy_text.proofs.Gains.{gained-gained, rose_later}
use Rattle.wy_text.specs.Outside.{gained}
use Rattle.wy_device.specs.declared.deed.Deed.{Deed as DeedRecord}
use Rattle.wy_device.specs.declared.deed.Event.{Event}
use Rattle.wy_device.specs.declared.deed.Event.TheVariants.{Enter, Deed, Leave}
use Rattle.wy_device.specs.declared.operation.Answer.{Answer}
use Rattle.wy_device.specs.declared.operation.Kind.{Kind}
use Rattle.wy_device.specs.declared.operation.Kind.TheVariants.{Console, Folder, Clock, Random}
use Rattle.wy_device.specs.DeviceState.{DeviceState}
use Rattle.wy_device.specs.Devices.{DevicesState, IsInOrder, device_of}
use Rattle.wy_device.specs.Events.{deeds_of, same_kind, DidExactly}
use Rattle.wy_device.specs.Operation.{kind_of, kind_named}
use Rattle.wy_device.specs.RunEnds as ends
use Rattle.wy_device.specs.Tapes.{Tapes, spliced, answers}
use Rattle.wy_code.specs.declared.code.Code.{Code}
use Rattle.wy_code.specs.Running.{Ran, and_then, steps, machine, NeverStuck}
use Rattle.wy_machine.specs.declared.run_end.RunEnd.{RunEnd}
use Rattle.wy_machine.specs.declared.run_end.RunEnd.TheVariants.{Ended, Trap, TooDeep, Spent, DeviceFailed, SinkFailed, Memory}
use Rattle.wy_machine.specs.Runs.{tapes_of, RunsTo, EndsIn, IsSameDevice, AreSameDevices, FailsByFault}
use Rattle.wy_machine.specs.OpenBodies.{StackState}
use Rattle.wy_machine.specs.States.{state_of}
use Rattle.wy_machine.specs.Steps.{stepping, IsNotStuck, Halts, StopsIn, IsStep}
use Rattle.wy_machine.specs.StoreState.{StoreState}
use Rattle.wy_machine.specs.Wanting.{next_takes, WantsOnly, goes_to, state_after, state_reached, IsTaking, TakesMemory}

------------------------------------------------------------
-- Events after events

pub deeds_of-append : (kind : Kind) (es fs : List Event) → deeds_of kind (es ++ fs) ≡ deeds_of kind es ++ deeds_of kind fs
deeds_of-append kind [] fs = refl
deeds_of-append kind (Enter x b ∷ es) fs = deeds_of-append kind es fs
deeds_of-append kind (Leave ∷ es) fs = deeds_of-append kind es fs
deeds_of-append kind (Deed d ∷ es) fs = of_test (same_kind kind (kind_of d.op)) (deeds_of-append kind es fs)
  where
    of_test : (b : Bool) → deeds_of kind (es ++ fs) ≡ deeds_of kind es ++ deeds_of kind fs →
        (if b then d ∷ deeds_of kind (es ++ fs) else deeds_of kind (es ++ fs)) ≡ (if b then d ∷ deeds_of kind es else deeds_of kind es) ++ deeds_of kind fs
    of_test true e = ap (λ ds. d ∷ ds) e
    of_test false e = e

answers_after : (kind : Kind) (es fs : List Event) (more : List (Option Answer)) → answers (deeds_of kind (es ++ fs)) ++ more ≡ answers (deeds_of kind es) ++ (answers (deeds_of kind fs) ++ more)
answers_after kind es fs more =
    ap (λ ds. answers ds ++ more) (deeds_of-append kind es fs)
    ∙ ap (λ l. l ++ more) (map-append (λ (d : DeedRecord). d.answer) (deeds_of kind es) (deeds_of kind fs))
    ∙ append_assoc (answers (deeds_of kind es)) (answers (deeds_of kind fs)) more

tapes : List (Option Answer) → List (Option Answer) → List (Option Answer) → List (Option Answer) → Tapes
tapes a b c d = record { console = a; folder = b; clock = c; random = d }

pub tapes_after : (es fs : List Event) (more : Tapes) → spliced (tapes_of (es ++ fs)) more ≡ spliced (tapes_of es) (spliced (tapes_of fs) more)
unfolding tapes
tapes_after es fs more =
    ap₂ (λ a b. tapes a b (answers (deeds_of Clock (es ++ fs)) ++ more.clock) (answers (deeds_of Random (es ++ fs)) ++ more.random)) (answers_after Console es fs more.console) (answers_after Folder es fs more.folder)
    ∙ ap₂ (tapes (answers (deeds_of Console es) ++ (answers (deeds_of Console fs) ++ more.console)) (answers (deeds_of Folder es) ++ (answers (deeds_of Folder fs) ++ more.folder))) (answers_after Clock es fs more.clock) (answers_after Random es fs more.random)

did_kind : (kind : Kind) (a b c : Option (List DeedRecord)) (es fs : List Event) → b ≡ gained a (deeds_of kind es) → c ≡ gained b (deeds_of kind fs) → c ≡ gained a (deeds_of kind (es ++ fs))
did_kind kind a b c es fs e f =
    f ∙ ap (λ x. gained x (deeds_of kind fs)) e ∙ gained-gained a (deeds_of kind es) (deeds_of kind fs) ∙ ap (gained a) (sym (deeds_of-append kind es fs))

pub did_after : (a b c : DevicesState) (es fs : List Event) → DidExactly a b es → DidExactly b c fs → DidExactly a c (es ++ fs)
did_after a b c es fs p q = record {
  console = did_kind Console _ _ _ es fs p.console q.console;
  folder = did_kind Folder _ _ _ es fs p.folder q.folder;
  clock = did_kind Clock _ _ _ es fs p.clock q.clock;
  random = did_kind Random _ _ _ es fs p.random q.random;
}

------------------------------------------------------------
-- The same devices

same_after_one : (a b c : DeviceState) → IsSameDevice a b → IsSameDevice b c → IsSameDevice a c
same_after_one a b c p q = let x = p.counted in let y = q.counted in record { kind = q.kind ∙ p.kind; counted = omega arith }

pub same_after : (a b c : DevicesState) → AreSameDevices a b → AreSameDevices b c → AreSameDevices a c
same_after a b c p q = record {
  console = same_after_one _ _ _ p.console q.console;
  folder = same_after_one _ _ _ p.folder q.folder;
  clock = same_after_one _ _ _ p.clock q.clock;
  random = same_after_one _ _ _ p.random q.random;
}

pub in_order_after : (a b : DevicesState) → AreSameDevices a b → IsInOrder a → IsInOrder b
in_order_after a b p o = record { console = p.console.kind ∙ o.console; folder = p.folder.kind ∙ o.folder; clock = p.clock.kind ∙ o.clock; random = p.random.kind ∙ o.random }

counted_of : (a b : DevicesState) → AreSameDevices a b → (k : Kind) → (device_of a k).faults ≤ (device_of b k).faults
counted_of a b p Console = p.console.counted
counted_of a b p Folder = p.folder.counted
counted_of a b p Clock = p.clock.counted
counted_of a b p Random = p.random.counted

pub fault_after : (a b c : DevicesState) → AreSameDevices a b → AreSameDevices b c → (end : RunEnd) → FailsByFault b c end → FailsByFault a c end
fault_after a b c p q (DeviceFailed grant op) r = rose_later _ _ _ (counted_of a b p (kind_named op)) r (counted_of b c q (kind_named op))
fault_after a b c p q Ended r = r
fault_after a b c p q (Trap kind place) r = r
fault_after a b c p q TooDeep r = r
fault_after a b c p q Spent r = r
fault_after a b c p q SinkFailed r = r
fault_after a b c p q Memory r = r

------------------------------------------------------------
-- A run that came to a state

abbrev pub later : List Event → ℕ → Ran → Ran
later es q r = record { end = r.end; events = es ++ r.events; taken = q + r.taken }

-- q steps of the code, over what the devices answered, lead to a stack and a store
pub record Leads (code : Code) (depth q : ℕ) (s : StackState) (w : StoreState) (old new : DevicesState) : Type 0 where
  pub events : List Event
  pub did : DidExactly old new events
  pub same : AreSameDevices old new
  pub leads : (k : ℕ) (more : Tapes) → machine code depth (q + k) (spliced (tapes_of events) more) ≡ later events q (steps code depth k (state_of code s w more))
  pub reaches : (k : ℕ) (more : Tapes) → state_reached code depth (q + k) (spliced (tapes_of events) more) ≡ state_after code depth k (state_of code s w more)

module _ (code : Code) (depth : ℕ) (a : DevicesState) where
  -- one more step, from a state that the run came to
  further : (q k : ℕ) (s : StackState) (w : StoreState) (b : DevicesState) (l : Leads code depth q s w a b) (fs : List Event) (more : Tapes) →
      machine code depth (q + suc k) (spliced (tapes_of (l.events ++ fs)) more) ≡ later l.events q (and_then (stepping code depth s w (spliced (tapes_of fs) more)) (steps code depth k))
  unfolding steps
  further q k s w b l fs more = ap (machine code depth (q + suc k)) (tapes_after l.events fs more) ∙ l.leads (suc k) (spliced (tapes_of fs) more)

  pub leads_so : (q : ℕ) (s s' : StackState) (w w' : StoreState) (b c : DevicesState) (l : Leads code depth q s w a b) (h : IsStep code s' w' (stepping code depth s w) b c (Ok tt)) (k : ℕ) (more : Tapes) →
      machine code depth (q + 1 + k) (spliced (tapes_of (l.events ++ h.events)) more) ≡ later (l.events ++ h.events) (q + 1) (steps code depth k (state_of code s' w' more))
  leads_so q s s' w w' b c l h k more =
      let e : q + 1 + k ≡ q + suc k = omega arith in
      let r = steps code depth k (state_of code s' w' more) in
      let n : q + suc r.taken ≡ q + 1 + r.taken = omega arith in
      ap (λ n. machine code depth n (spliced (tapes_of (l.events ++ h.events)) more)) e
      ∙ further q k s w b l h.events more
      ∙ ap (λ x. later l.events q (and_then x (steps code depth k))) (h.comes.goes more)
      ∙ ap₂ (λ es n. let r' : Ran = record { end = r.end; events = es; taken = n } in r') (sym (append_assoc l.events h.events r.events)) n

  pub reaches_so : (q : ℕ) (s s' : StackState) (w w' : StoreState) (b c : DevicesState) (l : Leads code depth q s w a b) (h : IsStep code s' w' (stepping code depth s w) b c (Ok tt)) (k : ℕ) (more : Tapes) →
      state_reached code depth (q + 1 + k) (spliced (tapes_of (l.events ++ h.events)) more) ≡ state_after code depth k (state_of code s' w' more)
  unfolding state_after
  reaches_so q s s' w w' b c l h k more =
      let e : q + 1 + k ≡ q + suc k = omega arith in
      ap (λ n. state_reached code depth n (spliced (tapes_of (l.events ++ h.events)) more)) e
      ∙ ap (state_reached code depth (q + suc k)) (tapes_after l.events h.events more)
      ∙ l.reaches (suc k) (spliced (tapes_of h.events) more)
      ∙ ap (λ x. goes_to x (state_after code depth k)) (h.comes.goes more)

  abbrev pub leads_more : (q : ℕ) (s s' : StackState) (w w' : StoreState) (b c : DevicesState) → Leads code depth q s w a b → IsStep code s' w' (stepping code depth s w) b c (Ok tt) → Leads code depth (q + 1) s' w' a c
  leads_more q s s' w w' b c l h = record {
    events = l.events ++ h.events;
    did = did_after a b c l.events h.events l.did h.did;
    same = same_after a b c l.same h.same;
    leads = leads_so q s s' w w' b c l h;
    reaches = reaches_so q s s' w w' b c l h;
  }

  pub halts_to : (q k : ℕ) (s : StackState) (w : StoreState) (b : DevicesState) (l : Leads code depth q s w a b) (fs : List Event) (end : ends.RunEnd) → q < k → Halts fs (stepping code depth s w) end → RunsTo code depth k (l.events ++ fs) end
  halts_to q k s w b l fs end lt h = record { ends = λ more. ap (λ (r : Ran). r.end) (whole more); tells = λ more. ap (λ (r : Ran). r.events) (whole more) }
    where
      whole : (more : Tapes) → machine code depth k (spliced (tapes_of (l.events ++ fs)) more) ≡ later l.events q (record { end = end; events = fs; taken = 1 })
      whole more =
          let e : k ≡ q + suc (k - suc q) = omega arith in
          ap (λ n. machine code depth n (spliced (tapes_of (l.events ++ fs)) more)) e
          ∙ further q (k - suc q) s w b l fs more
          ∙ ap (λ x. later l.events q (and_then x (steps code depth (k - suc q)))) (h.halts more)

  -- no step more, as memory was wanting
  pub spent_to : (q : ℕ) (s : StackState) (w : StoreState) (b : DevicesState) (l : Leads code depth q s w a b) (fs : List Event) → fs ≡ [] → RunsTo code depth q (l.events ++ fs) ends.Spent
  unfolding steps
  spent_to q s w b l fs none = record { ends = λ more. ap (λ (r : Ran). r.end) (whole more); tells = λ more. ap (λ (r : Ran). r.events) (whole more) ∙ ap (λ fs. l.events ++ fs) (sym none) }
    where
      whole : (more : Tapes) → machine code depth q (spliced (tapes_of (l.events ++ fs)) more) ≡ later l.events q (record { end = ends.Spent; events = []; taken = 0 })
      whole more =
          let e : q ≡ q + 0 = omega arith in
          ap (λ fs. machine code depth q (spliced (tapes_of (l.events ++ fs)) more)) none
          ∙ ap (λ es. machine code depth q (spliced (tapes_of es) more)) (append-nil l.events)
          ∙ ap (λ n. machine code depth n (spliced (tapes_of l.events) more)) e
          ∙ l.leads 0 more

  -- the instruction that comes next takes memory
  taking : (q : ℕ) (s : StackState) (w : StoreState) (b : DevicesState) (l : Leads code depth q s w a b) (fs : List Event) → fs ≡ [] → next_takes code s ≡ true → TakesMemory code depth q (spliced (tapes_of (l.events ++ fs)))
  unfolding state_after
  taking q s w b l fs none takes = record { takes = λ more. subst IsTaking (sym (reached more)) takes }
    where
      reached : (more : Tapes) → state_reached code depth q (spliced (tapes_of (l.events ++ fs)) more) ≡ Some (state_of code s w more)
      reached more =
          let e : q ≡ q + 0 = omega arith in
          ap (λ fs. state_reached code depth q (spliced (tapes_of (l.events ++ fs)) more)) none
          ∙ ap (λ es. state_reached code depth q (spliced (tapes_of es) more)) (append-nil l.events)
          ∙ ap (λ n. state_reached code depth n (spliced (tapes_of l.events) more)) e
          ∙ l.reaches 0 more

  pub ends_to : (q k : ℕ) (s : StackState) (w : StoreState) (b : DevicesState) (l : Leads code depth q s w a b) (fs : List Event) (end : RunEnd) → q < k → StopsIn fs (stepping code depth s w) end → WantsOnly (next_takes code s) (Err end) → EndsIn code depth k (l.events ++ fs) end
  ends_to q k s w b l fs Ended lt p m = halts_to q k s w b l fs _ lt p
  ends_to q k s w b l fs (Trap kind place) lt p m = halts_to q k s w b l fs _ lt p
  ends_to q k s w b l fs TooDeep lt p m = halts_to q k s w b l fs _ lt p
  ends_to q k s w b l fs Spent lt p m = absurd p
  ends_to q k s w b l fs (DeviceFailed grant op) lt p m = halts_to q k s w b l fs _ lt p
  ends_to q k s w b l fs SinkFailed lt p m = p
  ends_to q k s w b l fs Memory lt p m = let le : q ≤ k = omega arith in (q, le, spent_to q s w b l fs p, taking q s w b l fs p m)

  -- so many steps and no more
  pub spent_now : (q : ℕ) (s : StackState) (w : StoreState) (b : DevicesState) (l : Leads code depth q s w a b) → RunsTo code depth q l.events ends.Spent
  spent_now q s w b l = subst (λ es. RunsTo code depth q es ends.Spent) (append-nil l.events) (spent_to q s w b l [] refl)

  pub sound_after : (q : ℕ) (s : StackState) (w : StoreState) (b : DevicesState) → NeverStuck code → Leads code depth q s w a b → IsNotStuck (stepping code depth s w)
  unfolding steps
  sound_after q s w b never l = record {
    holds = λ t wrong.
        never depth (q + 1) (spliced (tapes_of l.events) t) (ap (λ (r : Ran). r.end) (l.leads 1 t ∙ ap (λ x. later l.events q (and_then x (steps code depth 0))) wrong));
  }
