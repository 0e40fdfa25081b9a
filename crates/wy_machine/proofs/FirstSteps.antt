-- How a run starts.
use Rattle.std.proofs.Common.{◌≡◌, ℕ, ◌+◌, List, [], ◌++◌, Ok, sym, ap, ◌∙◌, arith, append-nil}
use Rattle.wy_device.specs.declared.deed.Event.{Event}
use Rattle.wy_device.specs.Devices.{DevicesState}
use Rattle.wy_device.specs.RunEnds as ends
use Rattle.wy_device.specs.Tapes.{Tapes, spliced}
use Rattle.wy_code.specs.declared.code.Code.{Code}
use Rattle.wy_code.specs.Stores.{Store}
use Rattle.wy_code.specs.Machine.{begin_next}
use Rattle.wy_code.specs.Running.{Ran, steps, enter_first, store_at_first, objects_at_first, machine, NeverStuck}
use Rattle.wy_machine.specs.Runs.{tapes_of, RunsTo}
use Rattle.wy_machine.specs.OpenBodies.{StackState}
use Rattle.wy_machine.specs.States.{store_of, state_of}
use Rattle.wy_machine.specs.Steps.{beginning, starting, IsNotStuck, Halts, IsStep}
use Rattle.wy_machine.specs.StoreStates.{store_with}
use Rattle.wy_machine.specs.StoreState.{StoreState}
use Rattle.wy_machine.specs.Wanting.{goes_to, state_after, state_reached}
use Rattle.wy_machine.proofs.Leading.{Leads, later}

-- the store with the instances' objects
abbrev pub first_store : Code → StoreState
first_store code = store_with (objects_at_first code 0 code.instances)

first_is : (code : Code) (t : Tapes) → store_at_first code t ≡ store_of code (first_store code) t
first_is code t = ap (λ texts. let w : Store = record (store_at_first code t) { texts = texts } in w) (sym (append-nil code.texts))

pub starts : (code : Code) (t : Tapes) → starting code t ≡ beginning code [] (first_store code) t
starts code t = ap (begin_next code []) (first_is code t)

module _ (code : Code) (depth : ℕ) where
  pub first_sound : NeverStuck code → IsNotStuck (starting code)
  unfolding machine
  first_sound never = record { holds = λ t wrong. never depth 0 t (ap (λ x. (enter_first x (steps code depth 0)).end) wrong) }

  pub leads_so_first : (s : StackState) (w : StoreState) (a b : DevicesState) (h : IsStep code s w (starting code) a b (Ok tt)) (k : ℕ) (more : Tapes) →
      machine code depth (0 + k) (spliced (tapes_of h.events) more) ≡ later h.events 0 (steps code depth k (state_of code s w more))
  unfolding machine
  leads_so_first s w a b h k more =
      let e : 0 + k ≡ k = omega arith in
      let r = steps code depth k (state_of code s w more) in
      let n : r.taken ≡ 0 + r.taken = omega arith in
      ap (λ k. machine code depth k (spliced (tapes_of h.events) more)) e
      ∙ ap (λ x. enter_first x (steps code depth k)) (h.comes.goes more)
      ∙ ap (λ n. let r' : Ran = record { end = r.end; events = h.events ++ r.events; taken = n } in r') n

  pub reaches_first : (s : StackState) (w : StoreState) (a b : DevicesState) (h : IsStep code s w (starting code) a b (Ok tt)) (k : ℕ) (more : Tapes) →
      state_reached code depth (0 + k) (spliced (tapes_of h.events) more) ≡ state_after code depth k (state_of code s w more)
  reaches_first s w a b h k more =
      let e : 0 + k ≡ k = omega arith in
      ap (λ k. state_reached code depth k (spliced (tapes_of h.events) more)) e
      ∙ ap (λ x. goes_to x (state_after code depth k)) (h.comes.goes more)

  abbrev pub leads_first : (s : StackState) (w : StoreState) (a b : DevicesState) → IsStep code s w (starting code) a b (Ok tt) → Leads code depth 0 s w a b
  leads_first s w a b h = record { events = h.events; did = h.did; same = h.same; leads = leads_so_first s w a b h; reaches = reaches_first s w a b h }

  pub halts_first : (k : ℕ) (es : List Event) (end : ends.RunEnd) → Halts es (starting code) end → RunsTo code depth k es end
  unfolding machine
  halts_first k es end h = record {
    ends = λ more. ap (λ x. (enter_first x (steps code depth k)).end) (h.halts more);
    tells = λ more. ap (λ x. (enter_first x (steps code depth k)).events) (h.halts more);
  }
