-- Which events a step shows.
use Rattle.std.proofs.Common.{◌≡◌, ℕ, Bool, true, false, List, [], ◌∷◌, ◌++◌, length, map, ◌+◌, Option, Some, None, Result, Ok, Err, refl, sym, ap, ◌∙◌, subst, nat_eq, nat_lt}
use Rattle.std.specs.Prelude.{slice_get, if◌then◌else◌}
use Rattle.wy_text.specs.declared.fault.Place.{Place}
use Rattle.wy_device.specs.declared.deed.Event.{Event}
use Rattle.wy_device.specs.declared.deed.Event.TheVariants as event
use Rattle.wy_device.specs.declared.operation.OpName.{OpName}
use Rattle.wy_device.specs.Devices.{DevicesState}
use Rattle.wy_device.specs.Operators as meant
use Rattle.wy_device.specs.RunEnds as ends
use Rattle.wy_device.specs.Tapes.{Tapes, spliced}
use Rattle.wy_device.specs.Traps.{most_texts, most_objects, Crowded}
use Rattle.wy_code.specs.declared.code.Body.{Body}
use Rattle.wy_code.specs.declared.code.Code.{Code}
use Rattle.wy_code.specs.declared.code.Instance.{Instance}
use Rattle.wy_code.specs.declared.code.Literal.{Literal}
use Rattle.wy_code.specs.declared.instruction.Instruction.{Instruction}
use Rattle.wy_code.specs.declared.instruction.Instruction.TheVariants.{Push, Load, Store as StoreIn, Get, Set, Drop, Op as Operate, Jump, JumpFalse, New, Call, Return, Finish}
use Rattle.wy_code.specs.declared.instruction.Operator.{Operator}
use Rattle.wy_code.specs.Operations.{operated, computed, operator_meant, operand_count}
use Rattle.wy_code.specs.Stores as word
use Rattle.wy_code.specs.Stores.{Word, Int, Truth, Text, Object, Grant, Thing, Store, found, value_at, value_set, with_text, object_made, operand, replied, ended}
use Rattle.wy_code.specs.Machine as machine
use Rattle.wy_code.specs.Machine.{State, Frame, Next, Go, Halt, stuck, act, push, push_reply, popped, store_slot, stored, on_truth, on_taken, Taken, taken, short, take_operands, has_room, make_with, words_from, this_of, literal_of, call_on, enter_method, enter_body, method_of_literal, return_to, begin_instance, begin_body, start_in, all_instances, name_in, with_operands, with_store}
use Rattle.wy_code.specs.Running.{store_at_first}
use Rattle.wy_machine.specs.declared.run_end.RunEnd.{RunEnd}
use Rattle.wy_machine.specs.declared.run_end.RunEnd.TheVariants.{Ended, Trap, TooDeep, Spent, DeviceFailed, SinkFailed, Memory}
use Rattle.wy_machine.specs.declared.run_end.TrapKind.{TrapKind}
use Rattle.wy_machine.specs.Runs.{tapes_of}
use Rattle.wy_machine.specs.OpenBodies.{StackState}
use Rattle.wy_machine.specs.States.{store_of, state_of}
use Rattle.wy_machine.specs.Steps.{acting, starting, Halts, IsStep}
use Rattle.wy_machine.specs.StoreState.{StoreState}
use Rattle.wy_machine.specs.TrapKinds.{trap_meant}
use Rattle.wy_machine.proofs.Acts.{no_tapes}
use Rattle.wy_machine.proofs.CallSteps.{calls}

------------------------------------------------------------
-- What a step shows, by its instruction and where it comes to

-- nothing, a body is entered or left, or one is left where an instance is done with its own
pub data Shown : Type 0 where
  Nothing : Shown
  Enter : Shown
  Leave : Shown
  LeaveAndStart : Shown

abbrev pub events_in : Next → List Event
events_in (Go es s) = es
events_in (Halt e es) = es

-- the body that runs is entered
abbrev pub entry : Code → State → Event
entry code s = event.Enter (name_in (slice_get (all_instances code) s.frame.instance)) s.frame.body.name

-- where the step goes on to a state
abbrev pub shown_going : Code → Shown → State → List Event
shown_going code Nothing s = []
shown_going code Enter s = entry code s ∷ []
shown_going code Leave s = event.Leave ∷ []
shown_going code LeaveAndStart s = event.Leave ∷ entry code s ∷ []

-- where it ends the run: only one that finishes a body shows something
abbrev pub shown_ending : Shown → ends.RunEnd → List Event
shown_ending LeaveAndStart ends.Ended = event.Leave ∷ []
shown_ending _ _ = []

abbrev pub shown : Code → Shown → Next → List Event
shown code c (Go es s) = shown_going code c s
shown code c (Halt e es) = shown_ending c e

-- the step shows so, whatever the answers to come are
pub record Shows (code : Code) (c : Shown) (next : Tapes → Next) : Type 0 where
  pub holds : (t : Tapes) → events_in (next t) ≡ shown code c (next t)

-- what the machine's own end of a step shows
abbrev pub shown_stopping : Shown → RunEnd → List Event
shown_stopping LeaveAndStart Ended = event.Leave ∷ []
shown_stopping _ _ = []

abbrev pub shown_by : Code → Shown → StackState → StoreState → Tapes → Result (Unit {0}) RunEnd → List Event
shown_by code c s w t (Ok u) = shown_going code c (state_of code s w t)
shown_by code c s w t (Err e) = shown_stopping c e

module _ (code : Code) where
  -- what is the same for all answers shows the same
  pub shows_as : (c : Shown) (f g : Tapes → Next) → ((t : Tapes) → f t ≡ g t) → Shows code c g → Shows code c f
  shows_as c f g e h = record { holds = λ t. ap events_in (e t) ∙ h.holds t ∙ ap (shown code c) (sym (e t)) }

  abbrev IsShown : Shown → Next → Type 0
  IsShown c n = events_in n ≡ shown code c n

  -- either way of a test
  tested : (c : Shown) (b : Bool) (x y : Next) → IsShown c x → IsShown c y → IsShown c (if b then x else y)
  tested c true x y h g = h
  tested c false x y h g = g

  ------------------------------------------------------------
  -- Instructions that show nothing

  push_silent : (v : Word) (s : State) → IsShown Nothing (push v [] s)
  push_silent v s = tested Nothing (has_room s.frame) _ _ refl refl

  found_silent : (o : Option Word) (w : Store) (s : State) → IsShown Nothing (push_reply (found o w) s)
  found_silent None w s = refl
  found_silent (Some v) w s = push_silent v (with_store w s)

  slot_silent : (i : ℕ) (ops : List Word) (s : State) → IsShown Nothing (popped ops s (λ v s. store_slot i v s))
  slot_silent i [] s = refl
  slot_silent i (v ∷ vs) s = tested Nothing (nat_lt i (length s.frame.slots)) _ _ refl refl

  stored_silent : (o : Option Store) (s : State) → IsShown Nothing (stored o s)
  stored_silent None s = refl
  stored_silent (Some w) s = refl

  set_silent : (i : ℕ) (ops : List Word) (s : State) → IsShown Nothing (popped ops s (λ v s. stored (value_set (this_of s.frame) i v s.store) s))
  set_silent i [] s = refl
  set_silent i (v ∷ vs) s = stored_silent (value_set (this_of s.frame) i v s.store) (with_operands vs s)

  drop_silent : (ops : List Word) (s : State) → IsShown Nothing (popped ops s (λ v s. Go [] s))
  drop_silent [] s = refl
  drop_silent (v ∷ vs) s = refl

  truth_silent : (v : Word) (a b : Next) → IsShown Nothing a → IsShown Nothing b → IsShown Nothing (on_truth v a b)
  truth_silent (Truth true) a b h g = h
  truth_silent (Truth false) a b h g = g
  truth_silent (Int n) a b h g = refl
  truth_silent word.Nothing a b h g = refl
  truth_silent (Text n) a b h g = refl
  truth_silent (Object x) a b h g = refl
  truth_silent (Grant x) a b h g = refl

  jump_silent : (to : ℕ) (ops : List Word) (s : State) → IsShown Nothing (popped ops s (λ v s. on_truth v (Go [] s) (machine.jump to s)))
  jump_silent to [] s = refl
  jump_silent to (v ∷ vs) s = truth_silent v _ _ refl refl

  computed_silent : (place : Place) (w : Store) (c : meant.Computed) (s : State) → IsShown Nothing (push_reply (computed place w c) s)
  computed_silent place w (meant.GivesNumber n) s = push_silent (Int n) (with_store w s)
  computed_silent place w (meant.GivesTruth b) s = push_silent (Truth b) (with_store w s)
  computed_silent place w (meant.Builds bytes) s = of_room (nat_lt w.built most_texts)
    where
      of_room : (b : Bool) → IsShown Nothing (push_reply (if b then replied (Text (length w.texts)) (with_text bytes w) else ended (ends.Trap Crowded place)) s)
      of_room true = push_silent (Text (length w.texts)) (with_store (with_text bytes w) s)
      of_room false = refl
  computed_silent place w (meant.Traps kind) s = refl
  computed_silent place w meant.Misfits s = refl

  operator_silent : (place : Place) (o : Operator) (got : Taken) (s : State) → IsShown Nothing (on_taken got s (λ vs s. push_reply (operated place o vs s.store) s))
  operator_silent place o short s = refl
  operator_silent place o (taken vs ops) s = computed_silent place s.store (meant.operate (operator_meant o) (map (operand s.store) vs)) (with_operands ops s)

  made_silent : (place : Place) (thing : Thing) (s : State) → IsShown Nothing (push_reply (object_made place thing s.store) s)
  made_silent place thing s = of_room (nat_lt s.store.made most_objects)
    where
      with_thing : Store
      with_thing = record (s.store) { objects = s.store.objects ++ thing ∷ []; made = s.store.made + 1 }

      of_room : (b : Bool) → IsShown Nothing (push_reply (if b then replied (Object (length s.store.objects)) with_thing else ended (ends.Trap Crowded place)) s)
      of_room true = push_silent (Object (length s.store.objects)) (with_store with_thing s)
      of_room false = refl

  captured_silent : (place : Place) (l : ℕ) (fields : List Word) (s : State) (o : Option (List Word)) → IsShown Nothing (make_with place l fields s o)
  captured_silent place l fields s None = refl
  captured_silent place l fields s (Some captured) = made_silent place (record { instance = s.frame.instance; literal = l; values = captured ++ fields }) s

  fields_silent : (place : Place) (l : ℕ) (literal : Literal) (got : Taken) (s : State) → IsShown Nothing (on_taken got s (λ fields s. make_with place l fields s (words_from s.frame s.store literal.captures)))
  fields_silent place l literal short s = refl
  fields_silent place l literal (taken vs ops) s = captured_silent place l vs (with_operands ops s) (words_from (with_operands ops s).frame s.store literal.captures)

  make_silent : (place : Place) (l : ℕ) (s : State) (o : Option Literal) → IsShown Nothing (machine.make place l s o)
  make_silent place l s None = refl
  make_silent place l s (Some literal) = fields_silent place l literal (take_operands literal.fields s.frame.operands []) s

  abbrev pub IsSilent : Instruction → Type 0
  IsSilent (Call m k) = ⊥
  IsSilent Return = ⊥
  IsSilent Finish = ⊥
  IsSilent _ = Unit {0}

  silent : (depth : ℕ) (place : Place) (i : Instruction) (s : State) → IsSilent i → IsShown Nothing (act code depth place i s)
  silent depth place (Push c) s h = push_silent (machine.word_of c) s
  silent depth place (Load i) s h = found_silent (slice_get s.frame.slots i) s.store s
  silent depth place (StoreIn i) s h = slot_silent i s.frame.operands s
  silent depth place (Get i) s h = found_silent (value_at s.store (this_of s.frame) i) s.store s
  silent depth place (Set i) s h = set_silent i s.frame.operands s
  silent depth place Drop s h = drop_silent s.frame.operands s
  silent depth place (Operate o) s h = operator_silent place o (take_operands (operand_count o) s.frame.operands []) s
  silent depth place (Jump to) s h = refl
  silent depth place (JumpFalse to) s h = jump_silent to s.frame.operands s
  silent depth place (New l) s h = make_silent place l s (literal_of code s.frame.instance l)
  silent depth place (Call m k) s h = absurd h
  silent depth place Return s h = absurd h
  silent depth place Finish s h = absurd h

  -- a silent instruction
  pub shows_silently : (depth : ℕ) (place : Place) (s : StackState) (w : StoreState) (i j : Instruction) → i ≡ j → IsSilent j → Shows code Nothing (acting code depth place s w i)
  shows_silently depth place s w i j e h = record { holds = λ t. silent depth place i (state_of code s w t) (subst IsSilent (sym e) h) }

  ------------------------------------------------------------
  -- Returning and starting

  returned : (v : Word) (fs : List Frame) (w : Store) → IsShown Leave (return_to v fs w)
  returned v [] w = refl
  returned v (f ∷ fs) w = refl

  returning : (ops : List Word) (s : State) → IsShown Leave (popped ops s (λ v s. return_to v s.callers s.store))
  returning [] s = refl
  returning (v ∷ vs) s = returned v s.callers s.store

  pub shows_return : (depth : ℕ) (place : Place) (s : StackState) (w : StoreState) (i : Instruction) → i ≡ Return → Shows code Leave (acting code depth place s w i)
  shows_return depth place s w i e = subst (λ i. Shows code Leave (acting code depth place s w i)) (sym e) (record { holds = λ t. returning s.running.operands (state_of code s w t) })

  -- a body is entered first, or after another one was left
  abbrev Begins : Shown → List Event → Type 0
  Begins c es = (b : Body) (x : ℕ) (i : Instance) → slice_get (all_instances code) x ≡ Some i → (w : Store) → IsShown c (begin_body code x i.name es w (Some b))

  begins_first : Begins Enter []
  begins_first b x i e w = ap (λ o. event.Enter (name_in o) b.name ∷ []) (sym e)

  begins_next : Begins LeaveAndStart (event.Leave ∷ [])
  begins_next b x i e w = ap (λ o. event.Leave ∷ event.Enter (name_in o) b.name ∷ []) (sym e)

  begun_body : (c : Shown) (es : List Event) → Begins c es → IsShown c stuck → (b : Option Body) (x : ℕ) (i : Instance) → slice_get (all_instances code) x ≡ Some i → (w : Store) → IsShown c (begin_body code x i.name es w b)
  begun_body c es h g None x i e w = g
  begun_body c es h g (Some b) x i e w = h b x i e w

  begun_instance : (c : Shown) (es : List Event) → Begins c es → IsShown c stuck → IsShown c (Halt ends.Ended es) → (o : Option Instance) (x : ℕ) → slice_get (all_instances code) x ≡ o → (w : Store) → IsShown c (begin_instance code x es w o)
  begun_instance c es h g last None x e w = last
  begun_instance c es h g last (Some i) x e w = begun_body c es h g (start_in code (slice_get code.scopes i.scope)) x i e w

  pub shows_first : Shows code Enter (starting code)
  shows_first = record { holds = λ t. begun_instance Enter [] begins_first refl refl (slice_get (all_instances code) 0) 0 refl (store_at_first code t) }

  finished : (fs : List Frame) (w : Store) → IsShown LeaveAndStart (machine.finish code fs w)
  finished [] w = begun_instance LeaveAndStart (event.Leave ∷ []) begins_next refl refl (slice_get (all_instances code) w.next) w.next refl w
  finished (f ∷ fs) w = refl

  pub shows_finish : (depth : ℕ) (place : Place) (s : StackState) (w : StoreState) (i : Instruction) → i ≡ Finish → Shows code LeaveAndStart (acting code depth place s w i)
  shows_finish depth place s w i e = subst (λ i. Shows code LeaveAndStart (acting code depth place s w i)) (sym e) (record { holds = λ t. finished (state_of code s w t).callers (store_of code w t) })

  ------------------------------------------------------------
  -- Calls on objects

  entered_body : (a x : ℕ) (vs : List Word) (s : State) (b : Option Body) → IsShown Enter (enter_body code a x vs s b)
  entered_body a x vs s None = refl
  entered_body a x vs s (Some b) = tested Enter (nat_eq (length vs) b.parameters) _ _ refl refl

  entered_method : (a m : ℕ) (vs : List Word) (s : State) (o : Option Thing) → IsShown Enter (enter_method code a m vs s o)
  entered_method a m vs s None = refl
  entered_method a m vs s (Some thing) = entered_body a thing.instance vs s (method_of_literal code (literal_of code thing.instance thing.literal) m)

  called : (depth : ℕ) (place : Place) (m : ℕ) (vs : List Word) (a : ℕ) (s : State) → IsShown Enter (call_on code depth place m vs (Object a) s)
  called depth place m vs a s = tested Enter (nat_lt (length s.callers) depth) _ _ (entered_method a m vs s (slice_get s.store.objects a)) refl

  module _ (depth : ℕ) (place : Place) (s : StackState) (w : StoreState) (m k : ℕ) where
    pub shows_call : (a : ℕ) → slice_get s.running.operands k ≡ Some (Object a) → Shows code Enter (acting code depth place s w (Call m k))
    shows_call a e = shows_as Enter _ _ (calls code depth place s w m k (Object a) e) (record { holds = λ t. called depth place m _ a _ })

------------------------------------------------------------
-- The events of a step are those that it shows

ended_same : (c : Shown) → shown_ending c ends.Ended ≡ shown_stopping c Ended
ended_same Nothing = refl
ended_same Enter = refl
ended_same Leave = refl
ended_same LeaveAndStart = refl

trapped_same : (c : Shown) (k : TrapKind) (p : Place) → shown_ending c (ends.Trap (trap_meant k) p) ≡ shown_stopping c (Trap k p)
trapped_same Nothing k p = refl
trapped_same Enter k p = refl
trapped_same Leave k p = refl
trapped_same LeaveAndStart k p = refl

deep_same : (c : Shown) → shown_ending c ends.TooDeep ≡ shown_stopping c TooDeep
deep_same Nothing = refl
deep_same Enter = refl
deep_same Leave = refl
deep_same LeaveAndStart = refl

failed_same : (c : Shown) (grant : List ℕ) (op : OpName) → shown_ending c (ends.DeviceFailed grant op) ≡ shown_stopping c (DeviceFailed grant op)
failed_same Nothing grant op = refl
failed_same Enter grant op = refl
failed_same Leave grant op = refl
failed_same LeaveAndStart grant op = refl

starved_none : (c : Shown) → shown_stopping c Memory ≡ []
starved_none Nothing = refl
starved_none Enter = refl
starved_none Leave = refl
starved_none LeaveAndStart = refl

module _ (code : Code) (s : StackState) (w : StoreState) (next : Tapes → Next) (old new : DevicesState) where
  module _ (c : Shown) (shows : Shows code c next) where
    halted : (es : List Event) (end : ends.RunEnd) → Halts es next end → es ≡ shown_ending c end
    halted es end h = let t = spliced (tapes_of es) no_tapes in sym (ap events_in (h.halts no_tapes)) ∙ shows.holds t ∙ ap (shown code c) (h.halts no_tapes)

    pub events_are : (own : Result (Unit {0}) RunEnd) (h : IsStep code s w next old new own) → h.events ≡ shown_by code c s w no_tapes own
    events_are (Ok u) h = let t = spliced (tapes_of h.events) no_tapes in sym (ap events_in (h.comes.goes no_tapes)) ∙ shows.holds t ∙ ap (shown code c) (h.comes.goes no_tapes)
    events_are (Err Ended) h = halted h.events _ h.comes ∙ ended_same c
    events_are (Err (Trap kind place)) h = halted h.events _ h.comes ∙ trapped_same c kind place
    events_are (Err TooDeep) h = halted h.events _ h.comes ∙ deep_same c
    events_are (Err Spent) h = absurd h.comes
    events_are (Err (DeviceFailed grant op)) h = halted h.events _ h.comes ∙ failed_same c grant op
    events_are (Err SinkFailed) h = absurd h.comes
    events_are (Err Memory) h = h.comes ∙ sym (starved_none c)
