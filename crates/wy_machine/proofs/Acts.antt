-- What instructions need, and what they do.
use Rattle.std.proofs.Common.{◌≡◌, ◌≢◌, ℕ, zero, suc, ◌<◌, ◌≤◌, Bool, true, false, List, [], ◌∷◌, ◌++◌, length, take, drop, reverse, map, Option, Some, None, Result, Ok, refl, sym, ap, ◌∙◌, arith, subst, nat_lt, unwrap_or, ⊎_elim, append_assoc, append-nil}
use Rattle.std.specs.Prelude.{slice_get, slice_set, if◌then◌else◌, IsSome}
use Rattle.std.proofs.lemmas.Bool.{cases_lt}
use Rattle.std.proofs.lemmas.List.{reverse-append}
use Rattle.std.proofs.lemmas.Option.{slice_get_past, same_Some}
use Rattle.wy_text.specs.declared.fault.Place.{Place}
use Rattle.wy_device.specs.declared.deed.Event.TheVariants.{Leave}
use Rattle.wy_device.specs.Devices.{DevicesState}
use Rattle.wy_device.specs.Tapes.{Tapes}
use Rattle.wy_code.specs.declared.code.Code.{Code}
use Rattle.wy_code.specs.declared.instruction.Constant.{Constant}
use Rattle.wy_code.specs.declared.instruction.Instruction.{Instruction}
use Rattle.wy_code.specs.declared.instruction.Instruction.TheVariants.{Push, Load, Store as StoreIn, Get, Set, Drop, Jump, JumpFalse, Return}
use Rattle.wy_code.specs.Stores.{Word, Int, Truth, Nothing, Text, Object, Grant, Thing, Store, found, value_at, value_in, value_set, with_value}
use Rattle.wy_code.specs.Machine as machine
use Rattle.wy_code.specs.Machine.{State, Next, Go, Halt, stuck, act, first_of, word_of, has_room, popped, store_slot, stored, on_truth, return_to, take_operands, taken, short, on_taken, Taken, push_reply}
use Rattle.wy_machine.specs.declared.run_end.RunEnd.{RunEnd}
use Rattle.wy_machine.specs.Stacks.{pushed, with_operands, left_to, stored_in, at_address, jumped_unless}
use Rattle.wy_machine.specs.OpenBodies.{OpenBody, StackState}
use Rattle.wy_machine.specs.States.{frame_of, store_of, state_of}
use Rattle.wy_machine.specs.Steps.{AreQuiet, IsNotStuck, IsStep}
use Rattle.wy_machine.specs.Steps as steps
use Rattle.wy_machine.specs.StoreStates.{value_of, object_set, value_written}
use Rattle.wy_machine.specs.StoreState.{StoreState}
use Rattle.wy_machine.specs.Words.{truth_of, object_of}
use Rattle.wy_machine.proofs.Quiet.{no_events, goes_quietly, unstuck}

pub no_tapes : Tapes
no_tapes = record { console = []; folder = []; clock = []; random = [] }

-- a test that leads on, or is stuck
pub either : (b : Bool) (x : Next) → (if b then x else stuck) ≢ stuck → (if b then x else stuck) ≡ x
either true x h = refl
either false x h = absurd (h refl)

pub passed : (b : Bool) (x : Next) → (if b then x else stuck) ≢ stuck → b ≡ true
passed true x h = refl
passed false x h = absurd (h refl)

pub some_is : {A : Type 0} (o : Option A) (d : A) → IsSome o → o ≡ Some (unwrap_or o d)
some_is None d h = cc
some_is (Some x) d h = refl

none_is_some : (o : Option Word) → o ≡ None → IsSome o → ⊥
none_is_some None e h = cc
none_is_some (Some v) e h = cc

is_true : (m n : ℕ) → m < n → nat_lt m n ≡ true
is_true m n h = grind arith

is_false : (m n : ℕ) → n ≤ m → nat_lt m n ≡ false
is_false m n h = grind arith

index_within : (vs : List Word) (i : ℕ) → IsSome (slice_get vs i) → nat_lt i (length vs) ≡ true
index_within vs i h = ⊎_elim (is_true i (length vs)) (λ le. absurd (none_is_some (slice_get vs i) (slice_get_past vs i le) h)) (cases_lt i (length vs))

pub some_within : (vs : List Word) (i : ℕ) → i < length vs → IsSome (slice_get vs i)
some_within [] i h = absurd (omega arith)
some_within (v ∷ vs) zero h = refl
some_within (v ∷ vs) (suc i) h = let lt : i < length vs = omega arith in some_within vs i lt

module _ (code : Code) where
  -- a step that pushes a word
  pub pushes : (s : StackState) (w : StoreState) (v : Word) (next : Tapes → Next) → ((t : Tapes) → next t ≡ machine.push v [] (state_of code s w t)) → IsNotStuck next → (d : DevicesState) → IsStep code (pushed v s) w next d d (Ok tt)
  pushes s w v next e h d =
      goes_quietly code (pushed v s) w next d [] no_events
      (λ t. e t ∙ either (has_room (frame_of code s.running)) (Go [] (state_of code (pushed v s) w t)) (λ wrong. h.holds t (e t ∙ wrong)))

  -- where a step pushes a word there is room for it
  pub room_to_push : (s : StackState) (w : StoreState) (v : Word) (next : Tapes → Next) → ((t : Tapes) → next t ≡ machine.push v [] (state_of code s w t)) → IsNotStuck next → has_room (frame_of code s.running) ≡ true
  room_to_push s w v next e h = passed (has_room (frame_of code s.running)) _ (λ wrong. h.holds no_tapes (e no_tapes ∙ wrong))

  -- a value of an object is found by the object's number
  pub value_at_is : (w : StoreState) (v : Word) (i : ℕ) (t : Tapes) → value_at (store_of code w t) v i ≡ value_of w v i
  value_at_is w (Int n) i t = refl
  value_at_is w (Truth b) i t = refl
  value_at_is w Nothing i t = refl
  value_at_is w (Text n) i t = refl
  value_at_is w (Object a) i t = refl
  value_at_is w (Grant g) i t = refl

  ------------------------------------------------------------
  -- Operands

  take_there : (k : ℕ) (ops acc : List Word) → k ≤ length ops → take_operands k ops acc ≡ taken (reverse (take k ops) ++ acc) (drop k ops)
  take_there zero ops acc le = refl
  take_there (suc k) [] acc le = absurd (omega arith)
  take_there (suc k) (v ∷ ops) acc le =
      let few : k ≤ length ops = omega arith in
      take_there k ops (v ∷ acc) few
      ∙ ap (λ l. taken l (drop k ops)) (sym (ap (λ l. l ++ acc) (reverse-append (v ∷ []) (take k ops)) ∙ append_assoc (reverse (take k ops)) (v ∷ []) acc))

  take_short : (k : ℕ) (ops acc : List Word) → length ops < k → take_operands k ops acc ≡ short
  take_short zero ops acc lt = absurd (omega arith)
  take_short (suc k) [] acc lt = refl
  take_short (suc k) (v ∷ ops) acc lt = let few : length ops < k = omega arith in take_short k ops (v ∷ acc) few

  module _ (s : StackState) (w : StoreState) where
    -- the k topmost operands are there
    pub operands_there : (k : ℕ) (next : Tapes → Next) (go : Tapes → List Word → State → Next) → ((t : Tapes) → next t ≡ on_taken (take_operands k s.running.operands []) (state_of code s w t) (go t)) → IsNotStuck next → k ≤ length s.running.operands
    operands_there k next go e h = ⊎_elim
        (λ lt. absurd (h.holds no_tapes (e no_tapes ∙ ap (λ x. on_taken x (state_of code s w no_tapes) (go no_tapes)) (take_short k s.running.operands [] lt))))
        (λ le. le)
        (cases_lt (length s.running.operands) k)

    pub operands_taken : (k : ℕ) (t : Tapes) (go : List Word → State → Next) → k ≤ length s.running.operands →
        on_taken (take_operands k s.running.operands []) (state_of code s w t) go ≡ go (reverse (take k s.running.operands)) (state_of code (with_operands (drop k s.running.operands) s) w t)
    operands_taken k t go le =
        ap (λ x. on_taken x (state_of code s w t) go) (take_there k s.running.operands [] le ∙ ap (λ l. taken l (drop k s.running.operands)) (append-nil (reverse (take k s.running.operands))))

    operand_in : (ops : List Word) (go : Tapes → Word → State → Next) → IsNotStuck (λ t. popped ops (state_of code s w t) (go t)) → 0 < length ops
    operand_in [] go h = absurd (h.holds no_tapes refl)
    operand_in (v ∷ ops) go h = omega arith

    -- the topmost operand is there
    pub operand_there : (go : Tapes → Word → State → Next) → IsNotStuck (λ t. popped s.running.operands (state_of code s w t) (go t)) → 0 < length s.running.operands
    operand_there = operand_in s.running.operands

    popped_in : (ops : List Word) (go : Tapes → Word → State → Next) (t : Tapes) → 0 < length ops → popped ops (state_of code s w t) (go t) ≡ go t (first_of ops) (state_of code (with_operands (drop 1 ops) s) w t)
    popped_in [] go t some = absurd (omega arith)
    popped_in (v ∷ ops) go t some = refl

    pub operand_popped : (go : Tapes → Word → State → Next) (t : Tapes) → 0 < length s.running.operands →
        popped s.running.operands (state_of code s w t) (go t) ≡ go t (first_of s.running.operands) (state_of code (with_operands (drop 1 s.running.operands) s) w t)
    operand_popped = popped_in s.running.operands

  module _ (depth : ℕ) (place : Place) (s : StackState) (w : StoreState) where
    abbrev pub acting : Instruction → Tapes → Next
    acting i = steps.acting code depth place s w i

    abbrev rest : StackState
    rest = with_operands (drop 1 s.running.operands) s

    abbrev top : Word
    top = first_of s.running.operands

    pub push_step : (c : Constant) → IsNotStuck (acting (Push c)) → (d : DevicesState) → IsStep code (pushed (word_of c) s) w (acting (Push c)) d d (Ok tt)
    push_step c = pushes s w (word_of c) (acting (Push c)) (λ t. refl)

    pub push_room : (c : Constant) → IsNotStuck (acting (Push c)) → has_room (frame_of code s.running) ≡ true
    push_room c = room_to_push s w (word_of c) (acting (Push c)) (λ t. refl)

    ------------------------------------------------------------
    -- Slots

    pub slot_there : (i : ℕ) → IsNotStuck (acting (Load i)) → i < length s.running.slots
    slot_there i h = ⊎_elim
        (λ lt. lt)
        (λ le. absurd (h.holds no_tapes (ap (λ o. push_reply (found o (store_of code w no_tapes)) (state_of code s w no_tapes)) (slice_get_past s.running.slots i le))))
        (cases_lt i (length s.running.slots))

    pub load_step : (i : ℕ) (v : Word) → slice_get s.running.slots i ≡ Some v → IsNotStuck (acting (Load i)) → (d : DevicesState) → IsStep code (pushed v s) w (acting (Load i)) d d (Ok tt)
    load_step i v e = pushes s w v (acting (Load i)) (λ t. ap (λ o. push_reply (found o (store_of code w t)) (state_of code s w t)) e)

    pub load_room : (i : ℕ) (v : Word) → slice_get s.running.slots i ≡ Some v → IsNotStuck (acting (Load i)) → has_room (frame_of code s.running) ≡ true
    load_room i v e = room_to_push s w v (acting (Load i)) (λ t. ap (λ o. push_reply (found o (store_of code w t)) (state_of code s w t)) e)

    pub store_operand : (i : ℕ) → IsNotStuck (acting (StoreIn i)) → 0 < length s.running.operands
    store_operand i = operand_there s w (λ t v s. store_slot i v s)

    storing : (i : ℕ) → IsNotStuck (acting (StoreIn i)) → (t : Tapes) → acting (StoreIn i) t ≡ store_slot i top (state_of code rest w t)
    storing i h t = operand_popped s w (λ t v s. store_slot i v s) t (store_operand i h)

    pub store_slot_there : (i : ℕ) → IsNotStuck (acting (StoreIn i)) → i < length s.running.slots
    store_slot_there i h = lt_of (passed (nat_lt i (length s.running.slots)) _ (λ wrong. h.holds no_tapes (storing i h no_tapes ∙ wrong)))
      where
        lt_of : nat_lt i (length s.running.slots) ≡ true → i < length s.running.slots
        lt_of e = grind arith

    pub store_step : (i : ℕ) → IsNotStuck (acting (StoreIn i)) → (d : DevicesState) → IsStep code (stored_in i s) w (acting (StoreIn i)) d d (Ok tt)
    store_step i h d =
        goes_quietly code (stored_in i s) w (acting (StoreIn i)) d [] no_events
        (λ t. storing i h t ∙ either (nat_lt i (length s.running.slots)) (Go [] (state_of code (stored_in i s) w t)) (λ wrong. h.holds t (storing i h t ∙ wrong)))

    ------------------------------------------------------------
    -- Values of the current object

    abbrev this : Word
    this = first_of s.running.slots

    some_found : (o : Option Word) → IsNotStuck (λ t. push_reply (found o (store_of code w t)) (state_of code s w t)) → IsSome o
    some_found None h = absurd (h.holds no_tapes refl)
    some_found (Some v) h = refl

    getting : (i : ℕ) (t : Tapes) → acting (Get i) t ≡ push_reply (found (value_of w this i) (store_of code w t)) (state_of code s w t)
    getting i t = ap (λ o. push_reply (found o (store_of code w t)) (state_of code s w t)) (value_at_is w this i t)

    pub value_there : (i : ℕ) → IsNotStuck (acting (Get i)) → IsSome (value_of w this i)
    value_there i h = some_found (value_of w this i) (unstuck (acting (Get i)) _ (getting i) h)

    pub get_step : (i : ℕ) (v : Word) → value_of w this i ≡ Some v → IsNotStuck (acting (Get i)) → (d : DevicesState) → IsStep code (pushed v s) w (acting (Get i)) d d (Ok tt)
    get_step i v e = pushes s w v (acting (Get i)) (λ t. getting i t ∙ ap (λ o. push_reply (found o (store_of code w t)) (state_of code s w t)) e)

    pub get_room : (i : ℕ) (v : Word) → value_of w this i ≡ Some v → IsNotStuck (acting (Get i)) → has_room (frame_of code s.running) ≡ true
    get_room i v e = room_to_push s w v (acting (Get i)) (λ t. getting i t ∙ ap (λ o. push_reply (found o (store_of code w t)) (state_of code s w t)) e)

    ------------------------------------------------------------
    -- Jumps

    pub drop_operand : IsNotStuck (acting Drop) → 0 < length s.running.operands
    drop_operand = operand_there s w (λ t v s. Go [] s)

    pub drop_step : IsNotStuck (acting Drop) → (d : DevicesState) → IsStep code rest w (acting Drop) d d (Ok tt)
    drop_step h d = goes_quietly code rest w (acting Drop) d [] no_events (λ t. operand_popped s w (λ t v s. Go [] s) t (drop_operand h))

    pub jump_step : (to : ℕ) (d : DevicesState) → IsStep code (at_address to s) w (acting (Jump to)) d d (Ok tt)
    jump_step to d = goes_quietly code (at_address to s) w (acting (Jump to)) d [] no_events (λ t. refl)

    truth_found : (ops : List Word) (to : ℕ) → IsNotStuck (λ t. popped ops (state_of code s w t) (λ v s. on_truth v (Go [] s) (machine.jump to s))) → IsSome (truth_of (first_of ops))
    truth_found [] to h = absurd (h.holds no_tapes refl)
    truth_found (Truth b ∷ ops) to h = refl
    truth_found (Int n ∷ ops) to h = absurd (h.holds no_tapes refl)
    truth_found (Nothing ∷ ops) to h = absurd (h.holds no_tapes refl)
    truth_found (Text t ∷ ops) to h = absurd (h.holds no_tapes refl)
    truth_found (Object a ∷ ops) to h = absurd (h.holds no_tapes refl)
    truth_found (Grant g ∷ ops) to h = absurd (h.holds no_tapes refl)

    pub jump_operand : (to : ℕ) → IsNotStuck (acting (JumpFalse to)) → 0 < length s.running.operands
    jump_operand to = operand_there s w (λ t v s. on_truth v (Go [] s) (machine.jump to s))

    pub truth_there : (to : ℕ) → IsNotStuck (acting (JumpFalse to)) → IsSome (truth_of top)
    truth_there = truth_found s.running.operands

    jumps : (v : Word) (to : ℕ) → IsSome (truth_of v) → (t : Tapes) → on_truth v (Go [] (state_of code rest w t)) (machine.jump to (state_of code rest w t)) ≡ Go [] (state_of code (jumped_unless (truth_of v) to rest) w t)
    jumps (Truth true) to h t = refl
    jumps (Truth false) to h t = refl
    jumps (Int n) to h t = cc
    jumps Nothing to h t = cc
    jumps (Text n) to h t = cc
    jumps (Object a) to h t = cc
    jumps (Grant g) to h t = cc

    pub jump_false_step : (to : ℕ) → IsNotStuck (acting (JumpFalse to)) → (d : DevicesState) → IsStep code (jumped_unless (truth_of top) to rest) w (acting (JumpFalse to)) d d (Ok tt)
    jump_false_step to h d =
        goes_quietly code (jumped_unless (truth_of top) to rest) w (acting (JumpFalse to)) d [] no_events
        (λ t. operand_popped s w (λ t v s. on_truth v (Go [] s) (machine.jump to s)) t (jump_operand to h) ∙ jumps top to (truth_there to h) t)

    ------------------------------------------------------------
    -- Returning

    returning : (t : Tapes) → 0 < length s.running.operands → acting Return t ≡ return_to top (map (frame_of code) s.callers) (store_of code w t)
    returning t some = operand_popped s w (λ t v s. return_to v s.callers s.store) t some

    pub return_operand : IsNotStuck (acting Return) → 0 < length s.running.operands
    return_operand = operand_there s w (λ t v s. return_to v s.callers s.store)

    caller_in : (fs : List OpenBody) → IsNotStuck (λ t. return_to top (map (frame_of code) fs) (store_of code w t)) → 0 < length fs
    caller_in [] h = absurd (h.holds no_tapes refl)
    caller_in (f ∷ fs) h = omega arith

    pub caller_there : IsNotStuck (acting Return) → 0 < length s.callers
    caller_there h = caller_in s.callers (unstuck (acting Return) _ (λ t. returning t (return_operand h)) h)

    left_by : (fs : List OpenBody) (new : StackState) → left_to top s.limits fs ≡ Some new → (t : Tapes) → return_to top (map (frame_of code) fs) (store_of code w t) ≡ Go (Leave ∷ []) (state_of code new w t)
    left_by [] new e t = cc
    left_by (f ∷ fs) new e t = ap (λ (s : StackState). Go (Leave ∷ []) (state_of code s w t)) (same_Some _ _ e)

    leave_quiet : AreQuiet (Leave ∷ [])
    leave_quiet = record { none = λ kind. refl }

    pub return_step : (new : StackState) → left_to top s.limits s.callers ≡ Some new → IsNotStuck (acting Return) → (d : DevicesState) → IsStep code new w (acting Return) d d (Ok tt)
    return_step new e h d = goes_quietly code new w (acting Return) d (Leave ∷ []) leave_quiet (λ t. returning t (return_operand h) ∙ left_by s.callers new e t)

    ------------------------------------------------------------
    -- Writing a value of the current object

    setting : (i : ℕ) (t : Tapes) → 0 < length s.running.operands → acting (Set i) t ≡ stored (value_set this i top (store_of code w t)) (state_of code rest w t)
    setting i t some = operand_popped s w (λ t v s. stored (value_set (machine.this_of s.frame) i v s.store) s) t some

    pub set_operand : (i : ℕ) → IsNotStuck (acting (Set i)) → 0 < length s.running.operands
    set_operand i = operand_there s w (λ t v s. stored (value_set (machine.this_of s.frame) i v s.store) s)

    value_known : (o : Option Store) → IsNotStuck (λ t. stored o (state_of code rest w t)) → IsSome o
    value_known None h = absurd (h.holds no_tapes refl)
    value_known (Some v) h = refl

    written : (o : Option Thing) (a i : ℕ) (v : Word) (w' : StoreState) → IsSome (value_in o i) → Some w' ≡ object_set a i v w o → (t : Tapes) → stored (with_value a i v (store_of code w t) o) (state_of code rest w t) ≡ Go [] (state_of code rest w' t)
    written None a i v w' there e t = cc
    written (Some thing) a i v w' there e t =
        ap (λ b. stored (if b then Some (record (store_of code w t) { objects = slice_set w.objects a (record thing { values = slice_set thing.values i v }) }) else None) (state_of code rest w t)) (index_within thing.values i there)
        ∙ ap (λ (w : StoreState). Go [] (state_of code rest w t)) (sym (same_Some w' _ e))

    sets : (this v : Word) (i : ℕ) (w' : StoreState) → IsSome (value_of w this i) → Some w' ≡ value_written (object_of this) i v w → (t : Tapes) → stored (value_set this i v (store_of code w t)) (state_of code rest w t) ≡ Go [] (state_of code rest w' t)
    sets (Object a) v i w' there e t = written (slice_get w.objects a) a i v w' there e t
    sets (Int n) v i w' there e t = cc
    sets (Truth b) v i w' there e t = cc
    sets Nothing v i w' there e t = cc
    sets (Text n) v i w' there e t = cc
    sets (Grant g) v i w' there e t = cc

    known_in : (this v : Word) (i : ℕ) → IsNotStuck (λ t. stored (value_set this i v (store_of code w t)) (state_of code rest w t)) → IsSome (value_of w this i)
    known_in (Object a) v i h = of_thing (slice_get w.objects a) h
      where
        of_thing : (o : Option Thing) → IsNotStuck (λ t. stored (with_value a i v (store_of code w t) o) (state_of code rest w t)) → IsSome (value_in o i)
        of_thing None k = absurd (k.holds no_tapes refl)
        of_thing (Some thing) k = ⊎_elim
            (some_within thing.values i)
            (λ le. absurd (k.holds no_tapes (ap (λ b. stored (if b then Some (record (store_of code w no_tapes) { objects = slice_set w.objects a (record thing { values = slice_set thing.values i v }) }) else None) (state_of code rest w no_tapes)) (is_false i (length thing.values) le))))
            (cases_lt i (length thing.values))
    known_in (Int n) v i h = absurd (h.holds no_tapes refl)
    known_in (Truth b) v i h = absurd (h.holds no_tapes refl)
    known_in Nothing v i h = absurd (h.holds no_tapes refl)
    known_in (Text n) v i h = absurd (h.holds no_tapes refl)
    known_in (Grant g) v i h = absurd (h.holds no_tapes refl)

    pub set_value_there : (i : ℕ) → IsNotStuck (acting (Set i)) → IsSome (value_of w this i)
    set_value_there i h = known_in this top i (unstuck (acting (Set i)) _ (λ t. setting i t (set_operand i h)) h)

    pub set_step : (i : ℕ) (w' : StoreState) → Some w' ≡ value_written (object_of this) i top w → IsNotStuck (acting (Set i)) → (d : DevicesState) → IsStep code rest w' (acting (Set i)) d d (Ok tt)
    set_step i w' e h d = goes_quietly code rest w' (acting (Set i)) d [] no_events (λ t. setting i t (set_operand i h) ∙ sets this top i w' (set_value_there i h) e t)

-- a step of an instruction that is known
pub step_of : (code : Code) (depth : ℕ) (place : Place) (s s' : StackState) (w w' : StoreState) (i j : Instruction) (old new : DevicesState) (r : Result (Unit {0}) RunEnd) → i ≡ j →
    IsStep code s' w' (steps.acting code depth place s w j) old new r → IsStep code s' w' (steps.acting code depth place s w i) old new r
step_of code depth place s s' w w' i j old new r e h = subst (λ i. IsStep code s' w' (steps.acting code depth place s w i) old new r) (sym e) h
