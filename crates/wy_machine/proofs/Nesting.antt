-- Which calls are open after a step.
use Rattle.std.proofs.Common.{◌≡◌, ◌≤◌, ◌<◌, ℕ, ◌+◌, Bool, true, false, not, ◌&&◌, List, [], ◌∷◌, ◌++◌, length, map, Option, Some, None, refl, sym, ap, ◌∙◌, subst, nat_eq, nat_lt, arith}
use Rattle.std.specs.Prelude.{slice_get, if◌then◌else◌}
use Rattle.std.proofs.lemmas.List.{length-map}
use Rattle.wy_text.specs.declared.fault.Place.{Place}
use Rattle.wy_device.specs.declared.deed.Event.{Event}
use Rattle.wy_device.specs.declared.deed.Event.TheVariants as event
use Rattle.wy_device.specs.declared.operation.Answer.{Answer}
use Rattle.wy_device.specs.declared.operation.Answer.TheVariants as answer
use Rattle.wy_device.specs.declared.operation.Op.{Op}
use Rattle.wy_device.specs.Operators as meant
use Rattle.wy_device.specs.Requests.{operation_of, has_good_name, answers_text, Told, Answers, Fails, Waits, asked}
use Rattle.wy_device.specs.RunEnds as ends
use Rattle.wy_device.specs.Tapes.{Tapes}
use Rattle.wy_device.specs.Traps.{most_texts, most_objects, BadName, Crowded}
use Rattle.wy_meaning.specs.Bounds.{Call as OpenCall}
use Rattle.wy_meaning.specs.OpenCalls.{open_after}
use Rattle.wy_code.specs.declared.code.Body.{Body}
use Rattle.wy_code.specs.declared.code.Code.{Code}
use Rattle.wy_code.specs.declared.code.Grant.{Grant as CodeGrant}
use Rattle.wy_code.specs.declared.code.Instance.{Instance}
use Rattle.wy_code.specs.declared.code.Literal.{Literal}
use Rattle.wy_code.specs.declared.instruction.Instruction.{Instruction}
use Rattle.wy_code.specs.declared.instruction.Instruction.TheVariants.{Push, Load, Store as StoreIn, Get, Set, Drop, Op as Operate, Jump, JumpFalse, New, Call, Return, Finish}
use Rattle.wy_code.specs.declared.instruction.Operator.{Operator}
use Rattle.wy_code.specs.declared.instruction.Placed.{Placed}
use Rattle.wy_code.specs.Operations.{deed_event, answered, requested, requested_of, performed, operated, computed, operator_meant, operand_count, texts_named}
use Rattle.wy_code.specs.Stores as word
use Rattle.wy_code.specs.Stores.{Word, Int, Truth, Text, Object, Grant, Thing, Store, found, value_at, value_set, with_text, object_made, operand, replied, ended}
use Rattle.wy_code.specs.Machine as machine
use Rattle.wy_code.specs.Machine.{State, Frame, Next, Go, Halt, stuck, act, act_first, step, push, push_reply, popped, store_slot, stored, on_truth, on_taken, Taken, taken, short, take_operands, has_room, make_with, words_from, this_of, literal_of, literal_of_scope, scope_in, call_on, enter_method, enter_body, method_of_literal, return_to, begin_instance, begin_body, start_in, all_instances, name_in, with_operands, with_store}
use Rattle.wy_code.specs.Running.{store_at_first}
use Rattle.wy_machine.specs.Steps.{starting}

-- the call that a body of an instance is, where there is that instance
abbrev pub call_of : Option Instance → List ℕ → Option OpenCall
call_of None body = None
call_of (Some i) body = Some (record { instance = i.name; body = body })

-- the calls that are open behind some events, the latest first
abbrev pub opens_after : List (Option OpenCall) → List Event → List (Option OpenCall)
opens_after cs [] = cs
opens_after cs (event.Enter i b ∷ es) = opens_after (Some (record { instance = i; body = b }) ∷ cs) es
opens_after cs (event.Deed d ∷ es) = opens_after cs es
opens_after [] (event.Leave ∷ es) = opens_after [] es
opens_after (c ∷ cs) (event.Leave ∷ es) = opens_after cs es

pub opens_are : (cs : List OpenCall) (es : List Event) → opens_after (map Some cs) es ≡ map Some (open_after cs es)
opens_are cs [] = refl
opens_are cs (event.Enter i b ∷ es) = opens_are (record { instance = i; body = b } ∷ cs) es
opens_are cs (event.Deed d ∷ es) = opens_are cs es
opens_are [] (event.Leave ∷ es) = opens_are [] es
opens_are (c ∷ cs) (event.Leave ∷ es) = opens_are cs es

-- where a body is entered, at most n are open, and where one is left, it is
abbrev pub IsFew : {A : Type 0} → ℕ → List A → List Event → Type 0
IsFew n cs [] = Unit {0}
IsFew n cs (event.Enter i b ∷ es) = length cs ≤ n
IsFew n cs (event.Deed d ∷ es) = Unit {0}
IsFew n [] (event.Leave ∷ es) = ⊥
IsFew n (c ∷ cs) (event.Leave ∷ []) = Unit {0}
IsFew n (c ∷ cs) (event.Leave ∷ event.Enter i b ∷ es) = length cs ≤ n
IsFew n (c ∷ cs) (event.Leave ∷ event.Leave ∷ es) = Unit {0}
IsFew n (c ∷ cs) (event.Leave ∷ event.Deed d ∷ es) = Unit {0}

module _ (code : Code) where
  abbrev pub call_in : Frame → Option OpenCall
  call_in f = call_of (slice_get (all_instances code) f.instance) f.body.name

  abbrev pub calls : State → List (Option OpenCall)
  calls s = call_in s.frame ∷ map call_in s.callers

  -- where a step goes on, the calls that are open are those that its events leave open
  abbrev pub IsNested : ℕ → List (Option OpenCall) → Next → Type 0
  IsNested n cs (Go es s) = (calls s ≡ opens_after cs es) × IsFew n cs es
  IsNested n cs (Halt e es) = Unit {0}

  module _ (n : ℕ) where
    tested : (cs : List (Option OpenCall)) (b : Bool) (x y : Next) → IsNested n cs x → IsNested n cs y → IsNested n cs (if b then x else y)
    tested cs true x y h g = h
    tested cs false x y h g = g

    ------------------------------------------------------------
    -- Instructions that show nothing

    push_nests : (v : Word) (s : State) → IsNested n (calls s) (push v [] s)
    push_nests v s = tested (calls s) (has_room s.frame) _ _ (refl, tt) tt

    found_nests : (o : Option Word) (w : Store) (s : State) → IsNested n (calls s) (push_reply (found o w) s)
    found_nests None w s = tt
    found_nests (Some v) w s = push_nests v (with_store w s)

    slot_nests : (i : ℕ) (ops : List Word) (s : State) → IsNested n (calls s) (popped ops s (λ v s. store_slot i v s))
    slot_nests i [] s = tt
    slot_nests i (v ∷ vs) s = tested (calls s) (nat_lt i (length s.frame.slots)) _ _ (refl, tt) tt

    stored_nests : (o : Option Store) (s : State) → IsNested n (calls s) (stored o s)
    stored_nests None s = tt
    stored_nests (Some w) s = (refl, tt)

    set_nests : (i : ℕ) (ops : List Word) (s : State) → IsNested n (calls s) (popped ops s (λ v s. stored (value_set (this_of s.frame) i v s.store) s))
    set_nests i [] s = tt
    set_nests i (v ∷ vs) s = stored_nests (value_set (this_of s.frame) i v s.store) (with_operands vs s)

    drop_nests : (ops : List Word) (s : State) → IsNested n (calls s) (popped ops s (λ v s. Go [] s))
    drop_nests [] s = tt
    drop_nests (v ∷ vs) s = (refl, tt)

    truth_nests : (cs : List (Option OpenCall)) (v : Word) (a b : Next) → IsNested n cs a → IsNested n cs b → IsNested n cs (on_truth v a b)
    truth_nests cs (Truth true) a b h g = h
    truth_nests cs (Truth false) a b h g = g
    truth_nests cs (Int n) a b h g = tt
    truth_nests cs word.Nothing a b h g = tt
    truth_nests cs (Text n) a b h g = tt
    truth_nests cs (Object x) a b h g = tt
    truth_nests cs (Grant x) a b h g = tt

    jump_nests : (to : ℕ) (ops : List Word) (s : State) → IsNested n (calls s) (popped ops s (λ v s. on_truth v (Go [] s) (machine.jump to s)))
    jump_nests to [] s = tt
    jump_nests to (v ∷ vs) s = truth_nests (calls s) v _ _ (refl, tt) (refl, tt)

    computed_nests : (place : Place) (w : Store) (c : meant.Computed) (s : State) → IsNested n (calls s) (push_reply (computed place w c) s)
    computed_nests place w (meant.GivesNumber n) s = push_nests (Int n) (with_store w s)
    computed_nests place w (meant.GivesTruth b) s = push_nests (Truth b) (with_store w s)
    computed_nests place w (meant.Builds bytes) s = of_room (nat_lt w.built most_texts)
      where
        of_room : (b : Bool) → IsNested n (calls s) (push_reply (if b then replied (Text (length w.texts)) (with_text bytes w) else ended (ends.Trap Crowded place)) s)
        of_room true = push_nests (Text (length w.texts)) (with_store (with_text bytes w) s)
        of_room false = tt
    computed_nests place w (meant.Traps kind) s = tt
    computed_nests place w meant.Misfits s = tt

    operator_nests : (place : Place) (o : Operator) (got : Taken) (s : State) → IsNested n (calls s) (on_taken got s (λ vs s. push_reply (operated place o vs s.store) s))
    operator_nests place o short s = tt
    operator_nests place o (taken vs ops) s = computed_nests place s.store (meant.operate (operator_meant o) (map (operand s.store) vs)) (with_operands ops s)

    made_nests : (place : Place) (thing : Thing) (s : State) → IsNested n (calls s) (push_reply (object_made place thing s.store) s)
    made_nests place thing s = of_room (nat_lt s.store.made most_objects)
      where
        with_thing : Store
        with_thing = record (s.store) { objects = s.store.objects ++ thing ∷ []; made = s.store.made + 1 }

        of_room : (b : Bool) → IsNested n (calls s) (push_reply (if b then replied (Object (length s.store.objects)) with_thing else ended (ends.Trap Crowded place)) s)
        of_room true = push_nests (Object (length s.store.objects)) (with_store with_thing s)
        of_room false = tt

    captured_nests : (place : Place) (l : ℕ) (fields : List Word) (s : State) (o : Option (List Word)) → IsNested n (calls s) (make_with place l fields s o)
    captured_nests place l fields s None = tt
    captured_nests place l fields s (Some captured) = made_nests place (record { instance = s.frame.instance; literal = l; values = captured ++ fields }) s

    fields_nest : (place : Place) (l : ℕ) (literal : Literal) (got : Taken) (s : State) → IsNested n (calls s) (on_taken got s (λ fields s. make_with place l fields s (words_from s.frame s.store literal.captures)))
    fields_nest place l literal short s = tt
    fields_nest place l literal (taken vs ops) s = captured_nests place l vs (with_operands ops s) (words_from (with_operands ops s).frame s.store literal.captures)

    make_nests : (place : Place) (l : ℕ) (s : State) (o : Option Literal) → IsNested n (calls s) (machine.make place l s o)
    make_nests place l s None = tt
    make_nests place l s (Some literal) = fields_nest place l literal (take_operands literal.fields s.frame.operands []) s

    ------------------------------------------------------------
    -- Calls

    -- a call on an object of an instance that is there
    entered_nests : (a x : ℕ) (vs : List Word) (s : State) (i : Instance) → slice_get (all_instances code) x ≡ Some i → length s.callers < n → (b : Option Body) → IsNested n (calls s) (enter_body code a x vs s b)
    entered_nests a x vs s i e few None = tt
    entered_nests a x vs s i e few (Some b) =
        let less : length (calls s) ≤ n = omega (arith, few, length-map s.callers call_in) in
        tested (calls s) (nat_eq (length vs) b.parameters) _ _
        (ap (λ (o : Option Instance). call_of o b.name ∷ calls s) e ∙ ap (λ (o : Option Instance). (let c : OpenCall = record { instance = name_in o; body = b.name } in Some c) ∷ calls s) (sym e), less) tt

    method_nests : (a m : ℕ) (vs : List Word) (s : State) → length s.callers < n → (o : Option Thing) → IsNested n (calls s) (enter_method code a m vs s o)
    method_nests a m vs s few None = tt
    method_nests a m vs s few (Some thing) = of (slice_get (all_instances code) thing.instance) refl
      where
        of : (o : Option Instance) → slice_get (all_instances code) thing.instance ≡ o → IsNested n (calls s) (enter_body code a thing.instance vs s (method_of_literal code (literal_of code thing.instance thing.literal) m))
        of None e = subst (λ o. IsNested n (calls s) (enter_body code a thing.instance vs s (method_of_literal code (literal_of_scope (scope_in code o) thing.literal) m))) (sym e) tt
        of (Some i) e = entered_nests a thing.instance vs s i e few (method_of_literal code (literal_of code thing.instance thing.literal) m)

    module _ (grant : List ℕ) (op : Op) where
      deed_nests : (v : Word) (a : Option Answer) (w : Store) (s : State) → IsNested n (calls s) (push v (deed_event grant op a) (with_store w s))
      deed_nests v a w s = tested (calls s) (has_room s.frame) _ _ (refl, tt) tt

      answered_nests : (told : Told) (w : Store) (s : State) → IsNested n (calls s) (push_reply (answered grant op w told) s)
      answered_nests (Answers (answer.Bytes bytes) tapes) w s = deed_nests (Text (length w.texts)) (Some (answer.Bytes bytes)) (with_text bytes (record w { tapes = tapes })) s
      answered_nests (Answers (answer.Truth b) tapes) w s = deed_nests (Truth b) (Some (answer.Truth b)) (record w { tapes = tapes }) s
      answered_nests (Answers (answer.Number n) tapes) w s = deed_nests (Int n) (Some (answer.Number n)) (record w { tapes = tapes }) s
      answered_nests (Answers answer.Unit tapes) w s = deed_nests word.Nothing (Some answer.Unit) (record w { tapes = tapes }) s
      answered_nests (Fails tapes) w s = tt
      answered_nests Waits w s = tt

      asked_nests : (place : Place) (w : Store) (s : State) → IsNested n (calls s) (push_reply (requested place grant w (Some op)) s)
      asked_nests place w s = of_tests (has_good_name op) (answers_text op && not (nat_lt w.built most_texts))
        where
          of_tests : (good full : Bool) → IsNested n (calls s) (push_reply (if not good then ended (ends.Trap BadName place) else if full then ended (ends.Trap Crowded place) else answered grant op w (asked op w.tapes)) s)
          of_tests false full = tt
          of_tests true true = tt
          of_tests true false = answered_nests (asked op w.tapes) w s

    request_nests : (place : Place) (grant : List ℕ) (o : Option Op) (w : Store) (s : State) → IsNested n (calls s) (push_reply (requested place grant w o) s)
    request_nests place grant None w s = tt
    request_nests place grant (Some op) w s = asked_nests grant op place w s

    requested_nests : (place : Place) (g : CodeGrant) (method : Option (List ℕ)) (texts : Option (List (List ℕ))) (w : Store) (s : State) → IsNested n (calls s) (push_reply (requested_of place g w method texts) s)
    requested_nests place g None texts w s = tt
    requested_nests place g (Some method) None w s = tt
    requested_nests place g (Some method) (Some texts) w s = request_nests place g.name (operation_of g.primitive method texts) w s

    performed_nests : (place : Place) (g : Option CodeGrant) (method : Option (List ℕ)) (vs : List Word) (s : State) → IsNested n (calls s) (push_reply (performed place g method vs s.store) s)
    performed_nests place None method vs s = tt
    performed_nests place (Some g) method vs s = requested_nests place g method (texts_named s.store vs) s.store s

    module _ (place : Place) (m : ℕ) where
      called_nests : (vs : List Word) (v : Word) (s : State) → IsNested n (calls s) (call_on code n place m vs v s)
      called_nests vs (Object a) s = of_test (nat_lt (length s.callers) n) refl
        where
          less : (p q : ℕ) → nat_lt p q ≡ true → p < q
          less p q e = grind arith

          of_test : (b : Bool) → nat_lt (length s.callers) n ≡ b → IsNested n (calls s) (if b then enter_method code a m vs s (slice_get s.store.objects a) else Halt ends.TooDeep [])
          of_test true e = method_nests a m vs s (less _ _ e) (slice_get s.store.objects a)
          of_test false e = tt
      called_nests vs (Grant g) s = performed_nests place (slice_get code.grants g) (slice_get code.methods m) vs s
      called_nests vs (Int n) s = tt
      called_nests vs (Truth b) s = tt
      called_nests vs word.Nothing s = tt
      called_nests vs (Text n) s = tt

      receiver_nests : (ops vs : List Word) (s : State) → IsNested n (calls s) (popped ops s (λ v s. call_on code n place m vs v s))
      receiver_nests [] vs s = tt
      receiver_nests (v ∷ ops) vs s = called_nests vs v (with_operands ops s)

      call_nests : (got : Taken) (s : State) → IsNested n (calls s) (on_taken got s (λ vs s. machine.pop s (λ v s. call_on code n place m vs v s)))
      call_nests short s = tt
      call_nests (taken vs ops) s = receiver_nests ops vs (with_operands ops s)

    returned_nests : (s : State) (v : Word) (fs : List Frame) → s.callers ≡ fs → (w : Store) → IsNested n (calls s) (return_to v fs w)
    returned_nests s v [] e w = tt
    returned_nests s v (f ∷ fs) e w = (sym (ap (λ (fs : List Frame). map call_in fs) e), tt)

    returning_nests : (ops : List Word) (s : State) → IsNested n (calls s) (popped ops s (λ v s. return_to v s.callers s.store))
    returning_nests [] s = tt
    returning_nests (v ∷ vs) s = returned_nests s v s.callers refl s.store

    ------------------------------------------------------------
    -- Starting

    -- a body that starts is the only one that is open
    begun_nests : (cs : List (Option OpenCall)) (es : List Event) → ((i b : List ℕ) → opens_after cs (es ++ event.Enter i b ∷ []) ≡ Some (record { instance = i; body = b }) ∷ []) → ((i b : List ℕ) → IsFew n cs (es ++ event.Enter i b ∷ [])) → (b : Option Body) (x : ℕ) (i : Instance) →
        slice_get (all_instances code) x ≡ Some i → (w : Store) → IsNested n cs (begin_body code x i.name es w b)
    begun_nests cs es one few None x i e w = tt
    begun_nests cs es one few (Some b) x i e w = (ap (λ (o : Option Instance). call_of o b.name ∷ []) e ∙ sym (one i.name b.name), few i.name b.name)

    begins_nested : (cs : List (Option OpenCall)) (es : List Event) → ((i b : List ℕ) → opens_after cs (es ++ event.Enter i b ∷ []) ≡ Some (record { instance = i; body = b }) ∷ []) → ((i b : List ℕ) → IsFew n cs (es ++ event.Enter i b ∷ [])) → (o : Option Instance) (x : ℕ) →
        slice_get (all_instances code) x ≡ o → (w : Store) → IsNested n cs (begin_instance code x es w o)
    begins_nested cs es one few None x e w = tt
    begins_nested cs es one few (Some i) x e w = begun_nests cs es one few (start_in code (slice_get code.scopes i.scope)) x i e w

    pub start_nests : (t : Tapes) → IsNested n [] (starting code t)
    start_nests t = let none : 0 ≤ n = omega arith in begins_nested [] [] (λ i b. refl) (λ i b. none) (slice_get (all_instances code) 0) 0 refl (store_at_first code t)

    finished_nests : (s : State) (fs : List Frame) → s.callers ≡ fs → IsNested n (calls s) (machine.finish code fs s.store)
    finished_nests s [] e =
        begins_nested (calls s) (event.Leave ∷ []) (λ i b. ap (λ (fs : List Frame). Some (record { instance = i; body = b }) ∷ map call_in fs) e) (λ i b. let none : length (map call_in s.callers) ≤ n = subst (λ (fs : List Frame). length (map call_in fs) ≤ n) (sym e) (omega arith) in none) (slice_get (all_instances code) s.store.next) s.store.next refl s.store
    finished_nests s (f ∷ fs) e = tt

    ------------------------------------------------------------
    -- Steps

    acts_nested : (place : Place) (i : Instruction) (s : State) → IsNested n (calls s) (act code n place i s)
    acts_nested place (Push c) s = push_nests (machine.word_of c) s
    acts_nested place (Load i) s = found_nests (slice_get s.frame.slots i) s.store s
    acts_nested place (StoreIn i) s = slot_nests i s.frame.operands s
    acts_nested place (Get i) s = found_nests (value_at s.store (this_of s.frame) i) s.store s
    acts_nested place (Set i) s = set_nests i s.frame.operands s
    acts_nested place Drop s = drop_nests s.frame.operands s
    acts_nested place (Operate o) s = operator_nests place o (take_operands (operand_count o) s.frame.operands []) s
    acts_nested place (Jump to) s = (refl, tt)
    acts_nested place (JumpFalse to) s = jump_nests to s.frame.operands s
    acts_nested place (New l) s = make_nests place l s (literal_of code s.frame.instance l)
    acts_nested place (Call m k) s = call_nests place m (take_operands k s.frame.operands []) s
    acts_nested place Return s = returning_nests s.frame.operands s
    acts_nested place Finish s = finished_nests s s.callers refl

    next_nests : (is : List Placed) (s : State) → IsNested n (calls s) (act_first code n is s)
    next_nests [] s = tt
    next_nests (i ∷ is) s = acts_nested i.place i.instruction (record s { frame = record (s.frame) { rest = is } })

    pub step_nests : (s : State) → IsNested n (calls s) (step code n s)
    unfolding step
    step_nests s = next_nests s.frame.rest s
