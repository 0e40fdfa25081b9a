-- What a call does.
use Rattle.std.proofs.Common.{◌≡◌, ◌≢◌, ℕ, ◌+◌, ◌<◌, ◌≤◌, List, [], ◌∷◌, ◌++◌, length, take, drop, reverse, replicate, map, Option, Some, None, Ok, Err, refl, sym, ap, ap₂, ◌∙◌, nat_eq, true, arith}
use Rattle.std.specs.Prelude.{slice_get, if◌then◌else◌}
use Rattle.std.proofs.lemmas.List.{drop_more, take_more, reverse-append, length-drop, length-map, length-reverse, length-take}
use Rattle.std.proofs.lemmas.Option.{slice_get_within, get_or_from_slice_get}
use Rattle.wy_text.specs.declared.fault.Place.{Place}
use Rattle.wy_device.specs.declared.deed.Event.{Event}
use Rattle.wy_device.specs.declared.deed.Event.TheVariants.{Enter}
use Rattle.wy_device.specs.Devices.{DevicesState}
use Rattle.wy_device.specs.RunEnds as ends
use Rattle.wy_device.specs.Tapes.{Tapes}
use Rattle.wy_code.specs.declared.code.Body.{Body}
use Rattle.wy_code.specs.declared.code.Code.{Code}
use Rattle.wy_code.specs.declared.code.Literal.{Literal}
use Rattle.wy_code.specs.declared.instruction.Instruction.TheVariants.{Call}
use Rattle.wy_code.specs.Stores.{Word, Int, Truth, Nothing, Text, Object, Grant, Thing}
use Rattle.wy_code.specs.Machine as machine
use Rattle.wy_code.specs.Machine.{State, Next, Go, Halt, stuck, popped, call_on, enter_body, enter_method, method_of_literal, body_numbered, literal_of, name_in, all_instances, first_of}
use Rattle.wy_machine.specs.declared.run_end.RunEnd.TheVariants.{TooDeep}
use Rattle.wy_machine.specs.Calls.{number_called}
use Rattle.wy_machine.specs.Stacks.{with_operands, entered}
use Rattle.wy_machine.specs.OpenBodies.{StackState}
use Rattle.wy_machine.specs.States.{body_or_none, frame_of, store_of, state_of}
use Rattle.wy_machine.specs.Steps.{acting, AreQuiet, IsNotStuck, IsStep}
use Rattle.wy_machine.specs.StoreState.{StoreState}
use Rattle.wy_machine.proofs.Acts.{no_tapes, either, passed, operands_there, operands_taken, operand_there}
use Rattle.wy_machine.proofs.OperatorSteps.{below, not_below}
use Rattle.wy_machine.proofs.Quiet.{goes_quietly, is_too_deep, unstuck}

are_same : (m n : ℕ) → nat_eq m n ≡ true → m ≡ n
are_same m n e = grind arith

number_is : (code : Code) (l : Option Literal) (m : ℕ) → method_of_literal code l m ≡ body_numbered code (number_called l m)
number_is code None m = refl
number_is code (Some l) m = refl

module _ (code : Code) (depth : ℕ) (place : Place) (s : StackState) (w : StoreState) (m k : ℕ) where
  abbrev pub calling : Tapes → Next
  calling = acting code depth place s w (Call m k)

  abbrev ops : List Word
  ops = s.running.operands

  abbrev pub called_from : StackState
  called_from = with_operands (drop (k + 1) ops) s

  called : Tapes → List Word → State → Next
  called t vs s = machine.pop s (λ v s. call_on code depth place m vs v s)

  pub arguments_there : IsNotStuck calling → k ≤ length ops
  unfolding called
  arguments_there = operands_there code s w k calling called (λ t. refl)

  popping : k ≤ length ops → (t : Tapes) → calling t ≡ popped (drop k ops) (state_of code (with_operands (drop k ops) s) w t) (λ v s. call_on code depth place m (reverse (take k ops)) v s)
  unfolding called
  popping le t = operands_taken code s w k t (called t) le

  pub receiver_there : IsNotStuck calling → k < length ops
  receiver_there h =
      let le = arguments_there h in
      let some : 0 < length (drop k ops) = operand_there code (with_operands (drop k ops) s) w (λ t v s. call_on code depth place m (reverse (take k ops)) v s) (unstuck calling _ (popping le) h) in
      omega (arith, length-drop k ops)

  -- a call on the word below the arguments
  pub calls : (v : Word) → slice_get ops k ≡ Some v → (t : Tapes) → calling t ≡ call_on code depth place m (reverse (take k ops)) v (state_of code called_from w t)
  calls v e t =
      let lt : k < length ops = slice_get_within ops k v e in
      let le : k ≤ length ops = omega arith in
      let parts : drop k ops ≡ v ∷ drop (k + 1) ops = drop_more ops k v lt ∙ ap (λ x. x ∷ drop (k + 1) ops) (get_or_from_slice_get ops k v v e) in
      popping le t ∙ ap (λ l. popped l (state_of code (with_operands l s) w t) (λ v s. call_on code depth place m (reverse (take k ops)) v s)) parts

  first_slots : (v : Word) → slice_get ops k ≡ Some v → reverse (take (k + 1) ops) ≡ v ∷ reverse (take k ops)
  first_slots v e =
      let lt : k < length ops = slice_get_within ops k v e in
      ap reverse (take_more ops k v lt ∙ ap (λ x. take k ops ++ x ∷ []) (get_or_from_slice_get ops k v v e)) ∙ reverse-append (take k ops) (v ∷ [])

  waiting : length (map (frame_of code) s.callers) ≡ length s.callers
  waiting = length-map s.callers (frame_of code)

  -- neither an object nor a grant
  abbrev pub IsUncalled : Word → Type 0
  IsUncalled (Int n) = Unit {0}
  IsUncalled (Truth b) = Unit {0}
  IsUncalled Nothing = Unit {0}
  IsUncalled (Text n) = Unit {0}
  IsUncalled (Object a) = ⊥
  IsUncalled (Grant g) = ⊥

  pub uncalled : (v : Word) → IsUncalled v → (vs : List Word) (st : State) → call_on code depth place m vs v st ≡ stuck
  uncalled (Int n) u vs st = refl
  uncalled (Truth b) u vs st = refl
  uncalled Nothing u vs st = refl
  uncalled (Text n) u vs st = refl
  uncalled (Object a) u vs st = absurd u
  uncalled (Grant g) u vs st = absurd u

  pub not_called : (v : Word) → IsUncalled v → slice_get ops k ≡ Some v → IsNotStuck calling → ⊥
  not_called v u e h = h.holds no_tapes (calls v e no_tapes ∙ uncalled v u _ _)

  module _ (a : ℕ) (receiver : slice_get ops k ≡ Some (Object a)) where
    pub too_deep_step : depth ≤ length s.callers → (s' : StackState) (w' : StoreState) (d : DevicesState) → IsStep code s' w' calling d d (Err TooDeep)
    too_deep_step many s' w' d =
        let le : depth ≤ length (map (frame_of code) s.callers) = omega (arith, waiting) in
        is_too_deep code s' w' calling d
        (λ t. calls (Object a) receiver t
        ∙ ap (λ b. if b then enter_method code a m (reverse (take k ops)) (state_of code called_from w t) (slice_get w.objects a) else Halt ends.TooDeep []) (not_below (length (map (frame_of code) s.callers)) depth le))

    module _ (few : length s.callers < depth) where
      enters : (t : Tapes) → calling t ≡ enter_method code a m (reverse (take k ops)) (state_of code called_from w t) (slice_get w.objects a)
      enters t =
          let lt : length (map (frame_of code) s.callers) < depth = omega (arith, waiting) in
          calls (Object a) receiver t
          ∙ ap (λ b. if b then enter_method code a m (reverse (take k ops)) (state_of code called_from w t) (slice_get w.objects a) else Halt ends.TooDeep []) (below (length (map (frame_of code) s.callers)) depth lt)

      pub thing_there : IsNotStuck calling → slice_get w.objects a ≢ None
      thing_there h e = h.holds no_tapes (enters no_tapes ∙ ap (enter_method code a m (reverse (take k ops)) (state_of code called_from w no_tapes)) e)

      module _ (thing : Thing) (here : slice_get w.objects a ≡ Some thing) where
        bodies : (t : Tapes) → calling t ≡ enter_body code a thing.instance (reverse (take k ops)) (state_of code called_from w t) (body_numbered code (number_called (literal_of code thing.instance thing.literal) m))
        bodies t =
            enters t
            ∙ ap (enter_method code a m (reverse (take k ops)) (state_of code called_from w t)) here
            ∙ ap (enter_body code a thing.instance (reverse (take k ops)) (state_of code called_from w t)) (number_is code (literal_of code thing.instance thing.literal) m)

        pub method_there : IsNotStuck calling → number_called (literal_of code thing.instance thing.literal) m ≢ None
        method_there h e = h.holds no_tapes (bodies no_tapes ∙ ap (λ b. enter_body code a thing.instance (reverse (take k ops)) (state_of code called_from w no_tapes) (body_numbered code b)) e)

        module _ (b : ℕ) (numbered : number_called (literal_of code thing.instance thing.literal) m ≡ Some b) where
          pub body_there : IsNotStuck calling → slice_get code.bodies b ≢ None
          body_there h e =
              h.holds no_tapes
              (bodies no_tapes
              ∙ ap (λ b. enter_body code a thing.instance (reverse (take k ops)) (state_of code called_from w no_tapes) (body_numbered code b)) numbered
              ∙ ap (enter_body code a thing.instance (reverse (take k ops)) (state_of code called_from w no_tapes)) e)

          at_body : (body : Body) → slice_get code.bodies b ≡ Some body → (t : Tapes) → calling t ≡ enter_body code a thing.instance (reverse (take k ops)) (state_of code called_from w t) (Some body)
          at_body body e t =
              bodies t
              ∙ ap (λ b. enter_body code a thing.instance (reverse (take k ops)) (state_of code called_from w t) (body_numbered code b)) numbered
              ∙ ap (enter_body code a thing.instance (reverse (take k ops)) (state_of code called_from w t)) e

          -- the method has as many parameters as there are arguments
          pub as_many : (body : Body) → slice_get code.bodies b ≡ Some body → IsNotStuck calling → k ≡ body.parameters
          as_many body e h =
              let few = arguments_there h in
              let size : length (reverse (take k ops)) ≡ k = omega (arith, few, length-reverse (take k ops), length-take k ops) in
              sym size ∙ are_same _ _ (passed (nat_eq (length (reverse (take k ops))) body.parameters) _ (λ wrong. h.holds no_tapes (at_body body e no_tapes ∙ wrong)))

          abbrev event : Body → Event
          event body = Enter (name_in (slice_get (all_instances code) thing.instance)) body.name

          entering : (body : Body) → slice_get code.bodies b ≡ Some body → (t : Tapes) →
              Go (event body ∷ []) (record { frame = machine.frame_at_first thing.instance (Object a) (reverse (take k ops)) body; callers = frame_of code called_from.running ∷ map (frame_of code) s.callers; store = store_of code w t })
              ≡ Go (event body ∷ []) (state_of code (entered thing.instance b k body.vals s) w t)
          entering body e t =
              ap₂ (λ x slots. Go (event body ∷ []) (record {
                frame = record { instance = thing.instance; body = x; rest = x.instructions; slots = slots ++ replicate body.vals Nothing; operands = [] };
                callers = frame_of code called_from.running ∷ map (frame_of code) s.callers;
                store = store_of code w t;
              })) (sym (ap body_or_none e)) (sym (first_slots (Object a) receiver))

          entered_quiet : (body : Body) → AreQuiet (event body ∷ [])
          entered_quiet body = record { none = λ kind. refl }

          pub enter_step : (body : Body) → slice_get code.bodies b ≡ Some body → IsNotStuck calling → (d : DevicesState) → IsStep code (entered thing.instance b k body.vals s) w calling d d (Ok tt)
          enter_step body e h d =
              goes_quietly code (entered thing.instance b k body.vals s) w calling d (event body ∷ []) (entered_quiet body)
              (λ t. at_body body e t ∙ either (nat_eq (length (reverse (take k ops))) body.parameters) _ (λ wrong. h.holds t (at_body body e t ∙ wrong)) ∙ entering body e t)
