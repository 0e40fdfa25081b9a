-- What `New` does.
use Rattle.std.proofs.Common.{◌≡◌, ◌≢◌, ℕ, true, ◌+◌, ◌<◌, ◌≤◌, List, [], ◌∷◌, ◌++◌, length, take, drop, reverse, Option, Some, None, Ok, Err, refl, ap, ap₂, ◌∙◌, nat_lt, append_assoc}
use Rattle.std.specs.Prelude.{slice_get, if◌then◌else◌, IsSome}
use Rattle.wy_text.specs.declared.fault.Place.{Place}
use Rattle.wy_device.specs.Devices.{DevicesState}
use Rattle.wy_device.specs.RunEnds as ends
use Rattle.wy_device.specs.Tapes.{Tapes}
use Rattle.wy_device.specs.Traps.{most_objects, Crowded as TrapCrowded}
use Rattle.wy_code.specs.declared.code.Code.{Code}
use Rattle.wy_code.specs.declared.code.Literal.{Literal}
use Rattle.wy_code.specs.declared.code.Source.{Source}
use Rattle.wy_code.specs.declared.code.Source.TheVariants.{Slot, Value}
use Rattle.wy_code.specs.declared.instruction.Instruction.TheVariants.{New}
use Rattle.wy_code.specs.Stores.{Word, Object, Thing, object_made, replied, ended}
use Rattle.wy_code.specs.Machine as machine
use Rattle.wy_code.specs.Machine.{State, Next, Go, stuck, has_room, push_reply, literal_of, words_from, with_word, make_with, first_of}
use Rattle.wy_machine.specs.declared.run_end.RunEnd.TheVariants.{Trap}
use Rattle.wy_machine.specs.declared.run_end.TrapKind.TheVariants.{Crowded}
use Rattle.wy_machine.specs.Captures.{word_found, words_found, after_words, with_fields, values_found}
use Rattle.wy_machine.specs.Stacks.{pushed, with_operands}
use Rattle.wy_machine.specs.OpenBodies.{StackState}
use Rattle.wy_machine.specs.States.{frame_of, store_of, state_of}
use Rattle.wy_machine.specs.Steps.{acting, IsNotStuck, IsStep}
use Rattle.wy_machine.specs.StoreStates.{with_object}
use Rattle.wy_machine.specs.StoreState.{StoreState}
use Rattle.wy_machine.proofs.Acts.{no_tapes, operands_there, operands_taken, pushes, room_to_push, value_at_is}
use Rattle.wy_machine.proofs.OperatorSteps.{below, not_below}
use Rattle.wy_machine.proofs.Quiet.{traps}

------------------------------------------------------------
-- What is captured

-- one more word
pub more_words : (vs : List Word) (v : Word) (r : Option (List Word)) → after_words (vs ++ v ∷ []) r ≡ after_words vs (with_word (Some v) r)
more_words vs v None = refl
more_words vs v (Some ws) = ap Some (append_assoc vs (v ∷ []) ws)

word_is : (code : Code) (s : StackState) (w : StoreState) (t : Tapes) (x : Source) → machine.word_from (frame_of code s.running) (store_of code w t) x ≡ word_found s w x
word_is code s w t (Slot i) = refl
word_is code s w t (Value i) = value_at_is code w (first_of s.running.slots) i t

pub words_are : (code : Code) (s : StackState) (w : StoreState) (t : Tapes) (xs : List Source) → words_from (frame_of code s.running) (store_of code w t) xs ≡ words_found s w xs
words_are code s w t [] = refl
words_are code s w t (x ∷ xs) = ap₂ with_word (word_is code s w t x) (words_are code s w t xs)

------------------------------------------------------------
-- The object

module _ (code : Code) (place : Place) (s : StackState) (w : StoreState) (l : ℕ) where
  abbrev pub making : Tapes → Next
  making = acting code 0 place s w (New l)

  pub literal_there : IsNotStuck making → literal_of code s.running.instance l ≢ None
  literal_there h e = h.holds no_tapes (ap (λ o. machine.make place l (state_of code s w no_tapes) o) e)

  module _ (kind : Literal) (here : literal_of code s.running.instance l ≡ Some kind) where
    abbrev ops : List Word
    ops = s.running.operands

    abbrev pub after : StackState
    after = with_operands (drop kind.fields ops) s

    making_one : Tapes → List Word → State → Next
    making_one t fields s = make_with place l fields s (words_from s.frame s.store kind.captures)

    begins : (t : Tapes) → making t ≡ machine.make place l (state_of code s w t) (Some kind)
    begins t = ap (λ o. machine.make place l (state_of code s w t) o) here

    pub fields_there : IsNotStuck making → kind.fields ≤ length ops
    unfolding making_one
    fields_there = operands_there code s w kind.fields making making_one begins

    takes : kind.fields ≤ length ops → (t : Tapes) → making t ≡ make_with place l (reverse (take kind.fields ops)) (state_of code after w t) (words_found s w kind.captures)
    unfolding making_one
    takes le t =
        begins t ∙ operands_taken code s w kind.fields t (making_one t) le
        ∙ ap (make_with place l (reverse (take kind.fields ops)) (state_of code after w t)) (words_are code after w t kind.captures ∙ same kind.captures)
      where
        same : (xs : List Source) → words_found after w xs ≡ words_found s w xs
        same [] = refl
        same (Slot i ∷ xs) = ap (with_word (slice_get s.running.slots i)) (same xs)
        same (Value i ∷ xs) = ap (with_word (word_found s w (Value i))) (same xs)

    captures_in : (o : Option (List Word)) → IsNotStuck (λ t. make_with place l (reverse (take kind.fields ops)) (state_of code after w t) o) → IsSome o
    captures_in None h = absurd (h.holds no_tapes refl)
    captures_in (Some vs) h = refl

    pub captures_there : IsNotStuck making → IsSome (words_found s w kind.captures)
    captures_there h = captures_in (words_found s w kind.captures) (record { holds = λ t wrong. h.holds t (takes (fields_there h) t ∙ wrong) })

    made : StackState → Tapes → Option (List Word) → Next
    made s' t None = stuck
    made s' t (Some values) = push_reply (object_made place (record { instance = s.running.instance; literal = l; values = values }) (store_of code w t)) (state_of code s' w t)

    made_with : (fields : List Word) (t : Tapes) (o : Option (List Word)) → make_with place l fields (state_of code after w t) o ≡ made after t (with_fields fields o)
    unfolding made
    made_with fields t None = refl
    made_with fields t (Some vs) = refl

    module _ (h : IsNotStuck making) (values : List Word) (found : values_found s w kind ≡ Some values) where
      abbrev pub thing : Thing
      thing = record { instance = s.running.instance; literal = l; values = values }

      abbrev pub with_thing : StoreState
      with_thing = record (with_object thing w) { made = w.made + 1 }

      makes : (t : Tapes) → making t ≡ push_reply (if nat_lt w.made most_objects then replied (Object (length w.objects)) (store_of code with_thing t) else ended (ends.Trap TrapCrowded place)) (state_of code after w t)
      unfolding made
      makes t = takes (fields_there h) t ∙ made_with (reverse (take kind.fields ops)) t (words_found s w kind.captures) ∙ ap (made after t) found

      pub make_step : w.made < most_objects → (d : DevicesState) → IsStep code (pushed (Object (length w.objects)) after) with_thing making d d (Ok tt)
      make_step few d =
          pushes code after with_thing (Object (length w.objects)) making
          (λ t. makes t ∙ ap (λ b. push_reply (if b then replied (Object (length w.objects)) (store_of code with_thing t) else ended (ends.Trap TrapCrowded place)) (state_of code after w t)) (below w.made most_objects few))
          h d

      pub make_room : w.made < most_objects → has_room (frame_of code after.running) ≡ true
      make_room few =
          room_to_push code after with_thing (Object (length w.objects)) making
          (λ t. makes t ∙ ap (λ b. push_reply (if b then replied (Object (length w.objects)) (store_of code with_thing t) else ended (ends.Trap TrapCrowded place)) (state_of code after w t)) (below w.made most_objects few))
          h

      pub crowd_step : most_objects ≤ w.made → (s' : StackState) (w' : StoreState) (d : DevicesState) → IsStep code s' w' making d d (Err (Trap Crowded place))
      crowd_step many s' w' d =
          traps code s' w' making d Crowded place
          (λ t. makes t ∙ ap (λ b. push_reply (if b then replied (Object (length w.objects)) (store_of code with_thing t) else ended (ends.Trap TrapCrowded place)) (state_of code after w t)) (not_below w.made most_objects many))
