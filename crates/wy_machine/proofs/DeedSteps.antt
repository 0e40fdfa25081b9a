-- What an operation on a grant does.
use Rattle.std.proofs.Common.{◌≡◌, ◌≢◌, ◌⊎◌, inl, inr, ℕ, ◌≤◌, ◌<◌, Bool, true, false, not, ◌&&◌, List, [], ◌∷◌, ◌++◌, length, reverse, take, Option, Some, None, Ok, Err, refl, sym, ap, ap₂, ◌∙◌, subst, ◌-◌, nat_le, nat_lt, arith}
use Rattle.std.proofs.lemmas.List.{length_push, take_at}
use Rattle.std.proofs.lemmas.Option.{same_Some}
use Rattle.std.specs.Prelude.{slice_get, if◌then◌else◌}
use Rattle.wy_text.specs.declared.fault.Place.{Place}
use Rattle.wy_text.specs.Outside.{Rose}
use Rattle.wy_device.specs.declared.deed.Event.{Event}
use Rattle.wy_device.specs.declared.operation.Answer.{Answer}
use Rattle.wy_device.specs.declared.operation.Answer.TheVariants as answer
use Rattle.wy_device.specs.declared.operation.Op.{Op}
use Rattle.wy_device.specs.declared.operation.Op.TheVariants.{ConsoleRead, ConsoleWrite, FolderRead, FolderHas, FolderWrite, FolderAppend, FolderNames, ClockNow, RandomWord, FolderRemove}
use Rattle.wy_device.specs.declared.operation.OpName.{OpName}
use Rattle.wy_device.specs.declared.operation.OpName.TheVariants as name
use Rattle.wy_device.specs.Device.{IsAnswerNamed, IsAnswerOf, IsBytesUpTo, IsTruth, IsNumber}
use Rattle.wy_device.specs.Devices.{DevicesState, device_of}
use Rattle.wy_device.specs.Events.{DidExactly}
use Rattle.wy_device.specs.Operation.{name_of, kind_of}
use Rattle.wy_device.specs.Requests.{operation_called, has_good_name, answers_text, fits_within, is_text_up_to, is_truth, is_number, is_done, Told, Answers, Fails, Waits, asked}
use Rattle.wy_device.specs.Primitives.{operations_of}
use Rattle.wy_device.specs.RunEnds as ends
use Rattle.wy_device.specs.Tapes.{Tapes, spliced}
use Rattle.wy_device.specs.Traps as device
use Rattle.wy_device.specs.Traps.{text_limit, most_texts, BadName as TrapBadName, Crowded as TrapCrowded}
use Rattle.wy_code.specs.declared.code.Code.{Code}
use Rattle.wy_code.specs.declared.code.Grant.{Grant as CodeGrant}
use Rattle.wy_code.specs.Operations.{deed_event, word_answered, answered, requested, requested_of, texts_named, performed}
use Rattle.wy_code.specs.Stores.{Word, Text, Grant, Store, Reply, Replies, ended}
use Rattle.wy_code.specs.Machine.{State, Next, Go, Halt, stuck, with_operands, has_room, push_reply}
use Rattle.wy_machine.specs.declared.run_end.RunEnd.TheVariants.{DeviceFailed}
use Rattle.wy_machine.specs.declared.run_end.TrapKind.{TrapKind}
use Rattle.wy_machine.specs.Requesting.{is_answered_by_text, asked_for, operation_with, first_text, refused, word_answer, HasPlace, word_received, store_received}
use Rattle.wy_machine.specs.Runs.{tapes_of, AreSameDevices}
use Rattle.wy_machine.specs.Stacks.{pushed}
use Rattle.wy_machine.specs.OpenBodies.{StackState}
use Rattle.wy_machine.specs.States.{frame_of, store_of, state_of}
use Rattle.wy_machine.specs.Steps.{IsNotStuck, IsStep}
use Rattle.wy_machine.specs.StoreState.{StoreState}
use Rattle.wy_machine.specs.TrapKinds.{trap_meant}
use Rattle.wy_machine.proofs.Acts.{no_tapes, either}
use Rattle.wy_machine.proofs.CallSteps.{calling, called_from, calls}
use Rattle.wy_machine.proofs.OperatorSteps.{below, with_built, text_added}
use Rattle.wy_machine.proofs.Refusals.{asked_with, by_refusal, requested_by}

------------------------------------------------------------
-- Answers

up_to : (most : ℕ) (a : Answer) → IsBytesUpTo most a → is_text_up_to most a ≡ true
up_to most (answer.Bytes text) h = within (length text) most h
  where
    within : (m n : ℕ) → m ≤ n → nat_le m n ≡ true
    within m n h = grind arith
up_to most (answer.Truth b) h = absurd h
up_to most (answer.Number n) h = absurd h
up_to most answer.Unit h = absurd h

truth_fits : (a : Answer) → IsTruth a → is_truth a ≡ true
truth_fits (answer.Bytes text) h = absurd h
truth_fits (answer.Truth b) h = refl
truth_fits (answer.Number n) h = absurd h
truth_fits answer.Unit h = absurd h

number_fits : (a : Answer) → IsNumber a → is_number a ≡ true
number_fits (answer.Bytes text) h = absurd h
number_fits (answer.Truth b) h = absurd h
number_fits (answer.Number n) h = refl
number_fits answer.Unit h = absurd h

answer_fits : (o : OpName) (a : Answer) → IsAnswerNamed o a → fits_within text_limit o a ≡ true
answer_fits name.ConsoleRead a h = up_to 65536 a h
answer_fits name.ConsoleWrite a h = ap is_done h
answer_fits name.FolderRead a h = up_to text_limit a h
answer_fits name.FolderHas a h = truth_fits a h
answer_fits name.FolderWrite a h = ap is_done h
answer_fits name.FolderAppend a h = ap is_done h
answer_fits name.FolderNames a h = up_to text_limit a h
answer_fits name.ClockNow a h = number_fits a h
answer_fits name.RandomWord a h = number_fits a h
answer_fits name.FolderRemove a h = ap is_done h

-- the tape tells what the deed was answered
asked_is : (op : Op) (grant : List ℕ) (a : Answer) → IsAnswerOf op a → (more : Tapes) → asked op (spliced (tapes_of (deed_event grant op (Some a))) more) ≡ Answers a more
asked_is op grant a h more = of_op op (answer_fits (name_of op) a h)
  where
    of_op : (op : Op) → fits_within text_limit (name_of op) a ≡ true → asked op (spliced (tapes_of (deed_event grant op (Some a))) more) ≡ Answers a more
    of_op ConsoleRead e = ap (λ b. if b then Answers a more else Waits) e
    of_op (ConsoleWrite text) e = ap (λ b. if b then Answers a more else Waits) e
    of_op (FolderRead file) e = ap (λ b. if b then Answers a more else Waits) e
    of_op (FolderHas file) e = ap (λ b. if b then Answers a more else Waits) e
    of_op (FolderWrite file text) e = ap (λ b. if b then Answers a more else Waits) e
    of_op (FolderAppend file text) e = ap (λ b. if b then Answers a more else Waits) e
    of_op FolderNames e = ap (λ b. if b then Answers a more else Waits) e
    of_op ClockNow e = ap (λ b. if b then Answers a more else Waits) e
    of_op RandomWord e = ap (λ b. if b then Answers a more else Waits) e
    of_op (FolderRemove file) e = ap (λ b. if b then Answers a more else Waits) e

asked_fails : (op : Op) (grant : List ℕ) (more : Tapes) → asked op (spliced (tapes_of (deed_event grant op None)) more) ≡ Fails more
asked_fails ConsoleRead grant more = refl
asked_fails (ConsoleWrite text) grant more = refl
asked_fails (FolderRead file) grant more = refl
asked_fails (FolderHas file) grant more = refl
asked_fails (FolderWrite file text) grant more = refl
asked_fails (FolderAppend file text) grant more = refl
asked_fails FolderNames grant more = refl
asked_fails ClockNow grant more = refl
asked_fails RandomWord grant more = refl
asked_fails (FolderRemove file) grant more = refl

------------------------------------------------------------
-- Requests

-- an operation that was asked does not trap
pushed_goes : (v : Word) (es : List Event) (s : State) (room : Bool) (kind : device.TrapKind) (at : Place) → (if room then Go es (with_operands (v ∷ s.frame.operands) s) else stuck) ≢ Halt (ends.Trap kind at) []
pushed_goes v es s true kind at e = cc
pushed_goes v es s false kind at e = cc

answered_goes : (grant : List ℕ) (op : Op) (w : Store) (told : Told) (s : State) (kind : device.TrapKind) (at : Place) → push_reply (answered grant op w told) s ≢ Halt (ends.Trap kind at) []
answered_goes grant op w (Answers (answer.Bytes bytes) tapes) s kind at = pushed_goes _ _ _ (has_room s.frame) kind at
answered_goes grant op w (Answers (answer.Truth b) tapes) s kind at = pushed_goes _ _ _ (has_room s.frame) kind at
answered_goes grant op w (Answers (answer.Number n) tapes) s kind at = pushed_goes _ _ _ (has_room s.frame) kind at
answered_goes grant op w (Answers answer.Unit tapes) s kind at = pushed_goes _ _ _ (has_room s.frame) kind at
answered_goes grant op w (Fails tapes) s kind at = λ e. cc
answered_goes grant op w Waits s kind at = λ e. cc

requests : (place : Place) (g : CodeGrant) (w : Store) (method : List ℕ) (o : Option (List (List ℕ))) → requested_of place g w (Some method) o ≡ requested place g.name w (asked_for g.primitive method o)
requests place g w method None = refl
requests place g w method (Some texts) = refl

module _ (code : Code) (depth : ℕ) (place : Place) (s : StackState) (w : StoreState) (m k g : ℕ) (receiver : slice_get s.running.operands k ≡ Some (Grant g)) where
  abbrev next : Tapes → Next
  next = calling code depth place s w m k

  abbrev pub from : StackState
  from = called_from code depth place s w m k

  abbrev pub args : List Word
  args = reverse (take k s.running.operands)

  pub performs : (t : Tapes) → next t ≡ push_reply (performed place (slice_get code.grants g) (slice_get code.methods m) args (store_of code w t)) (state_of code from w t)
  performs t = calls code depth place s w m k (Grant g) receiver t

  pub grant_there : IsNotStuck next → slice_get code.grants g ≢ None
  grant_there h e = h.holds no_tapes (performs no_tapes ∙ ap (λ o. push_reply (performed place o (slice_get code.methods m) args (store_of code w no_tapes)) (state_of code from w no_tapes)) e)

  module _ (grant : CodeGrant) (granted : slice_get code.grants g ≡ Some grant) where
    pub grants : (t : Tapes) → next t ≡ push_reply (requested_of place grant (store_of code w t) (slice_get code.methods m) (texts_named (store_of code w t) args)) (state_of code from w t)
    grants t = performs t ∙ ap (λ o. push_reply (performed place o (slice_get code.methods m) args (store_of code w t)) (state_of code from w t)) granted

    pub method_named : IsNotStuck next → slice_get code.methods m ≢ None
    method_named h e = h.holds no_tapes (grants no_tapes ∙ ap (λ o. push_reply (requested_of place grant (store_of code w no_tapes) o (texts_named (store_of code w no_tapes) args)) (state_of code from w no_tapes)) e)

    module _ (method : List ℕ) (named : slice_get code.methods m ≡ Some method) where
      abbrev pub IsAskedFor : Option Op → Type 0
      IsAskedFor op = (t : Tapes) → op ≡ asked_for grant.primitive method (texts_named (store_of code w t) args)

      replies_at : (t : Tapes) → next t ≡ push_reply (requested place grant.name (store_of code w t) (asked_for grant.primitive method (texts_named (store_of code w t) args))) (state_of code from w t)
      replies_at t =
          grants t
          ∙ ap (λ o. push_reply (requested_of place grant (store_of code w t) o (texts_named (store_of code w t) args)) (state_of code from w t)) named
          ∙ ap (λ r. push_reply r (state_of code from w t)) (requests place grant (store_of code w t) method (texts_named (store_of code w t) args))

      pub replies : (op : Option Op) → IsAskedFor op → (t : Tapes) → next t ≡ push_reply (requested place grant.name (store_of code w t) op) (state_of code from w t)
      replies op e t = replies_at t ∙ ap (λ op. push_reply (requested place grant.name (store_of code w t) op) (state_of code from w t)) (sym (e t))

      pub operation_there : IsNotStuck next → IsAskedFor None → ⊥
      operation_there h e = h.holds no_tapes (replies None e no_tapes)

      -- an operation of this name
      module _ (o : OpName) (is_called : operation_called method (operations_of grant.primitive) ≡ Some o) where
        abbrev texts : Tapes → Option (List (List ℕ))
        texts t = texts_named (store_of code w t) args

        abbrev pub trap_before : Tapes → Option TrapKind
        trap_before t = refused o (first_text (store_of code w t) args) (length w.texts)

        pub asked_of : (op : Option Op) → ((t : Tapes) → op ≡ operation_with o (texts t)) → IsAskedFor op
        asked_of op e t = e t ∙ sym (asked_with grant.primitive method o is_called (texts t))

        pub no_such_texts : IsNotStuck next → ((t : Tapes) → None ≡ operation_with o (texts t)) → ⊥
        no_such_texts h e = operation_there h (asked_of None e)

        replies_with : (t : Tapes) → next t ≡ push_reply (requested place grant.name (store_of code w t) (operation_with o (texts t))) (state_of code from w t)
        replies_with t = replies_at t ∙ ap (λ op. push_reply (requested place grant.name (store_of code w t) op) (state_of code from w t)) (asked_with grant.primitive method o is_called (texts t))

        -- it traps where it is refused, or takes no such texts
        pub refusing : (t : Tapes) (kind : TrapKind) → trap_before t ≡ Some kind → (next t ≡ stuck) ⊎ (next t ≡ Halt (ends.Trap (trap_meant kind) place) [])
        refusing t kind e = of (operation_with o (texts t)) refl
          where
            of : (op : Option Op) → op ≡ operation_with o (texts t) → (next t ≡ stuck) ⊎ (next t ≡ Halt (ends.Trap (trap_meant kind) place) [])
            of None f = inl (replies_with t ∙ ap (λ op. push_reply (requested place grant.name (store_of code w t) op) (state_of code from w t)) (sym f))
            of (Some op) f =
                inr (replies_with t
                ∙ ap (λ op. push_reply (requested place grant.name (store_of code w t) op) (state_of code from w t)) (sym f)
                ∙ ap (λ r. push_reply r (state_of code from w t)) (requested_by place grant.name (store_of code w t) o args op f)
                ∙ ap (λ b. push_reply (by_refusal place (answered grant.name op (store_of code w t) (asked op t)) b) (state_of code from w t)) e)

        pub refused_at : IsNotStuck next → (kind : TrapKind) → ((t : Tapes) → trap_before t ≡ Some kind) → (t : Tapes) → next t ≡ Halt (ends.Trap (trap_meant kind) place) []
        refused_at h kind e t = elim (refusing t kind (e t)) [ inl wrong ↦ absurd (h.holds t wrong) | inr at ↦ at ]

        -- else it does not trap
        pub no_trap : ((t : Tapes) → trap_before t ≡ None) → IsNotStuck next → (t : Tapes) (kind : device.TrapKind) (at : Place) → next t ≢ Halt (ends.Trap kind at) []
        no_trap e h t kind at wrong = of (operation_with o (texts t)) refl
          where
            of : (op : Option Op) → op ≡ operation_with o (texts t) → ⊥
            of None f = h.holds t (replies_with t ∙ ap (λ op. push_reply (requested place grant.name (store_of code w t) op) (state_of code from w t)) (sym f))
            of (Some op) f =
                answered_goes grant.name op (store_of code w t) (asked op t) (state_of code from w t) kind at
                (sym (replies_with t
                ∙ ap (λ op. push_reply (requested place grant.name (store_of code w t) op) (state_of code from w t)) (sym f)
                ∙ ap (λ r. push_reply r (state_of code from w t)) (requested_by place grant.name (store_of code w t) o args op f)
                ∙ ap (λ b. push_reply (by_refusal place (answered grant.name op (store_of code w t) (asked op t)) b) (state_of code from w t)) (e t))
                ∙ wrong)

      module _ (op : Op) (e : IsAskedFor (Some op)) where
        abbrev tested : Tapes → Bool → Bool → Reply
        tested t good full =
            if not good then ended (ends.Trap TrapBadName place)
            else if full then ended (ends.Trap TrapCrowded place)
            else answered grant.name op (store_of code w t) (asked op t)

        tests : (t : Tapes) → next t ≡ push_reply (tested t (has_good_name op) (answers_text op && not (nat_lt (length w.texts) most_texts))) (state_of code from w t)
        tests t = replies (Some op) e t

        module _ (good : has_good_name op ≡ true) where
          room_for_text : length w.texts < most_texts → (answers_text op && not (nat_lt (length w.texts) most_texts)) ≡ false
          room_for_text few = ap (λ b. answers_text op && not b) (below (length w.texts) most_texts few) ∙ no_more (answers_text op)
            where
              no_more : (b : Bool) → (b && false) ≡ false
              no_more true = refl
              no_more false = refl

          no_text : answers_text op ≡ false → (answers_text op && not (nat_lt (length w.texts) most_texts)) ≡ false
          no_text none = ap (λ b. b && not (nat_lt (length w.texts) most_texts)) none

          pub room_there : (answers_text op ≡ true → length w.texts < most_texts) → (answers_text op && not (nat_lt (length w.texts) most_texts)) ≡ false
          room_there h = of (answers_text op) refl
            where
              of : (b : Bool) → answers_text op ≡ b → (answers_text op && not (nat_lt (length w.texts) most_texts)) ≡ false
              of true e = room_for_text (h e)
              of false e = no_text e

          module _ (room : (answers_text op && not (nat_lt (length w.texts) most_texts)) ≡ false) (old new : DevicesState) (same : AreSameDevices old new) where
            asks : (t : Tapes) → next t ≡ push_reply (answered grant.name op (store_of code w t) (asked op t)) (state_of code from w t)
            asks t =
                tests t
                ∙ ap (λ b. push_reply (tested t b (answers_text op && not (nat_lt (length w.texts) most_texts))) (state_of code from w t)) good
                ∙ ap (λ b. push_reply (tested t true b) (state_of code from w t)) room

            pub failed_at : (more : Tapes) → next (spliced (tapes_of (deed_event grant.name op None)) more) ≡ Halt (ends.DeviceFailed grant.name (name_of op)) (deed_event grant.name op None)
            failed_at more =
                let t = spliced (tapes_of (deed_event grant.name op None)) more in
                asks t ∙ ap (λ told. push_reply (answered grant.name op (store_of code w t) told) (state_of code from w t)) (asked_fails op grant.name more)

            abbrev pub failed_step : DidExactly old new (deed_event grant.name op None) → Rose (device_of old (kind_of op)).faults (device_of new (kind_of op)).faults →
                (s' : StackState) (w' : StoreState) → IsStep code s' w' next old new (Err (DeviceFailed grant.name (name_of op)))
            failed_step did rose s' w' = record { events = deed_event grant.name op None; did = did; comes = record { halts = failed_at }; same = same; failed = rose }

            pub replied_at : IsNotStuck next → (a : Answer) → IsAnswerOf op a → (v : Word) (w' : StoreState) →
                ((more : Tapes) → word_answered a (store_of code w more) (deed_event grant.name op (Some a)) ≡ Replies v (store_of code w' more) (deed_event grant.name op (Some a))) →
                (more : Tapes) → next (spliced (tapes_of (deed_event grant.name op (Some a))) more) ≡ Go (deed_event grant.name op (Some a)) (state_of code (pushed v from) w' more)
            replied_at h a fits v w' words more =
                let es = deed_event grant.name op (Some a) in
                let t = spliced (tapes_of es) more in
                let at = asks t
                ∙ ap (λ told. push_reply (answered grant.name op (store_of code w t) told) (state_of code from w t)) (asked_is op grant.name a fits more)
                ∙ ap (λ r. push_reply r (state_of code from w t)) (words more)
                in
                at ∙ either (has_room (frame_of code from.running)) (Go es (state_of code (pushed v from) w' more)) (λ wrong. h.holds t (at ∙ wrong))

            abbrev pub reply_step : IsNotStuck next → (a : Answer) → IsAnswerOf op a → DidExactly old new (deed_event grant.name op (Some a)) → (v : Word) (w' : StoreState) →
                ((more : Tapes) → word_answered a (store_of code w more) (deed_event grant.name op (Some a)) ≡ Replies v (store_of code w' more) (deed_event grant.name op (Some a))) →
                IsStep code (pushed v from) w' next old new (Ok tt)
            reply_step h a fits did v w' words = record { events = deed_event grant.name op (Some a); did = did; comes = record { goes = replied_at h a fits v w' words }; same = same; failed = tt }

------------------------------------------------------------
-- The word of an answer

pub text_answered : (code : Code) (bytes : List ℕ) (w : StoreState) (es : List Event) (more : Tapes) →
    word_answered (answer.Bytes bytes) (store_of code w more) es ≡ Replies (Text (length (code.texts ++ w.texts))) (store_of code (with_built bytes w) more) es
text_answered code bytes w es more = ap (λ v. Replies (Text (length (code.texts ++ w.texts))) v es) (text_added code bytes w more)

pub word_answered_is : (a : Answer) (v : Word) → Some v ≡ word_answer a → (u : Store) (es : List Event) → word_answered a u es ≡ Replies v u es
word_answered_is (answer.Bytes text) v e u es = cc
word_answered_is (answer.Truth b) v e u es = ap (λ v. Replies v u es) (sym (same_Some v _ e))
word_answered_is (answer.Number n) v e u es = ap (λ v. Replies v u es) (sym (same_Some v _ e))
word_answered_is answer.Unit v e u es = ap (λ v. Replies v u es) (sym (same_Some v _ e))

-- the text stands where room was made for it
pub room_filled : (w w1 w2 : StoreState) (bytes : List ℕ) → w1 ≡ with_built [] w → w2 ≡ record w1 { texts = take (length w1.texts - 1) w1.texts ++ bytes ∷ [] } → w2 ≡ with_built bytes w
room_filled w w1 w2 bytes e f =
    let filled = λ (u : StoreState). let v : StoreState = record u { texts = take (length u.texts - 1) u.texts ++ bytes ∷ [] } in v in
    let size : length w.texts ≡ length (w.texts ++ [] ∷ []) - 1 = omega (arith, length_push w.texts []) in
    f ∙ ap filled e ∙ ap (λ texts. let v : StoreState = record w { texts = texts ++ bytes ∷ [] } in v) (take_at w.texts ([] ∷ []) (length (w.texts ++ [] ∷ []) - 1) size)

------------------------------------------------------------
-- Answers as they are received

-- an answer with its word, over the store as it was before its place was made
pub received_is : (code : Code) (w w1 : StoreState) (text : Bool) (n : Option ℕ) → HasPlace code w w1 text n → (a : Answer) (v : Word) → Some v ≡ word_received n a → (es : List Event) (more : Tapes) →
    word_answered a (store_of code w more) es ≡ Replies v (store_of code (store_received n a w1) more) es
received_is code w w1 true None place a v e es more = absurd place
received_is code w w1 true (Some n) place (answer.Bytes bytes) v e es more =
    text_answered code bytes w es more
    ∙ ap₂ (λ v u. Replies v (store_of code u more) es) (sym (same_Some v _ e ∙ ap Text place.0)) (sym (room_filled w w1 _ bytes place.1 refl))
received_is code w w1 true (Some n) place (answer.Truth b) v e es more = cc
received_is code w w1 true (Some n) place (answer.Number m) v e es more = cc
received_is code w w1 true (Some n) place answer.Unit v e es more = cc
received_is code w w1 false (Some n) place a v e es more = absurd place
received_is code w w1 false None place a v e es more =
    word_answered_is a v e (store_of code w more) es ∙ ap (λ u. Replies v (store_of code u more) es) (sym place)

-- where a place was made it is there
pub place_there : (code : Code) (w w1 : StoreState) (text : Bool) (n : Option ℕ) → HasPlace code w w1 text n → n ≢ None → 0 < length w1.texts
place_there code w w1 true None place some = absurd place
place_there code w w1 true (Some n) place some = let size = length_push w.texts [] in subst (λ (w : StoreState). 0 < length w.texts) (sym place.1) (omega arith)
place_there code w w1 false None place some = absurd (some refl)
place_there code w w1 false (Some n) place some = absurd place

module _ (code : Code) (w w1 : StoreState) where
  bytes_fit : (most : ℕ) (n : Option ℕ) → HasPlace code w w1 true n → (a : Answer) → IsBytesUpTo most a → word_received n a ≡ None → ⊥
  bytes_fit most None place a h e = place
  bytes_fit most (Some n) place (answer.Bytes bytes) h e = cc
  bytes_fit most (Some n) place (answer.Truth b) h e = h
  bytes_fit most (Some n) place (answer.Number m) h e = h
  bytes_fit most (Some n) place answer.Unit h e = h

  truth_fit : (n : Option ℕ) → HasPlace code w w1 false n → (a : Answer) → IsTruth a → word_received n a ≡ None → ⊥
  truth_fit (Some n) place a h e = place
  truth_fit None place (answer.Bytes bytes) h e = h
  truth_fit None place (answer.Truth b) h e = cc
  truth_fit None place (answer.Number m) h e = h
  truth_fit None place answer.Unit h e = h

  number_fit : (n : Option ℕ) → HasPlace code w w1 false n → (a : Answer) → IsNumber a → word_received n a ≡ None → ⊥
  number_fit (Some n) place a h e = place
  number_fit None place (answer.Bytes bytes) h e = h
  number_fit None place (answer.Truth b) h e = h
  number_fit None place (answer.Number m) h e = cc
  number_fit None place answer.Unit h e = h

  unit_fit : (n : Option ℕ) → HasPlace code w w1 false n → (a : Answer) → a ≡ answer.Unit → word_received n a ≡ None → ⊥
  unit_fit (Some n) place a h e = place
  unit_fit None place a h e = let f : word_answer answer.Unit ≡ None = sym (ap word_answer h) ∙ e in cc

  -- an answer fits its place
  pub answer_received : (o : OpName) (n : Option ℕ) → HasPlace code w w1 (is_answered_by_text o) n → (a : Answer) → IsAnswerNamed o a → word_received n a ≡ None → ⊥
  answer_received name.ConsoleRead n place a h e = bytes_fit 65536 n place a h e
  answer_received name.ConsoleWrite n place a h e = unit_fit n place a h e
  answer_received name.FolderRead n place a h e = bytes_fit text_limit n place a h e
  answer_received name.FolderHas n place a h e = truth_fit n place a h e
  answer_received name.FolderWrite n place a h e = unit_fit n place a h e
  answer_received name.FolderAppend n place a h e = unit_fit n place a h e
  answer_received name.FolderNames n place a h e = bytes_fit text_limit n place a h e
  answer_received name.ClockNow n place a h e = number_fit n place a h e
  answer_received name.RandomWord n place a h e = number_fit n place a h e
  answer_received name.FolderRemove n place a h e = unit_fit n place a h e
