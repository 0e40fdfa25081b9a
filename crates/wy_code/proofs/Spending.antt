-- No step ends a run as spent: only the bound on steps does, and then all of them are taken.
use Rattle.std.proofs.Common.{◌≡◌, ◌≢◌, ℕ, zero, suc, Bool, true, false, not, ◌&&◌, List, [], ◌∷◌, length, Option, Some, None, refl, ap, nat_eq, nat_lt}
use Rattle.std.specs.Prelude.{slice_get, if◌then◌else◌}
use Rattle.wy_text.specs.declared.fault.Place.{Place}
use Rattle.wy_device.specs.declared.deed.Event.{Event}
use Rattle.wy_device.specs.declared.deed.Event.TheVariants.{Leave}
use Rattle.wy_device.specs.declared.operation.Answer.{Answer}
use Rattle.wy_device.specs.declared.operation.Answer.TheVariants as answer
use Rattle.wy_device.specs.declared.operation.Op.{Op}
use Rattle.wy_device.specs.Operators.{Computed, GivesNumber, GivesTruth, Builds, Traps, Misfits}
use Rattle.wy_device.specs.Requests.{operation_of, has_good_name, answers_text, Told, Answers, Fails, Waits, asked}
use Rattle.wy_device.specs.RunEnds.{TooDeep, Spent, Wrong}
use Rattle.wy_device.specs.Traps.{most_texts, most_objects}
use Rattle.wy_code.specs.declared.code.Body.{Body}
use Rattle.wy_code.specs.declared.code.Code.{Code}
use Rattle.wy_code.specs.declared.code.Grant.{Grant as CodeGrant}
use Rattle.wy_code.specs.declared.code.Instance.{Instance}
use Rattle.wy_code.specs.declared.code.Literal.{Literal}
use Rattle.wy_code.specs.declared.instruction.Instruction.{Instruction}
use Rattle.wy_code.specs.declared.instruction.Instruction.TheVariants.{Push, Load, Store as StoreIn, Get, Set, Drop, Op as Operate, Jump, JumpFalse, New, Call, Return, Finish}
use Rattle.wy_code.specs.declared.instruction.Placed.{Placed}
use Rattle.wy_code.specs.Stores.{Word, Int, Truth, Nothing, Text, Object, Grant, Thing, Store, Reply, Replies, Ends, found, text_built, object_made, value_set, value_at}
use Rattle.wy_code.specs.Operations.{operand_count, computed, texts_named, word_answered, answered, requested, requested_of, performed}
use Rattle.wy_code.specs.Machine
use Rattle.wy_code.specs.Machine.{Frame, State, Next, Go, Halt, has_room, push, push_reply, popped, Taken, short, taken, take_operands, on_taken, store_slot, stored, on_truth, make_with, make, method_of_literal, literal_of, enter_body, enter_method, call_on, return_to, begin_body, begin_instance, begin_next, finish, act, act_first, start_in, all_instances, words_from, this_of, jump, step, with_operands, with_store}
use Rattle.wy_code.specs.Running.{Ran, and_then, steps, enter_first, store_at_first, machine}
use Rattle.wy_code.specs.Laws.{SpentTakesAll}

GoesOrEnds : Next → Type 0
GoesOrEnds (Go es s) = Unit {0}
GoesOrEnds (Halt e es) = e ≢ Spent

ReplyEnds : Reply → Type 0
ReplyEnds (Replies v w es) = Unit {0}
ReplyEnds (Ends e es) = e ≢ Spent

either : (b : Bool) (x y : Next) → GoesOrEnds x → GoesOrEnds y → GoesOrEnds (if b then x else y)
either true x y p q = p
either false x y p q = q

either_reply : (b : Bool) (x y : Reply) → ReplyEnds x → ReplyEnds y → ReplyEnds (if b then x else y)
either_reply true x y p q = p
either_reply false x y p q = q

stuck_ends : GoesOrEnds Machine.stuck
unfolding GoesOrEnds
stuck_ends e = cc

goes : (es : List Event) (s : State) → GoesOrEnds (Go es s)
unfolding GoesOrEnds
goes es s = tt

wrong_reply : ReplyEnds (Ends Wrong [])
unfolding ReplyEnds
wrong_reply e = cc

------------------------------------------------------------
-- Operations

found_ends : (v : Option Word) (w : Store) → ReplyEnds (found v w)
unfolding ReplyEnds
found_ends None w = λ e. cc
found_ends (Some v) w = tt

built_ends : (place : Place) (bytes : List ℕ) (w : Store) → ReplyEnds (text_built place bytes w)
unfolding ReplyEnds
built_ends place bytes w = either_reply (nat_lt w.built most_texts) _ _ tt (λ e. cc)

computed_ends : (place : Place) (w : Store) (x : Computed) → ReplyEnds (computed place w x)
unfolding ReplyEnds
computed_ends place w (GivesNumber n) = tt
computed_ends place w (GivesTruth b) = tt
computed_ends place w (Builds bytes) = built_ends place bytes w
computed_ends place w (Traps kind) = λ e. cc
computed_ends place w Misfits = λ e. cc

made_ends : (place : Place) (t : Thing) (w : Store) → ReplyEnds (object_made place t w)
unfolding ReplyEnds
made_ends place t w = either_reply (nat_lt w.made most_objects) _ _ tt (λ e. cc)

word_ends : (a : Answer) (w : Store) (es : List Event) → ReplyEnds (word_answered a w es)
unfolding ReplyEnds
word_ends (answer.Bytes bytes) w es = tt
word_ends (answer.Truth b) w es = tt
word_ends (answer.Number n) w es = tt
word_ends answer.Unit w es = tt

answered_ends : (grant : List ℕ) (op : Op) (w : Store) (t : Told) → ReplyEnds (answered grant op w t)
unfolding ReplyEnds
answered_ends grant op w (Answers a tapes) = word_ends a _ _
answered_ends grant op w (Fails tapes) = λ e. cc
answered_ends grant op w Waits = λ e. cc

requested_ends : (place : Place) (grant : List ℕ) (w : Store) (op : Option Op) → ReplyEnds (requested place grant w op)
unfolding ReplyEnds
requested_ends place grant w None = λ e. cc
requested_ends place grant w (Some op) =
    either_reply (not (has_good_name op)) _ _ (λ e. cc)
    (either_reply (answers_text op && not (nat_lt w.built most_texts)) _ _ (λ e. cc) (answered_ends grant op w (asked op w.tapes)))

requested_of_ends : (place : Place) (g : CodeGrant) (w : Store) (method : Option (List ℕ)) (texts : Option (List (List ℕ))) → ReplyEnds (requested_of place g w method texts)
requested_of_ends place g w None texts = wrong_reply
requested_of_ends place g w (Some method) None = wrong_reply
requested_of_ends place g w (Some method) (Some texts) = requested_ends place g.name w (operation_of g.primitive method texts)

performed_ends : (place : Place) (g : Option CodeGrant) (method : Option (List ℕ)) (vs : List Word) (w : Store) → ReplyEnds (performed place g method vs w)
performed_ends place None method vs w = wrong_reply
performed_ends place (Some g) method vs w = requested_of_ends place g w method (texts_named w vs)

------------------------------------------------------------
-- Steps

push_ends : (v : Word) (es : List Event) (s : State) → GoesOrEnds (push v es s)
push_ends v es s = either (has_room s.frame) _ _ (goes es _) stuck_ends

reply_ends : (r : Reply) (s : State) → ReplyEnds r → GoesOrEnds (push_reply r s)
unfolding ReplyEnds GoesOrEnds
reply_ends (Replies v w es) s x = push_ends v es (with_store w s)
reply_ends (Ends e es) s x = x

popped_ends : (vs : List Word) (s : State) (go : Word → State → Next) → ((v : Word) (s : State) → GoesOrEnds (go v s)) → GoesOrEnds (popped vs s go)
popped_ends [] s go h = stuck_ends
popped_ends (v ∷ vs) s go h = h v (with_operands vs s)

taken_ends : (t : Taken) (s : State) (go : List Word → State → Next) → ((vs : List Word) (s : State) → GoesOrEnds (go vs s)) → GoesOrEnds (on_taken t s go)
taken_ends short s go h = stuck_ends
taken_ends (taken vs operands) s go h = h vs (with_operands operands s)

stored_ends : (w : Option Store) (s : State) → GoesOrEnds (stored w s)
stored_ends None s = stuck_ends
stored_ends (Some w) s = goes [] (with_store w s)

truth_ends : (v : Word) (x y : Next) → GoesOrEnds x → GoesOrEnds y → GoesOrEnds (on_truth v x y)
truth_ends (Truth true) x y p q = p
truth_ends (Truth false) x y p q = q
truth_ends (Int n) x y p q = stuck_ends
truth_ends Nothing x y p q = stuck_ends
truth_ends (Text t) x y p q = stuck_ends
truth_ends (Object a) x y p q = stuck_ends
truth_ends (Grant g) x y p q = stuck_ends

made_with_ends : (place : Place) (l : ℕ) (fields : List Word) (s : State) (captured : Option (List Word)) → GoesOrEnds (make_with place l fields s captured)
made_with_ends place l fields s None = stuck_ends
made_with_ends place l fields s (Some captured) = reply_ends _ s (made_ends place _ s.store)

make_ends : (place : Place) (l : ℕ) (s : State) (literal : Option Literal) → GoesOrEnds (make place l s literal)
make_ends place l s None = stuck_ends
make_ends place l s (Some literal) =
    taken_ends (take_operands literal.fields s.frame.operands []) s _ (λ fields s. made_with_ends place l fields s (words_from s.frame s.store literal.captures))

module _ (code : Code) where
  entered_ends : (a x : ℕ) (vs : List Word) (s : State) (b : Option Body) → GoesOrEnds (enter_body code a x vs s b)
  entered_ends a x vs s None = stuck_ends
  entered_ends a x vs s (Some b) = either (nat_eq (length vs) b.parameters) _ _ (goes _ _) stuck_ends

  method_ends : (a m : ℕ) (vs : List Word) (s : State) (t : Option Thing) → GoesOrEnds (enter_method code a m vs s t)
  method_ends a m vs s None = stuck_ends
  method_ends a m vs s (Some t) = entered_ends a t.instance vs s (method_of_literal code (literal_of code t.instance t.literal) m)

  deep_ends : GoesOrEnds (Halt TooDeep [])
  unfolding GoesOrEnds
  deep_ends e = cc

  call_ends : (n : ℕ) (place : Place) (m : ℕ) (vs : List Word) (v : Word) (s : State) → GoesOrEnds (call_on code n place m vs v s)
  call_ends n place m vs (Object a) s = either (nat_lt (length s.callers) n) _ _ (method_ends a m vs s (slice_get s.store.objects a)) deep_ends
  call_ends n place m vs (Grant g) s = reply_ends _ s (performed_ends place (slice_get code.grants g) (slice_get code.methods m) vs s.store)
  call_ends n place m vs (Int i) s = stuck_ends
  call_ends n place m vs (Truth b) s = stuck_ends
  call_ends n place m vs Nothing s = stuck_ends
  call_ends n place m vs (Text t) s = stuck_ends

  return_ends : (v : Word) (fs : List Frame) (w : Store) → GoesOrEnds (return_to v fs w)
  return_ends v [] w = stuck_ends
  return_ends v (f ∷ fs) w = goes _ _

  begun_ends : (x : ℕ) (name : List ℕ) (es : List Event) (w : Store) (b : Option Body) → GoesOrEnds (begin_body code x name es w b)
  begun_ends x name es w None = stuck_ends
  begun_ends x name es w (Some b) = goes _ _

  instance_ends : (x : ℕ) (es : List Event) (w : Store) (i : Option Instance) → GoesOrEnds (begin_instance code x es w i)
  unfolding GoesOrEnds
  instance_ends x es w None = λ e. cc
  instance_ends x es w (Some i) = begun_ends x i.name es w (start_in code (slice_get code.scopes i.scope))

  next_ends : (es : List Event) (w : Store) → GoesOrEnds (begin_next code es w)
  next_ends es w = instance_ends w.next es w (slice_get (all_instances code) w.next)

  finish_ends : (fs : List Frame) (w : Store) → GoesOrEnds (finish code fs w)
  finish_ends [] w = next_ends (Leave ∷ []) w
  finish_ends (f ∷ fs) w = stuck_ends

  act_ends : (n : ℕ) (place : Place) (i : Instruction) (s : State) → GoesOrEnds (act code n place i s)
  act_ends n place (Push c) s = push_ends _ [] s
  act_ends n place (Load i) s = reply_ends _ s (found_ends (slice_get s.frame.slots i) s.store)
  act_ends n place (StoreIn i) s = popped_ends s.frame.operands s _ (λ v s. either (nat_lt i (length s.frame.slots)) _ _ (goes _ _) stuck_ends)
  act_ends n place (Get i) s = reply_ends _ s (found_ends (value_at s.store (this_of s.frame) i) s.store)
  act_ends n place (Set i) s = popped_ends s.frame.operands s _ (λ v s. stored_ends (value_set (this_of s.frame) i v s.store) s)
  act_ends n place Drop s = popped_ends s.frame.operands s _ (λ v s. goes [] s)
  act_ends n place (Operate o) s =
      taken_ends (take_operands (operand_count o) s.frame.operands []) s _ (λ vs s. reply_ends _ s (computed_ends place s.store _))
  act_ends n place (Jump to) s = goes _ _
  act_ends n place (JumpFalse to) s = popped_ends s.frame.operands s _ (λ v s. truth_ends v _ _ (goes [] s) (goes _ _))
  act_ends n place (New l) s = make_ends place l s (literal_of code s.frame.instance l)
  act_ends n place (Call m k) s =
      taken_ends (take_operands k s.frame.operands []) s _ (λ vs s. popped_ends s.frame.operands s _ (λ v s. call_ends n place m vs v s))
  act_ends n place Return s = popped_ends s.frame.operands s _ (λ v s. return_ends v s.callers s.store)
  act_ends n place Finish s = finish_ends s.callers s.store

  first_ends : (n : ℕ) (rest : List Placed) (s : State) → GoesOrEnds (act_first code n rest s)
  first_ends n [] s = stuck_ends
  first_ends n (i ∷ rest) s = act_ends n i.place i.instruction _

  step_ends : (n : ℕ) (s : State) → GoesOrEnds (step code n s)
  unfolding step
  step_ends n s = first_ends n s.frame.rest s

  ------------------------------------------------------------
  -- Runs

  after_step : (k : ℕ) (x : Next) (r : State → Ran) → GoesOrEnds x → ((t : State) → (r t).end ≡ Spent → (r t).taken ≡ k) → (and_then x r).end ≡ Spent → (and_then x r).taken ≡ suc k
  unfolding GoesOrEnds
  after_step k (Go es t) r x h e = ap suc (h t e)
  after_step k (Halt z es) r x h e = absurd (x e)

  steps_taken : (n k : ℕ) (s : State) → (steps code n k s).end ≡ Spent → (steps code n k s).taken ≡ k
  unfolding steps
  steps_taken n zero s e = refl
  steps_taken n (suc k) s e = after_step k (step code n s) (steps code n k) (step_ends n s) (λ t. steps_taken n k t) e

  first_taken : (n k : ℕ) (x : Next) → GoesOrEnds x → (enter_first x (steps code n k)).end ≡ Spent → (enter_first x (steps code n k)).taken ≡ k
  unfolding GoesOrEnds
  first_taken n k (Go es t) x e = steps_taken n k t e
  first_taken n k (Halt z es) x e = absurd (x e)

  pub spent_takes_all : SpentTakesAll code
  unfolding machine
  spent_takes_all n k tapes e = first_taken n k (begin_next code [] (store_at_first code tapes)) (next_ends [] (store_at_first code tapes)) e
