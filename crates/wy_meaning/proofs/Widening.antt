-- Two editions of the language mean the same, up to a text that is too long for the first.
use Rattle.std.proofs.Common.{◌≡◌, ◌≤◌, ◌⊎◌, inl, inr, ℕ, zero, suc, Bool, true, false, List, [], ◌∷◌, ◌++◌, length, map, Option, Some, None, not, ◌&&◌, refl, sym, ap, ◌∙◌, subst, nat_eq, nat_le, nat_lt, arith}
use Rattle.std.specs.Prelude.{slice_get, if◌then◌else◌}
use Rattle.std.proofs.lemmas.Bool.{le-leb, leb-true}
use Rattle.wy_text.specs.declared.fault.Place.{Place}
use Rattle.wy_types.specs.declared.code.BinaryOperator.{BinaryOperator}
use Rattle.wy_types.specs.declared.code.BinaryOperator.TheVariants as binary
use Rattle.wy_types.specs.Code as code
use Rattle.wy_types.specs.Code.{Expr, Number, Quoted, Truth as TruthOf, Nothing as NothingOf, This, Name, Unary, Binary, TextCall, Call, New, Ascribe, Assign, Plain, If, Values, none, more, Block, Last, Then, Val}
use Rattle.wy_types.specs.declared.resolved.TypeDecl.{TypeDecl}
use Rattle.wy_types.specs.Program.{Program, Scope, Start, Init, Run}
use Rattle.wy_device.specs.declared.deed.Event.{Event}
use Rattle.wy_device.specs.declared.deed.Event.TheVariants.{Leave}
use Rattle.wy_device.specs.declared.operation.Answer.{Answer}
use Rattle.wy_device.specs.declared.operation.Answer.TheVariants as answer
use Rattle.wy_device.specs.declared.operation.Kind.{Kind}
use Rattle.wy_device.specs.declared.operation.Kind.TheVariants.{Console, Folder, Clock, Random}
use Rattle.wy_device.specs.declared.operation.Op.{Op}
use Rattle.wy_device.specs.declared.operation.OpName.{OpName}
use Rattle.wy_device.specs.declared.operation.OpName.TheVariants as name
use Rattle.wy_device.specs.Editions.{Edition}
use Rattle.wy_device.specs.Operation.{name_of, kind_of}
use Rattle.wy_device.specs.Operators.{Operator, Join, Operand, Bytes, Computed, Builds, Traps, joined, on_texts, operate_within}
use Rattle.wy_device.specs.Requests.{operation_of, has_good_name, answers_text, fits_within, is_text_up_to, Told, Answers, Waits, asked_within, told_by, tape_of, with_tape}
use Rattle.wy_device.specs.RunEnds.{RunEnd, Wrong, Trap, TooDeep}
use Rattle.wy_device.specs.Tapes.{Tapes}
use Rattle.wy_device.specs.Traps.{most_texts, BadName, Crowded, LongText}
use Rattle.wy_meaning.specs.Values.{Value, Int, Truth, Nothing, Text, Object, Grant, Thing, World, Outcome, Gives, Stops, Reply}
use Rattle.wy_meaning.specs.Starts.{Started, Starts, GrantIs, grant_of, scope_of_instance, literal_in}
use Rattle.wy_meaning.specs.Results.{Result, give, stop, node, tick, told, settle, added, carried, bind, whole}
use Rattle.wy_meaning.specs.Operating.{unary_operator, binary_operator, text_operator, operand, computed, operated}
use Rattle.wy_meaning.specs.Performing.{texts_of, answered, requested, requested_of, perform}
use Rattle.wy_meaning.specs.Eval.{Sight, Calls, object_value, value_of_name, choose, go_on, apply, eval, eval_value, eval_all, eval_block, with_local, Method, method_in, called, called_on, open_calls}
use Rattle.wy_meaning.specs.Start.{fill_all, start_of_scope, run_start, begin, end_of, course_of, meaning, world_at_first}
use Rattle.wy_meaning.specs.Widening.{IsShort, AreShort, HasShortTexts, in_edition, HaveSameGrants, LongerTextsChangeNothingElse, MeansTheSame}
use Rattle.wy_meaning.proofs.Taking.{Still, found_still, computed_still, assigned_still, filled_still, new_still, answer_still, IsTold, tells, tells_failure, tells_nothing, is_told}

------------------------------------------------------------
-- Tapes whose texts are short

tape_short : (most : ℕ) (kind : Kind) (t : Tapes) → HasShortTexts most t → AreShort most (tape_of kind t)
tape_short most Console t h = h.console
tape_short most Folder t h = h.folder
tape_short most Clock t h = h.clock
tape_short most Random t h = h.random

with_short : (most : ℕ) (kind : Kind) (tape : List (Option Answer)) (t : Tapes) → AreShort most tape → HasShortTexts most t → HasShortTexts most (with_tape kind tape t)
with_short most Console tape t k h = record { console = k; folder = h.folder; clock = h.clock; random = h.random }
with_short most Folder tape t k h = record { console = h.console; folder = k; clock = h.clock; random = h.random }
with_short most Clock tape t k h = record { console = h.console; folder = h.folder; clock = k; random = h.random }
with_short most Random tape t k h = record { console = h.console; folder = h.folder; clock = h.clock; random = k }

-- what is left when an answer was taken
rest_short : (most : ℕ) (kind : Kind) (a : Option Answer) (rest : List (Option Answer)) (t : Tapes) → tape_of kind t ≡ a ∷ rest → HasShortTexts most t →
    HasShortTexts most (with_tape kind rest t)
rest_short most kind a rest t e h =
    let k : AreShort most (a ∷ rest) = subst (AreShort most) e (tape_short most kind t h) in
    with_short most kind rest t k.1 h

------------------------------------------------------------
-- Results that are alike

-- the first stops at a text that is too long; or both are the same, and no answer that is left has a long text
data Alike {A : Type 0} (most : ℕ) (r s : Result A) : Type 0 where
  trapped : (place : Place) → r.out ≡ Stops (Trap LongText place) → Alike most r s
  same : r ≡ s → HasShortTexts most r.world.tapes → Alike most r s

data AlikeReply (most : ℕ) (r s : Reply) : Type 0 where
  reply_trapped : (place : Place) → r.out ≡ Stops (Trap LongText place) → AlikeReply most r s
  reply_same : r ≡ s → HasShortTexts most r.world.tapes → AlikeReply most r s

module _ (most : ℕ) where
  give_alike : {A : Type 0} (a : A) (w : World) → HasShortTexts most w.tapes → Alike most (give a w) (give a w)
  unfolding give
  give_alike a w h = same refl h

  stop_alike : {A : Type 0} (e : RunEnd) (w : World) → HasShortTexts most w.tapes → Alike most (stop {A = A} e w) (stop e w)
  unfolding stop
  stop_alike e w h = same refl h

  node_alike : {A : Type 0} (r s : Result A) → Alike most r s → Alike most (node r) (node s)
  unfolding node
  node_alike r s (trapped place e) = trapped place e
  node_alike r s (same e h) = same (ap node e) h

  tick_alike : {A : Type 0} (r s : Result A) → Alike most r s → Alike most (tick r) (tick s)
  unfolding tick
  tick_alike r s (trapped place e) = trapped place e
  tick_alike r s (same e h) = same (ap tick e) h

  told_alike : {A : Type 0} (event : Event) (r s : Result A) → Alike most r s → Alike most (told event r) (told event s)
  unfolding told
  told_alike event r s (trapped place e) = trapped place e
  told_alike event r s (same e h) = same (ap (told event) e) h

  settle_alike : (r s : Reply) → AlikeReply most r s → Alike most (settle r) (settle s)
  unfolding settle
  settle_alike r s (reply_trapped place e) = trapped place e
  settle_alike r s (reply_same e h) = same (ap settle e) h

  -- one instruction, and a reply
  settled_alike : (r s : Reply) → AlikeReply most r s → Alike most (tick (settle r)) (tick (settle s))
  settled_alike r s x = tick_alike _ _ (settle_alike r s x)

  -- a reply that no edition has a part in
  still_alike : (w : World) (r : Reply) → HasShortTexts most w.tapes → Still w.tapes r → AlikeReply most r r
  still_alike w r h still = reply_same refl (subst (HasShortTexts most) (sym still.tapes) h)

  added_alike : {A : Type 0} (es : List Event) (c q : ℕ) (r s : Result A) → Alike most r s → Alike most (added es c q r) (added es c q s)
  unfolding added
  added_alike es c q r s (trapped place e) = trapped place e
  added_alike es c q r s (same e h) = same (ap (added es c q) e) h

  module _ {A B : Type 0} (f g : A → World → Result B) (next : (a : A) (w : World) → HasShortTexts most w.tapes → Alike most (f a w) (g a w)) where
    carried_alike : (o : Outcome A) (w : World) (es : List Event) (c q : ℕ) → HasShortTexts most w.tapes → Alike most (carried o w es c q f) (carried o w es c q g)
    carried_alike (Stops e) w es c q h = same refl h
    carried_alike (Gives a) w es c q h = added_alike es c q (f a w) (g a w) (next a w h)

    bind_alike : (r s : Result A) → Alike most r s → Alike most (bind r f) (bind s g)
    unfolding bind
    bind_alike r s (trapped place e) = trapped place (ap (λ (o : Outcome A). (carried o r.world r.events r.nodes r.steps f).out) e)
    bind_alike r s (same e h) =
        subst (λ (t : Result A). Alike most (bind r f) (bind t g)) e (carried_alike r.out r.world r.events r.nodes r.steps h)

  either_alike : {A : Type 0} (b : Bool) (r r' s s' : Result A) → Alike most r r' → Alike most s s' → Alike most (if b then r else s) (if b then r' else s')
  either_alike true r r' s s' x y = x
  either_alike false r r' s s' x y = y

  whole_alike : (enter : Event) (r s : Result Value) → Alike most r s → Alike most (whole enter r) (whole enter s)
  unfolding whole
  whole_alike enter r s x =
      told_alike enter _ _ (node_alike _ _ (bind_alike _ _ (λ v w h. tick_alike _ _ (told_alike Leave _ _ (give_alike v w h))) r s x))

  -- a function of the world in two editions
  Agree : {A : Type 0} → (World → Result A) → (World → Result A) → Type 0
  Agree f g = (w : World) → HasShortTexts most w.tapes → Alike most (f w) (g w)

  CallsAgree : Calls → Calls → Type 0
  CallsAgree calls others = (a : ℕ) (name : List ℕ) (vs : List Value) (w : World) → HasShortTexts most w.tapes → Alike most (calls a name vs w) (others a name vs w)

  choose_alike : {A : Type 0} (v : Value) (f f' g g' : World → Result A) → Agree f f' → Agree g g' → Agree (choose v f g) (choose v f' g')
  unfolding Agree
  choose_alike (Truth true) f f' g g' x y w h = x w h
  choose_alike (Truth false) f f' g g' x y w h = y w h
  choose_alike (Int n) f f' g g' x y w h = stop_alike Wrong w h
  choose_alike Nothing f f' g g' x y w h = stop_alike Wrong w h
  choose_alike (Text b) f f' g g' x y w h = stop_alike Wrong w h
  choose_alike (Object a) f f' g g' x y w h = stop_alike Wrong w h
  choose_alike (Grant k) f f' g g' x y w h = stop_alike Wrong w h

  -- a side that is left by a Jump
  left_alike : (f g : World → Result Value) → Agree f g → Agree (λ w. bind (f w) (λ v w. tick (give v w))) (λ w. bind (g w) (λ v w. tick (give v w)))
  unfolding Agree
  left_alike f g x w h = bind_alike _ _ (λ v w h. tick_alike _ _ (give_alike v w h)) _ _ (x w h)

------------------------------------------------------------
-- Operators, and operations on grants

module _ (first second : Edition) (le : first.longest ≤ second.longest) where
  abbrev most : ℕ
  most = first.longest

  longer_holds : (n : ℕ) → nat_le n first.longest ≡ true → nat_le n second.longest ≡ true
  longer_holds n e = let h : n ≤ first.longest = leb-true n first.longest e in le-leb n second.longest (omega (arith, h, le))

  -- only a text that is joined may be too long
  abbrev IsComputedSo : Computed → Computed → Type 0
  IsComputedSo x y = (x ≡ Traps LongText) ⊎ (x ≡ y)

  joined_so : (s t : List ℕ) → IsComputedSo (joined first.longest s t) (joined second.longest s t)
  joined_so s t = of_test (nat_le (length (s ++ t)) first.longest) refl
    where
      of_test : (b : Bool) → nat_le (length (s ++ t)) first.longest ≡ b → IsComputedSo (if b then Builds (s ++ t) else Traps LongText) (joined second.longest s t)
      of_test false e = inl refl
      of_test true e = inr (sym (ap (λ (c : Bool). if c then Builds (s ++ t) else Traps LongText) (longer_holds (length (s ++ t)) e)))

  on_texts_so : (xs : List Operand) → IsComputedSo (on_texts (joined first.longest) xs) (on_texts (joined second.longest) xs)
  on_texts_so (Bytes s ∷ Bytes t ∷ []) = joined_so s t
  on_texts_so xs = inr refl

  operate_so : (o : Operator) (xs : List Operand) → IsComputedSo (operate_within first.longest o xs) (operate_within second.longest o xs)
  unfolding operate_within
  operate_so Join xs = on_texts_so xs
  operate_so o xs = inr refl

  operated_alike : (place : Place) (o : Option Operator) (vs : List Value) (w : World) → HasShortTexts most w.tapes →
      AlikeReply most (operated first place o vs w) (operated second place o vs w)
  operated_alike place None vs w h = reply_same refl h
  operated_alike place (Some o) vs w h = of (operate_so o (map operand vs))
    where
      of : IsComputedSo (operate_within first.longest o (map operand vs)) (operate_within second.longest o (map operand vs)) →
          AlikeReply most (operated first place (Some o) vs w) (operated second place (Some o) vs w)
      of (inl e) = reply_trapped place (ap (λ (c : Computed). (computed place w c).out) e)
      of (inr e) =
          reply_same (ap (computed place w) e)
          (subst (HasShortTexts most) (sym (computed_still place w (operate_within first.longest o (map operand vs))).tapes) h)

  both_alike : (place : Place) (o : Option Operator) (v : Value) (right right' : World → Result Value) → Agree most right right' →
      Agree most (λ w. bind (right w) (λ u w. tick (settle (operated first place o (v ∷ u ∷ []) w)))) (λ w. bind (right' w) (λ u w. tick (settle (operated second place o (v ∷ u ∷ []) w))))
  unfolding Agree
  both_alike place o v right right' x w h =
      bind_alike most _ _ (λ u w h. settled_alike most _ _ (operated_alike place o (v ∷ u ∷ []) w h)) _ _ (x w h)

  go_on_alike : (place : Place) (o : BinaryOperator) (v : Value) (right right' : World → Result Value) → Agree most right right' →
      Agree most (go_on first place o v right) (go_on second place o v right')
  unfolding Agree
  go_on_alike place binary.And v right right' x w h =
      tick_alike most _ _ (choose_alike most v _ _ _ _ (left_alike most right right' x) (λ w h. tick_alike most _ _ (give_alike most (Truth false) w h)) w h)
  go_on_alike place binary.Or v right right' x w h =
      tick_alike most _ _ (choose_alike most v _ _ _ _ (λ w h. tick_alike most _ _ (tick_alike most _ _ (give_alike most (Truth true) w h))) x w h)
  go_on_alike place o v right right' x w h = both_alike place (binary_operator o) v right right' x w h

  text_fits : (a : Answer) → IsShort most (Some a) → is_text_up_to first.longest a ≡ is_text_up_to second.longest a
  text_fits (answer.Bytes text) h =
      le-leb (length text) first.longest h ∙ sym (le-leb (length text) second.longest (omega (arith, h, le)))
  text_fits (answer.Truth b) h = refl
  text_fits (answer.Number n) h = refl
  text_fits answer.Unit h = refl

  answer_fits : (o : OpName) (a : Answer) → IsShort most (Some a) → fits_within first.longest o a ≡ fits_within second.longest o a
  answer_fits name.FolderRead a h = text_fits a h
  answer_fits name.FolderNames a h = text_fits a h
  answer_fits o a h = refl

  told_same : (o : OpName) (kind : Kind) (tape : List (Option Answer)) (t : Tapes) → AreShort most tape →
      told_by first.longest o kind tape t ≡ told_by second.longest o kind tape t
  told_same o kind [] t h = refl
  told_same o kind (None ∷ tape) t h = refl
  told_same o kind (Some a ∷ tape) t h = ap (λ (b : Bool). if b then Answers a (with_tape kind tape t) else Waits) (answer_fits o a h.0)

  asked_same : (op : Op) (t : Tapes) → HasShortTexts most t → asked_within first.longest op t ≡ asked_within second.longest op t
  asked_same op t h = told_same (name_of op) (kind_of op) (tape_of (kind_of op) t) t (tape_short most (kind_of op) t h)

  answered_short : (grant : List ℕ) (op : Op) (w : World) (x : Told) → IsTold op w.tapes x → HasShortTexts most w.tapes →
      HasShortTexts most (answered grant op w x).world.tapes
  unfolding told settle stop
  answered_short grant op w _ (tells a rest e) h =
      subst (HasShortTexts most) (sym (answer_still a (record w { tapes = with_tape (kind_of op) rest w.tapes })).tapes) (rest_short most (kind_of op) (Some a) rest w.tapes e h)
  answered_short grant op w _ (tells_failure rest e) h = rest_short most (kind_of op) None rest w.tapes e h
  answered_short grant op w _ tells_nothing h = h

  answered_alike : (grant : List ℕ) (op : Op) (w : World) → HasShortTexts most w.tapes →
      Alike most (answered grant op w (asked_within first.longest op w.tapes)) (answered grant op w (asked_within second.longest op w.tapes))
  answered_alike grant op w h =
      same (ap (answered grant op w) (asked_same op w.tapes h)) (answered_short grant op w _ (is_told first.longest op w.tapes) h)

  requested_alike : (place : Place) (grant : List ℕ) (w : World) (op : Option Op) → HasShortTexts most w.tapes →
      Alike most (requested first place grant w op) (requested second place grant w op)
  requested_alike place grant w None h = stop_alike most Wrong w h
  requested_alike place grant w (Some op) h =
      either_alike most (not (has_good_name op)) _ _ _ _ (stop_alike most (Trap BadName place) w h)
      (either_alike most (answers_text op && not (nat_lt w.built most_texts)) _ _ _ _ (stop_alike most (Trap Crowded place) w h) (answered_alike grant op w h))

  perform_alike : (place : Place) (g : Option GrantIs) (method : List ℕ) (vs : List Value) (w : World) → HasShortTexts most w.tapes →
      Alike most (perform first place g method vs w) (perform second place g method vs w)
  unfolding perform
  perform_alike place g method vs w h = of g (texts_of vs)
    where
      of : (g : Option GrantIs) (texts : Option (List (List ℕ))) → Alike most (requested_of first place g method w texts) (requested_of second place g method w texts)
      of None texts = stop_alike most Wrong w h
      of (Some g) None = stop_alike most Wrong w h
      of (Some g) (Some texts) = requested_alike place g.name w (operation_of g.primitive method texts) h

  ------------------------------------------------------------
  -- Expressions

  module _ (ds es : List TypeDecl) (ss : List Scope) (granted : HaveSameGrants first second (record { declarations = ds; scopes = ss })) (st : Starts) where
    abbrev p : Program
    p = record { declarations = ds; scopes = ss }

    abbrev other : Program
    other = record { declarations = es; scopes = ss }

    abbrev s : Starts
    s = in_edition first st

    abbrev s' : Starts
    s' = in_edition second st

    module _ (calls calls' : Calls) (ok : CallsAgree most calls calls') where
      apply_alike : (place : Place) (v : Value) (method : List ℕ) (vs : List Value) (w : World) → HasShortTexts most w.tapes →
          Alike most (apply p s calls place v method vs w) (apply other s' calls' place v method vs w)
      unfolding CallsAgree
      apply_alike place (Object a) method vs w h = ok a method vs w h
      apply_alike place (Grant g) method vs w h =
          subst (λ (o : Option GrantIs). Alike most (perform first place (grant_of first p g) method vs w) (perform second place o method vs w)) (granted g)
          (perform_alike place (grant_of first p g) method vs w h)
      apply_alike place (Int n) method vs w h = stop_alike most Wrong w h
      apply_alike place (Truth n) method vs w h = stop_alike most Wrong w h
      apply_alike place Nothing method vs w h = stop_alike most Wrong w h
      apply_alike place (Text b) method vs w h = stop_alike most Wrong w h

      mutual
        unfolding eval Agree

        expr_alike : (e : Expr) (sight : Sight) (w : World) → HasShortTexts most w.tapes → Alike most (eval p s calls sight e w) (eval other s' calls' sight e w)
        expr_alike (Number place n) sight w h = node_alike most _ _ (tick_alike most _ _ (give_alike most (Int n) w h))
        expr_alike (Quoted place b) sight w h = node_alike most _ _ (tick_alike most _ _ (give_alike most (Text b) w h))
        expr_alike (TruthOf place b) sight w h = node_alike most _ _ (tick_alike most _ _ (give_alike most (Truth b) w h))
        expr_alike (NothingOf place) sight w h = node_alike most _ _ (tick_alike most _ _ (give_alike most Nothing w h))
        expr_alike (This place) sight w h =
            node_alike most _ _ (settled_alike most _ _ (still_alike most w _ h (found_still (object_value sight.this) w)))
        expr_alike (Name place name) sight w h =
            node_alike most _ _ (settled_alike most _ _ (still_alike most w _ h (found_still (value_of_name s sight w name) w)))
        expr_alike (Unary place o x) sight w h =
            node_alike most _ _
            (bind_alike most _ _ (λ v w h. settled_alike most _ _ (operated_alike place (Some (unary_operator o)) (v ∷ []) w h)) _ _ (expr_alike x sight w h))
        expr_alike (Binary place o x y) sight w h =
            node_alike most _ _
            (bind_alike most _ _ (λ v w h. go_on_alike place o v _ _ (λ w h. expr_alike y sight w h) w h) _ _ (expr_alike x sight w h))
        expr_alike (TextCall place o xs) sight w h =
            node_alike most _ _
            (bind_alike most _ _ (λ vs w h. settled_alike most _ _ (operated_alike place (Some (text_operator o)) vs w h)) _ _ (all_alike xs sight w h))
        expr_alike (Call place x method xs) sight w h =
            node_alike most _ _
            (bind_alike most _ _
            (λ v w h. bind_alike most _ _ (λ vs w h. tick_alike most _ _ (apply_alike place v method vs w h)) _ _ (all_alike xs sight w h)) _ _ (expr_alike x sight w h))
        expr_alike (New place l xs) sight w h =
            node_alike most _ _
            (bind_alike most _ _
            (λ vs w h. settled_alike most _ _ (still_alike most w _ h (new_still place sight l vs w (literal_in (scope_of_instance p s sight.instance) l)))) _ _ (all_alike xs sight w h))
        expr_alike (Ascribe place x t) sight w h = node_alike most _ _ (value_alike x sight w h)
        expr_alike (Assign place name x) sight w h =
            node_alike most _ _
            (bind_alike most _ _
            (λ v w h. bind_alike most _ _ (λ u w h. tick_alike most _ _ (give_alike most Nothing w h)) _ _
            (settled_alike most _ _ (still_alike most w _ h (assigned_still sight name v w)))) _ _ (value_alike x sight w h))

        value_alike : (x : code.Value) (sight : Sight) (w : World) → HasShortTexts most w.tapes → Alike most (eval_value p s calls sight x w) (eval_value other s' calls' sight x w)
        value_alike (Plain x) sight w h = expr_alike x sight w h
        value_alike (If place test one other) sight w h =
            node_alike most _ _
            (bind_alike most _ _
            (λ v w h. tick_alike most _ _ (choose_alike most v _ _ _ _ (left_alike most _ _ (λ w h. block_alike one sight w h)) (λ w h. block_alike other sight w h) w h)) _ _
            (expr_alike test sight w h))

        all_alike : (xs : Values) (sight : Sight) (w : World) → HasShortTexts most w.tapes → Alike most (eval_all p s calls sight xs w) (eval_all other s' calls' sight xs w)
        all_alike none sight w h = give_alike most [] w h
        all_alike (more x xs) sight w h =
            bind_alike most _ _ (λ v w h. bind_alike most _ _ (λ vs w h. give_alike most (v ∷ vs) w h) _ _ (all_alike xs sight w h)) _ _ (value_alike x sight w h)

        block_alike : (b : Block) (sight : Sight) (w : World) → HasShortTexts most w.tapes → Alike most (eval_block p s calls sight b w) (eval_block other s' calls' sight b w)
        block_alike (Last x) sight w h = value_alike x sight w h
        block_alike (Then x rest) sight w h = bind_alike most _ _ (λ v w h. tick_alike most _ _ (block_alike rest sight w h)) _ _ (value_alike x sight w h)
        block_alike (Val place n typ x rest) sight w h =
            node_alike most _ _ (bind_alike most _ _ (λ v w h. tick_alike most _ _ (block_alike rest (with_local sight n v) w h)) _ _ (value_alike x sight w h))

    ------------------------------------------------------------
    -- Bodies, and whole programs

    module _ (calls calls' : Calls) (ok : CallsAgree most calls calls') where
      body_alike : (b : Bool) (e : Event) (block : Block) (sight : Sight) (w : World) → HasShortTexts most w.tapes →
          Alike most (if b then whole e (eval_block p s calls sight block w) else stop Wrong w) (if b then whole e (eval_block other s' calls' sight block w) else stop Wrong w)
      body_alike true e block sight w h = whole_alike most e _ _ (block_alike calls calls' ok block sight w h)
      body_alike false e block sight w h = stop_alike most Wrong w h

      entered_alike : (a : ℕ) (t : Thing) (name : List ℕ) (vs : List Value) (w : World) (m : Option Method) → HasShortTexts most w.tapes →
          Alike most (called p s calls a t name vs w m) (called other s' calls' a t name vs w m)
      entered_alike a t name vs w None h = stop_alike most Wrong w h
      entered_alike a t name vs w (Some m) h = body_alike (nat_eq (length vs) (length m.body.signature.params)) _ m.body.block _ w h

      called_alike : (a : ℕ) (name : List ℕ) (vs : List Value) (w : World) (t : Option Thing) → HasShortTexts most w.tapes →
          Alike most (called_on p s calls a name vs w t) (called_on other s' calls' a name vs w t)
      called_alike a name vs w None h = stop_alike most Wrong w h
      called_alike a name vs w (Some t) h = entered_alike a t name vs w (method_in (scope_of_instance p s t.instance) t.literal name) h

      fill_alike : (xs : Values) (sight : Sight) (x : ℕ) (w : World) → HasShortTexts most w.tapes →
          Alike most (fill_all p s calls sight x xs w) (fill_all other s' calls' sight x xs w)
      unfolding fill_all
      fill_alike none sight x w h = give_alike most Nothing w h
      fill_alike (more e es) sight x w h =
          bind_alike most _ _
          (λ v w h. bind_alike most _ _ (λ u w h. fill_alike es sight x w h) _ _
          (settled_alike most _ _ (still_alike most w _ h (filled_still x v w (slice_get w.objects x))))) _ _
          (value_alike calls calls' ok e sight w h)

      start_alike : (x : ℕ) (w : World) (o : Option Start) → HasShortTexts most w.tapes → Alike most (run_start p s calls x w o) (run_start other s' calls' x w o)
      start_alike x w None h = stop_alike most Wrong w h
      start_alike x w (Some (Init values)) h = fill_alike values _ x w h
      start_alike x w (Some (Run block)) h = block_alike calls calls' ok block _ w h

      begin_alike : (is : List Started) (x : ℕ) (w : World) → HasShortTexts most w.tapes → Alike most (begin p s calls x is w) (begin other s' calls' x is w)
      unfolding begin
      begin_alike [] x w h = whole_alike most _ _ _ (start_alike x w (start_of_scope (scope_of_instance p s x)) h)
      begin_alike (i ∷ is) x w h =
          bind_alike most _ _ (λ v w h. begin_alike is (suc x) w h) _ _ (whole_alike most _ _ _ (start_alike x w (start_of_scope (scope_of_instance p s x)) h))

    calls_alike : (n : ℕ) → CallsAgree most (open_calls p s n) (open_calls other s' n)
    unfolding CallsAgree open_calls
    calls_alike zero a name vs w h = stop_alike most TooDeep w h
    calls_alike (suc n) a name vs w h = called_alike (open_calls p s n) (open_calls other s' n) (calls_alike n) a name vs w (slice_get w.objects a) h

    programs_alike : MeansTheSame first second p other st
    unfolding meaning
    programs_alike n tapes short fits =
        of (begin_alike (open_calls p s n) (open_calls other s' n) (calls_alike n) st.instances 0 (world_at_first st tapes) short)
      where
        of : Alike most (begin p s (open_calls p s n) 0 st.instances (world_at_first st tapes)) (begin other s' (open_calls other s' n) 0 st.instances (world_at_first st tapes)) →
            course_of (begin p s (open_calls p s n) 0 st.instances (world_at_first st tapes)) ≡ course_of (begin other s' (open_calls other s' n) 0 st.instances (world_at_first st tapes))
        of (trapped place e) = absurd (fits place (ap end_of e))
        of (same e h) = ap course_of e

pub means_the_same : LongerTextsChangeNothingElse
means_the_same first second p other s scopes le granted =
    let same : record { declarations = other.declarations; scopes = p.scopes } ≡ other =
    ap (λ (ss : List Scope). let q : Program = record { declarations = other.declarations; scopes = ss } in q) scopes in
    subst (λ (q : Program). MeansTheSame first second p q s) same (programs_alike first second le p.declarations other.declarations p.scopes granted s)
