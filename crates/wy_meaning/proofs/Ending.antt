-- How a meaning ends: an operation failed only where it is the last event, and the run ends so; no run ends Spent.
use Rattle.std.proofs.Common.{ℕ, zero, suc, Bool, true, false, List, [], ◌∷◌, ◌++◌, length, Option, Some, None, not, ◌&&◌, refl, sym, ap, ◌∙◌, nat_eq, nat_lt, append_assoc}
use Rattle.std.specs.Prelude.{slice_get, if◌then◌else◌}
use Rattle.wy_text.specs.declared.fault.Place.{Place}
use Rattle.wy_types.specs.declared.code.Binding.{Binding}
use Rattle.wy_types.specs.declared.code.Binding.TheVariants as to
use Rattle.wy_types.specs.declared.code.BinaryOperator.{BinaryOperator}
use Rattle.wy_types.specs.declared.code.BinaryOperator.TheVariants as binary
use Rattle.wy_types.specs.declared.resolved.Literal.{Literal}
use Rattle.wy_types.specs.Code as code
use Rattle.wy_types.specs.Code.{Expr, Number, Quoted, Truth as TruthOf, Nothing as NothingOf, This, Name, Unary, Binary, TextCall, Call, New, Ascribe, Assign, Plain, If, Values, none, more, Block, Last, Then, Val}
use Rattle.wy_types.specs.Program.{Program, Start, Init, Run}
use Rattle.wy_device.specs.declared.deed.Event.{Event}
use Rattle.wy_device.specs.declared.deed.Event.TheVariants.{Enter, Deed, Leave}
use Rattle.wy_device.specs.declared.operation.Answer.{Answer}
use Rattle.wy_device.specs.declared.operation.Answer.TheVariants as answer
use Rattle.wy_device.specs.declared.operation.Op.{Op}
use Rattle.wy_device.specs.Editions.{Edition}
use Rattle.wy_device.specs.Operators.{Operator, Computed, GivesNumber, GivesTruth, Builds, Traps, Misfits}
use Rattle.wy_device.specs.Requests.{operation_of, has_good_name, answers_text, Told, Answers, Fails, Waits}
use Rattle.wy_device.specs.RunEnds.{RunEnd, Ended, Trap, TooDeep, DeviceFailed, Waiting, Spent, Wrong}
use Rattle.wy_device.specs.Traps.{most_texts, most_objects, BadName, Crowded}
use Rattle.wy_meaning.specs.Values.{Value, Int, Truth, Nothing, Text, Object, Grant, Named, Thing, World, Outcome, Gives, Stops, Reply, replied, stopped, found, field_set, write_field, field_added}
use Rattle.wy_meaning.specs.Starts.{Started, Starts, GrantIs, grant_of, scope_of_instance, literal_in}
use Rattle.wy_meaning.specs.Results.{Result, give, stop, node, tick, told, settle, added, carried, bind, whole}
use Rattle.wy_meaning.specs.Operating.{unary_operator, binary_operator, text_operator, computed, operated}
use Rattle.wy_meaning.specs.Performing.{texts_of, deed, value_answered, answered, requested, requested_of, perform}
use Rattle.wy_meaning.specs.Eval.{Sight, Calls, value_of_name, assigned, captured_from, object_with, object_new, choose, go_on, apply, eval, eval_value, eval_all, eval_block, with_local, Method, method_in, called, called_on, open_calls}
use Rattle.wy_meaning.specs.Start.{fill_all, start_of_scope, run_start, begin, end_of, course_of, meaning, world_at_first}
use Rattle.wy_meaning.specs.Laws.{AreAnswered, EndsAs, FailsLast}

-- what an outcome says of its events: where something is given, all operations were answered
abbrev ClosesWith : {A : Type 0} → Outcome A → List Event → Type 0
ClosesWith (Gives a) es = AreAnswered es
ClosesWith (Stops e) es = EndsAs e es

record EndsSo {A : Type 0} (r : Result A) : Type 0 where
  by : ClosesWith r.out r.events

-- a reply does no operation
record Closed (r : Reply) : Type 0 where
  by : ClosesWith r.out []

both_answered : (es later : List Event) → AreAnswered es → AreAnswered later → AreAnswered (es ++ later)
both_answered [] later h g = g
both_answered (Enter i b ∷ es) later h g = both_answered es later h g
both_answered (Leave ∷ es) later h g = both_answered es later h g
both_answered (Deed d ∷ es) later h g = (h.0, both_answered es later h.1 g)

-- events before those of an end, of which all operations were answered
ends_after : (es later : List Event) (e : RunEnd) → AreAnswered es → EndsAs e later → EndsAs e (es ++ later)
ends_after es later (DeviceFailed grant o) h g =
    (es ++ g.0, g.1, g.2, both_answered es g.0 h g.3, ap (λ (l : List Event). es ++ l) g.4 ∙ sym (append_assoc es g.0 (Deed (deed grant g.1 None) ∷ [])))
ends_after es later Spent h g = g
ends_after es later Ended h g = both_answered es later h g
ends_after es later (Trap kind place) h g = both_answered es later h g
ends_after es later TooDeep h g = both_answered es later h g
ends_after es later Waiting h g = both_answered es later h g
ends_after es later Wrong h g = both_answered es later h g

closes_after : {A : Type 0} (es later : List Event) (o : Outcome A) → AreAnswered es → ClosesWith o later → ClosesWith o (es ++ later)
closes_after es later (Gives a) h g = both_answered es later h g
closes_after es later (Stops e) h g = ends_after es later e h g

------------------------------------------------------------
-- How results are put together

give_ends : {A : Type 0} (a : A) (w : World) → EndsSo (give a w)
unfolding give
give_ends a w = record { by = tt }

stop_ends : {A : Type 0} (e : RunEnd) → EndsAs e [] → (w : World) → EndsSo (stop {A = A} e w)
unfolding stop
stop_ends e h w = record { by = h }

settle_ends : (r : Reply) → Closed r → EndsSo (settle r)
unfolding settle
settle_ends r x = record { by = x.by }

node_ends : {A : Type 0} (r : Result A) → EndsSo r → EndsSo (node r)
unfolding node
node_ends r x = record { by = x.by }

tick_ends : {A : Type 0} (r : Result A) → EndsSo r → EndsSo (tick r)
unfolding tick
tick_ends r x = record { by = x.by }

-- the events that are no deeds
data IsQuiet : Event → Type 0 where
  enters : (i b : List ℕ) → IsQuiet (Enter i b)
  leaves : IsQuiet Leave

told_ends : {A : Type 0} (e : Event) (r : Result A) → IsQuiet e → EndsSo r → EndsSo (told e r)
unfolding told
told_ends _ r (enters i b) x = record { by = closes_after (Enter i b ∷ []) r.events r.out tt x.by }
told_ends _ r leaves x = record { by = closes_after (Leave ∷ []) r.events r.out tt x.by }

module _ {A B : Type 0} (f : A → World → Result B) (next : (a : A) (w : World) → EndsSo (f a w)) where
  carried_ends : (o : Outcome A) (w : World) (es : List Event) (c q : ℕ) → ClosesWith o es → EndsSo (carried o w es c q f)
  unfolding added
  carried_ends (Stops e) w es c q x = record { by = x }
  carried_ends (Gives a) w es c q x = record { by = closes_after es (f a w).events (f a w).out x (next a w).by }

  bind_ends : (r : Result A) → EndsSo r → EndsSo (bind r f)
  unfolding bind
  bind_ends r x = carried_ends r.out r.world r.events r.nodes r.steps x.by

------------------------------------------------------------
-- Replies

replied_closed : (v : Value) (w : World) → Closed (replied v w)
replied_closed v w = record { by = tt }

stopped_closed : (e : RunEnd) → ClosesWith {A = Value} (Stops e) [] → (w : World) → Closed (stopped e w)
stopped_closed e h w = record { by = h }

either_closed : (b : Bool) (r s : Reply) → Closed r → Closed s → Closed (if b then r else s)
either_closed true r s x y = x
either_closed false r s x y = y

found_closed : (o : Option Value) (w : World) → Closed (found o w)
found_closed None w = stopped_closed Wrong tt w
found_closed (Some v) w = replied_closed v w

computed_closed : (place : Place) (w : World) (x : Computed) → Closed (computed place w x)
computed_closed place w (GivesNumber n) = replied_closed (Int n) w
computed_closed place w (GivesTruth b) = replied_closed (Truth b) w
computed_closed place w (Builds bytes) = either_closed (nat_lt w.built most_texts) _ _ (record { by = tt }) (record { by = tt })
computed_closed place w (Traps kind) = stopped_closed (Trap kind place) tt w
computed_closed place w Misfits = stopped_closed Wrong tt w

operated_closed : (edition : Edition) (place : Place) (o : Option Operator) (vs : List Value) (w : World) → Closed (operated edition place o vs w)
operated_closed edition place None vs w = stopped_closed Wrong tt w
operated_closed edition place (Some o) vs w = computed_closed place w _

set_closed : (a i : ℕ) (v : Value) (w : World) (t : Option Thing) → Closed (field_set a i v w t)
set_closed a i v w None = stopped_closed Wrong tt w
set_closed a i v w (Some t) = either_closed (nat_lt i (length t.fields)) _ _ (record { by = tt }) (record { by = tt })

write_closed : (this : Option ℕ) (i : ℕ) (v : Value) (w : World) → Closed (write_field this i v w)
write_closed None i v w = stopped_closed Wrong tt w
write_closed (Some a) i v w = set_closed a i v w (slice_get w.objects a)

assigned_closed : (sight : Sight) (name : Binding) (v : Value) (w : World) → Closed (assigned sight name v w)
assigned_closed sight (to.Field i) v w = write_closed sight.this i v w
assigned_closed sight (to.Variable x) v w = stopped_closed Wrong tt w
assigned_closed sight (to.Own k) v w = stopped_closed Wrong tt w

filled_closed : (a : ℕ) (v : Value) (w : World) (t : Option Thing) → Closed (field_added a v w t)
filled_closed a v w None = stopped_closed Wrong tt w
filled_closed a v w (Some t) = record { by = tt }

with_closed : (place : Place) (sight : Sight) (l : ℕ) (fields : List Value) (w : World) (o : Option Named) → Closed (object_with place sight l fields w o)
with_closed place sight l fields w None = stopped_closed Wrong tt w
with_closed place sight l fields w (Some captured) = either_closed (nat_lt w.made most_objects) _ _ (record { by = tt }) (record { by = tt })

new_closed : (place : Place) (sight : Sight) (l : ℕ) (fields : List Value) (w : World) (o : Option Literal) → Closed (object_new place sight l fields w o)
new_closed place sight l fields w None = stopped_closed Wrong tt w
new_closed place sight l fields w (Some literal) =
    either_closed (nat_eq (length fields) (length literal.fields)) _ _ (with_closed place sight l fields w (captured_from sight.variables literal.captures)) (stopped_closed Wrong tt w)

-- one instruction, and a reply
settled_ends : (r : Reply) → Closed r → EndsSo (tick (settle r))
settled_ends r x = tick_ends _ (settle_ends r x)

------------------------------------------------------------
-- Operations on grants

answered_ends : (grant : List ℕ) (op : Op) (w : World) (x : Told) → EndsSo (answered grant op w x)
unfolding settle stop told
answered_ends grant op w (Answers a tapes) = record { by = of a }
  where
    of : (a : Answer) → ClosesWith (value_answered a (record w { tapes = tapes })).out (Deed (deed grant op (Some a)) ∷ [])
    of (answer.Bytes text) = (λ e. cc, tt)
    of (answer.Truth b) = (λ e. cc, tt)
    of (answer.Number n) = (λ e. cc, tt)
    of answer.Unit = (λ e. cc, tt)
answered_ends grant op w (Fails tapes) = record { by = ([], op, refl, tt, refl) }
answered_ends grant op w Waits = stop_ends Waiting tt w

either_ends : {A : Type 0} (b : Bool) (r s : Result A) → EndsSo r → EndsSo s → EndsSo (if b then r else s)
either_ends true r s x y = x
either_ends false r s x y = y

requested_ends : (edition : Edition) (place : Place) (grant : List ℕ) (w : World) (op : Option Op) → EndsSo (requested edition place grant w op)
requested_ends edition place grant w None = stop_ends Wrong tt w
requested_ends edition place grant w (Some op) =
    either_ends (not (has_good_name op)) _ _ (stop_ends (Trap BadName place) tt w)
    (either_ends (answers_text op && not (nat_lt w.built most_texts)) _ _ (stop_ends (Trap Crowded place) tt w) (answered_ends grant op w _))

requested_of_ends : (edition : Edition) (place : Place) (g : Option GrantIs) (method : List ℕ) (w : World) (texts : Option (List (List ℕ))) → EndsSo (requested_of edition place g method w texts)
requested_of_ends edition place None method w texts = stop_ends Wrong tt w
requested_of_ends edition place (Some g) method w None = stop_ends Wrong tt w
requested_of_ends edition place (Some g) method w (Some texts) = requested_ends edition place g.name w (operation_of g.primitive method texts)

perform_ends : (edition : Edition) (place : Place) (g : Option GrantIs) (method : List ℕ) (vs : List Value) (w : World) → EndsSo (perform edition place g method vs w)
unfolding perform
perform_ends edition place g method vs w = requested_of_ends edition place g method w (texts_of vs)

------------------------------------------------------------
-- Expressions

CallsEnd : Calls → Type 0
CallsEnd calls = (a : ℕ) (name : List ℕ) (vs : List Value) (w : World) → EndsSo (calls a name vs w)

-- a function of the world whose results end so
Ending : {A : Type 0} → (World → Result A) → Type 0
Ending f = (w : World) → EndsSo (f w)

choose_ends : {A : Type 0} (v : Value) (f g : World → Result A) (w : World) → Ending f → Ending g → EndsSo (choose v f g w)
unfolding Ending
choose_ends (Truth true) f g w x y = x w
choose_ends (Truth false) f g w x y = y w
choose_ends (Int n) f g w x y = stop_ends Wrong tt w
choose_ends Nothing f g w x y = stop_ends Wrong tt w
choose_ends (Text b) f g w x y = stop_ends Wrong tt w
choose_ends (Object a) f g w x y = stop_ends Wrong tt w
choose_ends (Grant k) f g w x y = stop_ends Wrong tt w

-- a side that is left by a Jump
left_ends : (f : World → Result Value) → Ending f → Ending (λ w. bind (f w) (λ v w. tick (give v w)))
unfolding Ending
left_ends f x w = bind_ends _ (λ v w. tick_ends _ (give_ends v w)) (f w) (x w)

both_ends : (edition : Edition) (place : Place) (o : BinaryOperator) (v : Value) (right : World → Result Value) → Ending right →
    Ending (λ w. bind (right w) (λ u w. tick (settle (operated edition place (binary_operator o) (v ∷ u ∷ []) w))))
unfolding Ending
both_ends edition place o v right x w = bind_ends _ (λ u w. settled_ends _ (operated_closed edition place (binary_operator o) (v ∷ u ∷ []) w)) (right w) (x w)

go_on_ends : (edition : Edition) (place : Place) (o : BinaryOperator) (v : Value) (right : World → Result Value) (w : World) → Ending right → EndsSo (go_on edition place o v right w)
unfolding Ending
go_on_ends edition place binary.And v right w ok =
    tick_ends _ (choose_ends v _ _ w (left_ends right ok) (λ w. tick_ends _ (give_ends (Truth false) w)))
go_on_ends edition place binary.Or v right w ok =
    tick_ends _ (choose_ends v _ _ w (λ w. tick_ends _ (tick_ends _ (give_ends (Truth true) w))) ok)
go_on_ends edition place o v right w ok = both_ends edition place o v right ok w

apply_ends : (p : Program) (s : Starts) (calls : Calls) → CallsEnd calls → (place : Place) (v : Value) (method : List ℕ) (vs : List Value) (w : World) → EndsSo (apply p s calls place v method vs w)
unfolding CallsEnd
apply_ends p s calls ok place (Object a) method vs w = ok a method vs w
apply_ends p s calls ok place (Grant g) method vs w = perform_ends s.edition place (grant_of s.edition p g) method vs w
apply_ends p s calls ok place (Int n) method vs w = stop_ends Wrong tt w
apply_ends p s calls ok place (Truth n) method vs w = stop_ends Wrong tt w
apply_ends p s calls ok place Nothing method vs w = stop_ends Wrong tt w
apply_ends p s calls ok place (Text b) method vs w = stop_ends Wrong tt w

module _ (p : Program) (s : Starts) (calls : Calls) (ok : CallsEnd calls) where
  mutual
    unfolding eval Ending

    expr_ends : (e : Expr) (sight : Sight) (w : World) → EndsSo (eval p s calls sight e w)
    expr_ends (Number place n) sight w = node_ends _ (tick_ends _ (give_ends (Int n) w))
    expr_ends (Quoted place b) sight w = node_ends _ (tick_ends _ (give_ends (Text b) w))
    expr_ends (TruthOf place b) sight w = node_ends _ (tick_ends _ (give_ends (Truth b) w))
    expr_ends (NothingOf place) sight w = node_ends _ (tick_ends _ (give_ends Nothing w))
    expr_ends (This place) sight w = node_ends _ (settled_ends _ (found_closed _ w))
    expr_ends (Name place name) sight w = node_ends _ (settled_ends _ (found_closed (value_of_name s sight w name) w))
    expr_ends (Unary place o x) sight w =
        node_ends _ (bind_ends _ (λ v w. settled_ends _ (operated_closed s.edition place (Some (unary_operator o)) (v ∷ []) w)) _ (expr_ends x sight w))
    expr_ends (Binary place o x y) sight w =
        node_ends _ (bind_ends _ (λ v w. go_on_ends s.edition place o v (eval p s calls sight y) w (λ w. expr_ends y sight w)) _ (expr_ends x sight w))
    expr_ends (TextCall place o xs) sight w =
        node_ends _ (bind_ends _ (λ vs w. settled_ends _ (operated_closed s.edition place (Some (text_operator o)) vs w)) _ (all_ends xs sight w))
    expr_ends (Call place x method xs) sight w =
        node_ends _
        (bind_ends _ (λ v w. bind_ends _ (λ vs w. tick_ends _ (apply_ends p s calls ok place v method vs w)) _ (all_ends xs sight w)) _ (expr_ends x sight w))
    expr_ends (New place l xs) sight w =
        node_ends _
        (bind_ends _ (λ vs w. settled_ends _ (new_closed place sight l vs w (literal_in (scope_of_instance p s sight.instance) l))) _ (all_ends xs sight w))
    expr_ends (Ascribe place x t) sight w = node_ends _ (value_ends x sight w)
    expr_ends (Assign place name x) sight w =
        node_ends _
        (bind_ends _ (λ v w. bind_ends _ (λ u w. tick_ends _ (give_ends Nothing w)) _ (settled_ends _ (assigned_closed sight name v w))) _ (value_ends x sight w))

    value_ends : (x : code.Value) (sight : Sight) (w : World) → EndsSo (eval_value p s calls sight x w)
    value_ends (Plain x) sight w = expr_ends x sight w
    value_ends (If place test first second) sight w =
        node_ends _
        (bind_ends _
        (λ v w. tick_ends _ (choose_ends v _ _ w (left_ends (eval_block p s calls sight first) (λ w. block_ends first sight w)) (λ w. block_ends second sight w))) _ (expr_ends test sight w))

    all_ends : (xs : Values) (sight : Sight) (w : World) → EndsSo (eval_all p s calls sight xs w)
    all_ends none sight w = give_ends [] w
    all_ends (more x xs) sight w =
        bind_ends _ (λ v w. bind_ends _ (λ vs w. give_ends (v ∷ vs) w) _ (all_ends xs sight w)) _ (value_ends x sight w)

    block_ends : (b : Block) (sight : Sight) (w : World) → EndsSo (eval_block p s calls sight b w)
    block_ends (Last x) sight w = value_ends x sight w
    block_ends (Then x rest) sight w = bind_ends _ (λ v w. tick_ends _ (block_ends rest sight w)) _ (value_ends x sight w)
    block_ends (Val place n typ x rest) sight w =
        node_ends _ (bind_ends _ (λ v w. tick_ends _ (block_ends rest (with_local sight n v) w)) _ (value_ends x sight w))

------------------------------------------------------------
-- Bodies, and whole programs

whole_ends : (i b : List ℕ) (r : Result Value) → EndsSo r → EndsSo (whole (Enter i b) r)
unfolding whole
whole_ends i b r x = told_ends (Enter i b) _ (enters i b) (node_ends _ (bind_ends _ (λ v w. tick_ends _ (told_ends Leave _ leaves (give_ends v w))) r x))

module _ (p : Program) (s : Starts) where
  body_ends : (calls : Calls) → CallsEnd calls → (b : Bool) (i name : List ℕ) (block : Block) (sight : Sight) (w : World) →
      EndsSo (if b then whole (Enter i name) (eval_block p s calls sight block w) else stop Wrong w)
  body_ends calls ok true i name block sight w = whole_ends i name _ (block_ends p s calls ok block sight w)
  body_ends calls ok false i name block sight w = stop_ends Wrong tt w

  entered_ends : (calls : Calls) → CallsEnd calls → (a : ℕ) (t : Thing) (name : List ℕ) (vs : List Value) (w : World) (m : Option Method) → EndsSo (called p s calls a t name vs w m)
  entered_ends calls ok a t name vs w None = stop_ends Wrong tt w
  entered_ends calls ok a t name vs w (Some m) = body_ends calls ok (nat_eq (length vs) (length m.body.signature.params)) _ _ m.body.block _ w

  called_ends : (calls : Calls) → CallsEnd calls → (a : ℕ) (name : List ℕ) (vs : List Value) (w : World) (t : Option Thing) → EndsSo (called_on p s calls a name vs w t)
  called_ends calls ok a name vs w None = stop_ends Wrong tt w
  called_ends calls ok a name vs w (Some t) = entered_ends calls ok a t name vs w (method_in (scope_of_instance p s t.instance) t.literal name)

  calls_end : (n : ℕ) → CallsEnd (open_calls p s n)
  unfolding CallsEnd open_calls
  calls_end zero a name vs w = stop_ends TooDeep tt w
  calls_end (suc n) a name vs w = called_ends (open_calls p s n) (calls_end n) a name vs w (slice_get w.objects a)

  module _ (calls : Calls) (ok : CallsEnd calls) where
    fill_ends : (xs : Values) (sight : Sight) (x : ℕ) (w : World) → EndsSo (fill_all p s calls sight x xs w)
    unfolding fill_all
    fill_ends none sight x w = give_ends Nothing w
    fill_ends (more e es) sight x w =
        bind_ends _
        (λ v w. bind_ends _ (λ u w. fill_ends es sight x w) _ (settled_ends _ (filled_closed x v w (slice_get w.objects x)))) _ (value_ends p s calls ok e sight w)

    start_ends : (x : ℕ) (w : World) (o : Option Start) → EndsSo (run_start p s calls x w o)
    start_ends x w None = stop_ends Wrong tt w
    start_ends x w (Some (Init values)) = fill_ends values _ x w
    start_ends x w (Some (Run block)) = block_ends p s calls ok block _ w

    begin_ends : (is : List Started) (x : ℕ) (w : World) → EndsSo (begin p s calls x is w)
    unfolding begin
    begin_ends [] x w = whole_ends _ _ _ (start_ends x w (start_of_scope (scope_of_instance p s x)))
    begin_ends (i ∷ is) x w =
        bind_ends _ (λ v w. begin_ends is (suc x) w) _ (whole_ends _ _ _ (start_ends x w (start_of_scope (scope_of_instance p s x))))

pub meaning_ends : (n : ℕ) (p : Program) (s : Starts) → FailsLast n p s
unfolding meaning
meaning_ends n p s tapes = course (begin p s (open_calls p s n) 0 s.instances (world_at_first s tapes)) (begin_ends p s (open_calls p s n) (calls_end p s n) s.instances 0 (world_at_first s tapes))
  where
    of : (o : Outcome Value) (es : List Event) → ClosesWith o es → EndsAs (end_of o) es
    of (Gives v) es h = h
    of (Stops e) es h = h

    course : (r : Result Value) → EndsSo r → EndsAs (course_of r).end (course_of r).events
    course r h = of r.out r.events h.by
