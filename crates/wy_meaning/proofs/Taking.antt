-- The answers to the deeds of a run are the first ones of its tapes, kind by kind in their order.
use Rattle.std.proofs.Common.{◌≡◌, ℕ, zero, suc, Bool, true, false, List, [], ◌∷◌, ◌++◌, length, Option, Some, None, not, ◌&&◌, refl, sym, ap, ◌∙◌, nat_eq, nat_lt, append_assoc}
use Rattle.std.specs.Prelude.{slice_get, if◌then◌else◌}
use Rattle.wy_text.specs.declared.fault.Place.{Place}
use Rattle.wy_types.specs.declared.code.Binding.{Binding}
use Rattle.wy_types.specs.declared.code.Binding.TheVariants as to
use Rattle.wy_types.specs.declared.code.BinaryOperator.{BinaryOperator}
use Rattle.wy_types.specs.declared.code.BinaryOperator.TheVariants as binary
use Rattle.wy_types.specs.declared.resolved.Literal.{Literal}
use Rattle.wy_types.specs.Code as code
use Rattle.wy_types.specs.Code.{Expr, Number, Quoted, Truth as TruthOf, Nothing as NothingOf, This, Name, Unary, Binary, TextCall, Call, New, Ascribe, Assign, Plain, If, Values, none, more, Block, Last, Then, Val}
use Rattle.wy_types.specs.Program.{Program, Start, Init, Run}
use Rattle.wy_device.specs.declared.deed.Deed.{Deed as DeedRecord}
use Rattle.wy_device.specs.declared.deed.Event.{Event}
use Rattle.wy_device.specs.declared.deed.Event.TheVariants.{Enter, Deed, Leave}
use Rattle.wy_device.specs.declared.operation.Answer.{Answer}
use Rattle.wy_device.specs.declared.operation.Answer.TheVariants as answer
use Rattle.wy_device.specs.declared.operation.Kind.{Kind}
use Rattle.wy_device.specs.declared.operation.Kind.TheVariants.{Console, Folder, Clock, Random}
use Rattle.wy_device.specs.declared.operation.Op.{Op}
use Rattle.wy_device.specs.Editions.{Edition}
use Rattle.wy_device.specs.Events.{deeds_of, same_kind}
use Rattle.wy_device.specs.Operation.{name_of, kind_of}
use Rattle.wy_device.specs.Operators.{Operator, Computed, GivesNumber, GivesTruth, Builds, Traps, Misfits}
use Rattle.wy_device.specs.Requests.{operation_of, has_good_name, answers_text, fits_within, Told, Answers, Fails, Waits, asked_within, told_by, tape_of, with_tape}
use Rattle.wy_device.specs.RunEnds.{RunEnd, Wrong, Waiting, Trap, TooDeep}
use Rattle.wy_device.specs.Tapes.{Tapes, answers}
use Rattle.wy_device.specs.Traps.{most_texts, most_objects, BadName, Crowded}
use Rattle.wy_meaning.specs.Values.{Value, Int, Truth, Nothing, Text, Object, Grant, Named, Thing, World, Outcome, Gives, Stops, Reply, replied, stopped, found, field_set, write_field, field_added}
use Rattle.wy_meaning.specs.Starts.{Started, Starts, GrantIs, grant_of, scope_of_instance, literal_in}
use Rattle.wy_meaning.specs.Results.{Result, give, stop, node, tick, told, settle, added, carried, bind, whole}
use Rattle.wy_meaning.specs.Operating.{unary_operator, binary_operator, text_operator, computed, operated}
use Rattle.wy_meaning.specs.Performing.{texts_of, deed, value_answered, answered, requested, requested_of, perform}
use Rattle.wy_meaning.specs.Eval.{Sight, Calls, value_of_name, assigned, captured_from, object_with, object_new, choose, go_on, apply, eval, eval_value, eval_all, eval_block, with_local, Method, method_in, called, called_on, open_calls}
use Rattle.wy_meaning.specs.Start.{fill_all, start_of_scope, run_start, begin, meaning, world_at_first}
use Rattle.wy_meaning.specs.Laws.{TakesInOrder}

-- the answers that events took
abbrev taken : Kind → List Event → List (Option Answer)
taken kind es = answers (deeds_of kind es)

-- over these tapes: what the events took, and then what is left
record Takes {A : Type 0} (tapes : Tapes) (r : Result A) : Type 0 where
  by : (kind : Kind) → tape_of kind tapes ≡ taken kind r.events ++ tape_of kind r.world.tapes

-- a reply that takes no answer
pub record Still (t : Tapes) (r : Reply) : Type 0 where
  pub tapes : r.world.tapes ≡ t

deeds_added : (kind : Kind) (events later : List Event) → taken kind (events ++ later) ≡ taken kind events ++ taken kind later
deeds_added kind [] later = refl
deeds_added kind (Enter i b ∷ events) later = deeds_added kind events later
deeds_added kind (Leave ∷ events) later = deeds_added kind events later
deeds_added kind (Deed d ∷ events) later = of (same_kind kind (kind_of d.op)) (deeds_added kind events later)
  where
    of : (b : Bool) → taken kind (events ++ later) ≡ taken kind events ++ taken kind later →
        answers (if b then d ∷ deeds_of kind (events ++ later) else deeds_of kind (events ++ later)) ≡
        answers (if b then d ∷ deeds_of kind events else deeds_of kind events) ++ taken kind later
    of true e = ap (λ (xs : List (Option Answer)). d.answer ∷ xs) e
    of false e = e

------------------------------------------------------------
-- How results are put together

give_takes : {A : Type 0} (a : A) (w : World) → Takes w.tapes (give a w)
unfolding give
give_takes a w = record { by = λ kind. refl }

stop_takes : {A : Type 0} (e : RunEnd) (w : World) → Takes w.tapes (stop {A = A} e w)
unfolding stop
stop_takes e w = record { by = λ kind. refl }

settle_takes : (t : Tapes) (r : Reply) → Still t r → Takes t (settle r)
unfolding settle
settle_takes t r x = record { by = λ kind. ap (tape_of kind) (sym x.tapes) }

node_takes : {A : Type 0} (t : Tapes) (r : Result A) → Takes t r → Takes t (node r)
unfolding node
node_takes t r x = record { by = x.by }

tick_takes : {A : Type 0} (t : Tapes) (r : Result A) → Takes t r → Takes t (tick r)
unfolding tick
tick_takes t r x = record { by = x.by }

-- the events that are no deeds
data IsQuiet : Event → Type 0 where
  enters : (i b : List ℕ) → IsQuiet (Enter i b)
  leaves : IsQuiet Leave

told_takes : {A : Type 0} (t : Tapes) (e : Event) (r : Result A) → IsQuiet e → Takes t r → Takes t (told e r)
unfolding told
told_takes t _ r (enters i b) x = record { by = x.by }
told_takes t _ r leaves x = record { by = x.by }

module _ {A B : Type 0} (t : Tapes) (f : A → World → Result B) (next : (a : A) (w : World) → Takes w.tapes (f a w)) where
  carried_takes : (o : Outcome A) (w : World) (es : List Event) (c q : ℕ) → ((kind : Kind) → tape_of kind t ≡ taken kind es ++ tape_of kind w.tapes) → Takes t (carried o w es c q f)
  unfolding added
  carried_takes (Stops e) w es c q x = record { by = x }
  carried_takes (Gives a) w es c q x = record {
    by = λ kind.
        x kind ∙ ap (λ (xs : List (Option Answer)). taken kind es ++ xs) ((next a w).by kind)
        ∙ sym (append_assoc (taken kind es) (taken kind (f a w).events) (tape_of kind (f a w).world.tapes))
        ∙ ap (λ (xs : List (Option Answer)). xs ++ tape_of kind (f a w).world.tapes) (sym (deeds_added kind es (f a w).events));
  }

  bind_takes : (r : Result A) → Takes t r → Takes t (bind r f)
  unfolding bind
  bind_takes r x = carried_takes r.out r.world r.events r.nodes r.steps x.by

------------------------------------------------------------
-- Replies that take nothing

replied_still : (v : Value) (w : World) → Still w.tapes (replied v w)
replied_still v w = record { tapes = refl }

stopped_still : (e : RunEnd) (w : World) → Still w.tapes (stopped e w)
stopped_still e w = record { tapes = refl }

either_still : (b : Bool) (t : Tapes) (r s : Reply) → Still t r → Still t s → Still t (if b then r else s)
either_still true t r s x y = x
either_still false t r s x y = y

pub found_still : (o : Option Value) (w : World) → Still w.tapes (found o w)
found_still None w = stopped_still Wrong w
found_still (Some v) w = replied_still v w

pub computed_still : (place : Place) (w : World) (x : Computed) → Still w.tapes (computed place w x)
computed_still place w (GivesNumber n) = replied_still (Int n) w
computed_still place w (GivesTruth b) = replied_still (Truth b) w
computed_still place w (Builds bytes) = either_still (nat_lt w.built most_texts) w.tapes _ _ (record { tapes = refl }) (record { tapes = refl })
computed_still place w (Traps kind) = stopped_still (Trap kind place) w
computed_still place w Misfits = stopped_still Wrong w

operated_still : (edition : Edition) (place : Place) (o : Option Operator) (vs : List Value) (w : World) → Still w.tapes (operated edition place o vs w)
operated_still edition place None vs w = stopped_still Wrong w
operated_still edition place (Some o) vs w = computed_still place w _

set_still : (a i : ℕ) (v : Value) (w : World) (t : Option Thing) → Still w.tapes (field_set a i v w t)
set_still a i v w None = stopped_still Wrong w
set_still a i v w (Some t) = either_still (nat_lt i (length t.fields)) w.tapes _ _ (record { tapes = refl }) (record { tapes = refl })

write_still : (this : Option ℕ) (i : ℕ) (v : Value) (w : World) → Still w.tapes (write_field this i v w)
write_still None i v w = stopped_still Wrong w
write_still (Some a) i v w = set_still a i v w (slice_get w.objects a)

pub assigned_still : (sight : Sight) (name : Binding) (v : Value) (w : World) → Still w.tapes (assigned sight name v w)
assigned_still sight (to.Field i) v w = write_still sight.this i v w
assigned_still sight (to.Variable x) v w = stopped_still Wrong w
assigned_still sight (to.Own k) v w = stopped_still Wrong w

pub filled_still : (a : ℕ) (v : Value) (w : World) (t : Option Thing) → Still w.tapes (field_added a v w t)
filled_still a v w None = stopped_still Wrong w
filled_still a v w (Some t) = record { tapes = refl }

with_still : (place : Place) (sight : Sight) (l : ℕ) (fields : List Value) (w : World) (o : Option Named) → Still w.tapes (object_with place sight l fields w o)
with_still place sight l fields w None = stopped_still Wrong w
with_still place sight l fields w (Some captured) = either_still (nat_lt w.made most_objects) w.tapes _ _ (record { tapes = refl }) (record { tapes = refl })

pub new_still : (place : Place) (sight : Sight) (l : ℕ) (fields : List Value) (w : World) (o : Option Literal) → Still w.tapes (object_new place sight l fields w o)
new_still place sight l fields w None = stopped_still Wrong w
new_still place sight l fields w (Some literal) =
    either_still (nat_eq (length fields) (length literal.fields)) w.tapes _ _ (with_still place sight l fields w (captured_from sight.variables literal.captures)) (stopped_still Wrong w)

-- one instruction, and a reply that takes nothing
settled_takes : (t : Tapes) (r : Reply) → Still t r → Takes t (tick (settle r))
settled_takes t r x = tick_takes t _ (settle_takes t r x)

------------------------------------------------------------
-- Operations on grants

pub answer_still : (a : Answer) (w : World) → Still w.tapes (value_answered a w)
answer_still (answer.Bytes text) w = record { tapes = refl }
answer_still (answer.Truth b) w = replied_still (Truth b) w
answer_still (answer.Number n) w = replied_still (Int n) w
answer_still answer.Unit w = replied_still Nothing w

-- one answer of a kind is taken
tape_taken : (kind other : Kind) (a : Option Answer) (rest : List (Option Answer)) (t : Tapes) → tape_of kind t ≡ a ∷ rest →
    tape_of other t ≡ (if same_kind other kind then a ∷ [] else []) ++ tape_of other (with_tape kind rest t)
tape_taken Console Console a rest t e = e
tape_taken Console Folder a rest t e = refl
tape_taken Console Clock a rest t e = refl
tape_taken Console Random a rest t e = refl
tape_taken Folder Console a rest t e = refl
tape_taken Folder Folder a rest t e = e
tape_taken Folder Clock a rest t e = refl
tape_taken Folder Random a rest t e = refl
tape_taken Clock Console a rest t e = refl
tape_taken Clock Folder a rest t e = refl
tape_taken Clock Clock a rest t e = e
tape_taken Clock Random a rest t e = refl
tape_taken Random Console a rest t e = refl
tape_taken Random Folder a rest t e = refl
tape_taken Random Clock a rest t e = refl
tape_taken Random Random a rest t e = e

-- the answers of one deed
one_answer : (kind : Kind) (d : DeedRecord) → taken kind (Deed d ∷ []) ≡ (if same_kind kind (kind_of d.op) then d.answer ∷ [] else [])
one_answer kind d = of (same_kind kind (kind_of d.op))
  where
    of : (b : Bool) → answers (if b then d ∷ [] else []) ≡ (if b then d.answer ∷ [] else [])
    of true = refl
    of false = refl

-- what the tapes tell: the first answer of the operation's kind
pub data IsTold (op : Op) (t : Tapes) : Told → Type 0 where
  tells : (a : Answer) (rest : List (Option Answer)) → tape_of (kind_of op) t ≡ Some a ∷ rest → IsTold op t (Answers a (with_tape (kind_of op) rest t))
  tells_failure : (rest : List (Option Answer)) → tape_of (kind_of op) t ≡ None ∷ rest → IsTold op t (Fails (with_tape (kind_of op) rest t))
  tells_nothing : IsTold op t Waits

fits_told : (op : Op) (t : Tapes) (a : Answer) (rest : List (Option Answer)) (b : Bool) → tape_of (kind_of op) t ≡ Some a ∷ rest →
    IsTold op t (if b then Answers a (with_tape (kind_of op) rest t) else Waits)
fits_told op t a rest true e = tells a rest e
fits_told op t a rest false e = tells_nothing

pub is_told : (most : ℕ) (op : Op) (t : Tapes) → IsTold op t (asked_within most op t)
is_told most op t = of (tape_of (kind_of op) t) refl
  where
    of : (tape : List (Option Answer)) → tape_of (kind_of op) t ≡ tape → IsTold op t (told_by most (name_of op) (kind_of op) tape t)
    of [] e = tells_nothing
    of (None ∷ rest) e = tells_failure rest e
    of (Some a ∷ rest) e = fits_told op t a rest (fits_within most (name_of op) a) e

deed_takes : {A : Type 0} (d : DeedRecord) (t : Tapes) (rest : List (Option Answer)) (r : Result A) → tape_of (kind_of d.op) t ≡ d.answer ∷ rest →
    r.events ≡ [] → r.world.tapes ≡ with_tape (kind_of d.op) rest t → Takes t (told (Deed d) r)
unfolding told
deed_takes d t rest r e empty same = record {
  by = λ kind.
      tape_taken (kind_of d.op) kind d.answer rest t e
      ∙ ap (λ (xs : List (Option Answer)). xs ++ tape_of kind (with_tape (kind_of d.op) rest t)) (sym (one_answer kind d))
      ∙ ap (λ (u : Tapes). taken kind (Deed d ∷ []) ++ tape_of kind u) (sym same)
      ∙ ap (λ (es : List Event). taken kind (Deed d ∷ es) ++ tape_of kind r.world.tapes) (sym empty);
}

answered_takes : (grant : List ℕ) (op : Op) (w : World) (x : Told) → IsTold op w.tapes x → Takes w.tapes (answered grant op w x)
unfolding settle stop
answered_takes grant op w _ (tells a rest e) =
    deed_takes (deed grant op (Some a)) w.tapes rest _ e refl ((answer_still a (record w { tapes = with_tape (kind_of op) rest w.tapes })).tapes)
answered_takes grant op w _ (tells_failure rest e) = deed_takes (deed grant op None) w.tapes rest _ e refl refl
answered_takes grant op w _ tells_nothing = stop_takes Waiting w

either_takes : {A : Type 0} (b : Bool) (t : Tapes) (r s : Result A) → Takes t r → Takes t s → Takes t (if b then r else s)
either_takes true t r s x y = x
either_takes false t r s x y = y

requested_takes : (edition : Edition) (place : Place) (grant : List ℕ) (w : World) (op : Option Op) → Takes w.tapes (requested edition place grant w op)
requested_takes edition place grant w None = stop_takes Wrong w
requested_takes edition place grant w (Some op) =
    either_takes (not (has_good_name op)) w.tapes _ _ (stop_takes (Trap BadName place) w)
    (either_takes (answers_text op && not (nat_lt w.built most_texts)) w.tapes _ _ (stop_takes (Trap Crowded place) w) (answered_takes grant op w _ (is_told edition.longest op w.tapes)))

requested_of_takes : (edition : Edition) (place : Place) (g : Option GrantIs) (method : List ℕ) (w : World) (texts : Option (List (List ℕ))) → Takes w.tapes (requested_of edition place g method w texts)
requested_of_takes edition place None method w texts = stop_takes Wrong w
requested_of_takes edition place (Some g) method w None = stop_takes Wrong w
requested_of_takes edition place (Some g) method w (Some texts) = requested_takes edition place g.name w (operation_of g.primitive method texts)

perform_takes : (edition : Edition) (place : Place) (g : Option GrantIs) (method : List ℕ) (vs : List Value) (w : World) → Takes w.tapes (perform edition place g method vs w)
unfolding perform
perform_takes edition place g method vs w = requested_of_takes edition place g method w (texts_of vs)

------------------------------------------------------------
-- Expressions

CallsTake : Calls → Type 0
CallsTake calls = (a : ℕ) (name : List ℕ) (vs : List Value) (w : World) → Takes w.tapes (calls a name vs w)

-- a function of the world that takes what it takes
Taking : {A : Type 0} → (World → Result A) → Type 0
Taking f = (w : World) → Takes w.tapes (f w)

choose_takes : {A : Type 0} (v : Value) (f g : World → Result A) (w : World) → Taking f → Taking g → Takes w.tapes (choose v f g w)
unfolding Taking
choose_takes (Truth true) f g w x y = x w
choose_takes (Truth false) f g w x y = y w
choose_takes (Int n) f g w x y = stop_takes Wrong w
choose_takes Nothing f g w x y = stop_takes Wrong w
choose_takes (Text b) f g w x y = stop_takes Wrong w
choose_takes (Object a) f g w x y = stop_takes Wrong w
choose_takes (Grant k) f g w x y = stop_takes Wrong w

-- a side that is left by a Jump
left_takes : (f : World → Result Value) → Taking f → Taking (λ w. bind (f w) (λ v w. tick (give v w)))
unfolding Taking
left_takes f x w = bind_takes w.tapes _ (λ v w. tick_takes w.tapes _ (give_takes v w)) (f w) (x w)

both_takes : (edition : Edition) (place : Place) (o : BinaryOperator) (v : Value) (right : World → Result Value) → Taking right →
    Taking (λ w. bind (right w) (λ u w. tick (settle (operated edition place (binary_operator o) (v ∷ u ∷ []) w))))
unfolding Taking
both_takes edition place o v right x w = bind_takes w.tapes _ (λ u w. settled_takes w.tapes _ (operated_still edition place (binary_operator o) (v ∷ u ∷ []) w)) (right w) (x w)

go_on_takes : (edition : Edition) (place : Place) (o : BinaryOperator) (v : Value) (right : World → Result Value) (w : World) → Taking right → Takes w.tapes (go_on edition place o v right w)
unfolding Taking
go_on_takes edition place binary.And v right w ok =
    tick_takes w.tapes _ (choose_takes v _ _ w (left_takes right ok) (λ w. tick_takes w.tapes _ (give_takes (Truth false) w)))
go_on_takes edition place binary.Or v right w ok =
    tick_takes w.tapes _ (choose_takes v _ _ w (λ w. tick_takes w.tapes _ (tick_takes w.tapes _ (give_takes (Truth true) w))) ok)
go_on_takes edition place o v right w ok = both_takes edition place o v right ok w

apply_takes : (p : Program) (s : Starts) (calls : Calls) → CallsTake calls → (place : Place) (v : Value) (method : List ℕ) (vs : List Value) (w : World) → Takes w.tapes (apply p s calls place v method vs w)
unfolding CallsTake
apply_takes p s calls ok place (Object a) method vs w = ok a method vs w
apply_takes p s calls ok place (Grant g) method vs w = perform_takes s.edition place (grant_of s.edition p g) method vs w
apply_takes p s calls ok place (Int n) method vs w = stop_takes Wrong w
apply_takes p s calls ok place (Truth n) method vs w = stop_takes Wrong w
apply_takes p s calls ok place Nothing method vs w = stop_takes Wrong w
apply_takes p s calls ok place (Text b) method vs w = stop_takes Wrong w

module _ (p : Program) (s : Starts) (calls : Calls) (ok : CallsTake calls) where
  mutual
    unfolding eval Taking

    expr_takes : (e : Expr) (sight : Sight) (w : World) → Takes w.tapes (eval p s calls sight e w)
    expr_takes (Number place n) sight w = node_takes w.tapes _ (tick_takes w.tapes _ (give_takes (Int n) w))
    expr_takes (Quoted place b) sight w = node_takes w.tapes _ (tick_takes w.tapes _ (give_takes (Text b) w))
    expr_takes (TruthOf place b) sight w = node_takes w.tapes _ (tick_takes w.tapes _ (give_takes (Truth b) w))
    expr_takes (NothingOf place) sight w = node_takes w.tapes _ (tick_takes w.tapes _ (give_takes Nothing w))
    expr_takes (This place) sight w = node_takes w.tapes _ (settled_takes w.tapes _ (found_still _ w))
    expr_takes (Name place name) sight w = node_takes w.tapes _ (settled_takes w.tapes _ (found_still (value_of_name s sight w name) w))
    expr_takes (Unary place o x) sight w =
        node_takes w.tapes _ (bind_takes w.tapes _ (λ v w. settled_takes w.tapes _ (operated_still s.edition place (Some (unary_operator o)) (v ∷ []) w)) _ (expr_takes x sight w))
    expr_takes (Binary place o x y) sight w =
        node_takes w.tapes _ (bind_takes w.tapes _ (λ v w. go_on_takes s.edition place o v (eval p s calls sight y) w (λ w. expr_takes y sight w)) _ (expr_takes x sight w))
    expr_takes (TextCall place o xs) sight w =
        node_takes w.tapes _ (bind_takes w.tapes _ (λ vs w. settled_takes w.tapes _ (operated_still s.edition place (Some (text_operator o)) vs w)) _ (all_takes xs sight w))
    expr_takes (Call place x method xs) sight w =
        node_takes w.tapes _
        (bind_takes w.tapes _ (λ v w. bind_takes w.tapes _ (λ vs w. tick_takes w.tapes _ (apply_takes p s calls ok place v method vs w)) _ (all_takes xs sight w)) _ (expr_takes x sight w))
    expr_takes (New place l xs) sight w =
        node_takes w.tapes _
        (bind_takes w.tapes _ (λ vs w. settled_takes w.tapes _ (new_still place sight l vs w (literal_in (scope_of_instance p s sight.instance) l))) _ (all_takes xs sight w))
    expr_takes (Ascribe place x t) sight w = node_takes w.tapes _ (value_takes x sight w)
    expr_takes (Assign place name x) sight w =
        node_takes w.tapes _
        (bind_takes w.tapes _ (λ v w. bind_takes w.tapes _ (λ u w. tick_takes w.tapes _ (give_takes Nothing w)) _ (settled_takes w.tapes _ (assigned_still sight name v w))) _ (value_takes x sight w))

    value_takes : (x : code.Value) (sight : Sight) (w : World) → Takes w.tapes (eval_value p s calls sight x w)
    value_takes (Plain x) sight w = expr_takes x sight w
    value_takes (If place test first second) sight w =
        node_takes w.tapes _
        (bind_takes w.tapes _
        (λ v w. tick_takes w.tapes _ (choose_takes v _ _ w (left_takes (eval_block p s calls sight first) (λ w. block_takes first sight w)) (λ w. block_takes second sight w))) _ (expr_takes test sight w))

    all_takes : (xs : Values) (sight : Sight) (w : World) → Takes w.tapes (eval_all p s calls sight xs w)
    all_takes none sight w = give_takes [] w
    all_takes (more x xs) sight w =
        bind_takes w.tapes _ (λ v w. bind_takes w.tapes _ (λ vs w. give_takes (v ∷ vs) w) _ (all_takes xs sight w)) _ (value_takes x sight w)

    block_takes : (b : Block) (sight : Sight) (w : World) → Takes w.tapes (eval_block p s calls sight b w)
    block_takes (Last x) sight w = value_takes x sight w
    block_takes (Then x rest) sight w = bind_takes w.tapes _ (λ v w. tick_takes w.tapes _ (block_takes rest sight w)) _ (value_takes x sight w)
    block_takes (Val place n typ x rest) sight w =
        node_takes w.tapes _ (bind_takes w.tapes _ (λ v w. tick_takes w.tapes _ (block_takes rest (with_local sight n v) w)) _ (value_takes x sight w))

------------------------------------------------------------
-- Bodies, and whole programs

whole_takes : (t : Tapes) (i b : List ℕ) (r : Result Value) → Takes t r → Takes t (whole (Enter i b) r)
unfolding whole
whole_takes t i b r x =
    told_takes t (Enter i b) _ (enters i b) (node_takes t _ (bind_takes t _ (λ v w. tick_takes w.tapes _ (told_takes w.tapes Leave _ leaves (give_takes v w))) r x))

module _ (p : Program) (s : Starts) where
  body_takes : (calls : Calls) → CallsTake calls → (b : Bool) (i name : List ℕ) (block : Block) (sight : Sight) (w : World) →
      Takes w.tapes (if b then whole (Enter i name) (eval_block p s calls sight block w) else stop Wrong w)
  body_takes calls ok true i name block sight w = whole_takes w.tapes i name _ (block_takes p s calls ok block sight w)
  body_takes calls ok false i name block sight w = stop_takes Wrong w

  entered_takes : (calls : Calls) → CallsTake calls → (a : ℕ) (t : Thing) (name : List ℕ) (vs : List Value) (w : World) (m : Option Method) → Takes w.tapes (called p s calls a t name vs w m)
  entered_takes calls ok a t name vs w None = stop_takes Wrong w
  entered_takes calls ok a t name vs w (Some m) = body_takes calls ok (nat_eq (length vs) (length m.body.signature.params)) _ _ m.body.block _ w

  called_takes : (calls : Calls) → CallsTake calls → (a : ℕ) (name : List ℕ) (vs : List Value) (w : World) (t : Option Thing) → Takes w.tapes (called_on p s calls a name vs w t)
  called_takes calls ok a name vs w None = stop_takes Wrong w
  called_takes calls ok a name vs w (Some t) = entered_takes calls ok a t name vs w (method_in (scope_of_instance p s t.instance) t.literal name)

  calls_take : (n : ℕ) → CallsTake (open_calls p s n)
  unfolding CallsTake open_calls
  calls_take zero a name vs w = stop_takes TooDeep w
  calls_take (suc n) a name vs w = called_takes (open_calls p s n) (calls_take n) a name vs w (slice_get w.objects a)

  module _ (calls : Calls) (ok : CallsTake calls) where
    fill_takes : (xs : Values) (sight : Sight) (x : ℕ) (w : World) → Takes w.tapes (fill_all p s calls sight x xs w)
    unfolding fill_all
    fill_takes none sight x w = give_takes Nothing w
    fill_takes (more e es) sight x w =
        bind_takes w.tapes _
        (λ v w. bind_takes w.tapes _ (λ u w. fill_takes es sight x w) _ (settled_takes w.tapes _ (filled_still x v w (slice_get w.objects x)))) _ (value_takes p s calls ok e sight w)

    start_takes : (x : ℕ) (w : World) (o : Option Start) → Takes w.tapes (run_start p s calls x w o)
    start_takes x w None = stop_takes Wrong w
    start_takes x w (Some (Init values)) = fill_takes values _ x w
    start_takes x w (Some (Run block)) = block_takes p s calls ok block _ w

    begin_takes : (is : List Started) (x : ℕ) (w : World) → Takes w.tapes (begin p s calls x is w)
    unfolding begin
    begin_takes [] x w = whole_takes w.tapes _ _ _ (start_takes x w (start_of_scope (scope_of_instance p s x)))
    begin_takes (i ∷ is) x w =
        bind_takes w.tapes _ (λ v w. begin_takes is (suc x) w) _ (whole_takes w.tapes _ _ _ (start_takes x w (start_of_scope (scope_of_instance p s x))))

pub meaning_takes : (n : ℕ) (p : Program) (s : Starts) → TakesInOrder n p s
unfolding meaning
meaning_takes n p s tapes kind =
    let r = begin p s (open_calls p s n) 0 s.instances (world_at_first s tapes) in
    (tape_of kind r.world.tapes, (begin_takes p s (open_calls p s n) (calls_take p s n) s.instances 0 (world_at_first s tapes)).by kind)
