-- A node costs at most four instructions.
use Rattle.std.proofs.Common.{ℕ, zero, suc, ◌+◌, ◌*◌, ◌≤◌, Bool, true, false, List, [], ◌∷◌, length, Option, Some, None, not, ◌&&◌, arith, nat_eq, nat_lt}
use Rattle.std.specs.Prelude.{slice_get, if◌then◌else◌}
use Rattle.wy_text.specs.declared.fault.Place.{Place}
use Rattle.wy_types.specs.declared.code.BinaryOperator.{BinaryOperator}
use Rattle.wy_types.specs.declared.code.BinaryOperator.TheVariants as binary
use Rattle.wy_types.specs.Code as code
use Rattle.wy_types.specs.Code.{Expr, Number, Quoted, Truth as TruthOf, Nothing as NothingOf, This, Name, Unary, Binary, TextCall, Call, New, Ascribe, Assign, Plain, If, Values, none, more, Block, Last, Then, Val}
use Rattle.wy_types.specs.Program.{Program, Start, Init, Run}
use Rattle.wy_device.specs.declared.deed.Event.{Event}
use Rattle.wy_device.specs.declared.deed.Event.TheVariants.{Leave}
use Rattle.wy_device.specs.declared.operation.Op.{Op}
use Rattle.wy_device.specs.Editions.{Edition}
use Rattle.wy_device.specs.Requests.{operation_of, has_good_name, answers_text, Told, Answers, Fails, Waits, asked_within}
use Rattle.wy_device.specs.RunEnds.{RunEnd, Wrong, Waiting, Trap}
use Rattle.wy_device.specs.Tapes.{Tapes}
use Rattle.wy_device.specs.Traps.{most_texts, BadName, Crowded}
use Rattle.wy_meaning.specs.Values.{Value, Int, Truth, Nothing, Text, Object, Grant, Thing, World, Outcome, Gives, Stops, Reply}
use Rattle.wy_meaning.specs.Starts.{Started, Starts, GrantIs, grant_of, scope_of_instance}
use Rattle.wy_meaning.specs.Results.{Result, give, stop, node, tick, told, settle, added, carried, bind, whole}
use Rattle.wy_meaning.specs.Performing.{texts_of, answered, requested, requested_of, perform}
use Rattle.wy_meaning.specs.Eval.{Sight, Calls, choose, go_on, apply, eval, eval_value, eval_all, eval_block, with_local, Method, method_in, called, called_on, open_calls}
use Rattle.wy_meaning.specs.Start.{fill_all, start_of_scope, run_start, begin, course_of, meaning, world_at_first}
use Rattle.wy_meaning.specs.Laws.{IsCheap}

abbrev WithinTo : {A : Type 0} → ℕ → ℕ → Outcome A → ℕ → ℕ → Type 0
WithinTo have spare (Gives a) c q = q + spare ≤ 4 * c + have
WithinTo have spare (Stops e) c q = q ≤ 4 * c + have

-- at most four instructions a node, and so many more; where something is given, so many fewer
record Within {A : Type 0} (have spare : ℕ) (r : Result A) : Type 0 where
  by : WithinTo have spare r.out r.nodes r.steps

------------------------------------------------------------
-- How results are put together

module _ {A : Type 0} where
  node_to : (h s : ℕ) (o : Outcome A) (c q : ℕ) → WithinTo (h + 4) s o c q → WithinTo h s o (suc c) q
  node_to h s (Gives a) c q x = omega arith
  node_to h s (Stops e) c q x = omega arith

  node_within : (h s : ℕ) (r : Result A) → Within (h + 4) s r → Within h s (node r)
  unfolding node
  node_within h s r x = record { by = node_to h s r.out r.nodes r.steps x.by }

  tick_to : (h s : ℕ) (o : Outcome A) (c q : ℕ) → WithinTo h s o c q → WithinTo (h + 1) s o c (suc q)
  tick_to h s (Gives a) c q x = omega arith
  tick_to h s (Stops e) c q x = omega arith

  tick_within : (h s : ℕ) (r : Result A) → Within h s r → Within (h + 1) s (tick r)
  unfolding tick
  tick_within h s r x = record { by = tick_to h s r.out r.nodes r.steps x.by }

  told_within : (h s : ℕ) (e : Event) (r : Result A) → Within h s r → Within h s (told e r)
  unfolding told
  told_within h s e r x = record { by = x.by }

  give_within : (h s : ℕ) (a : A) (w : World) → s ≤ h → Within h s (give a w)
  unfolding give
  give_within h s a w x = record { by = omega arith }

  stop_within : (h s : ℕ) (e : RunEnd) (w : World) → Within h s (stop {A = A} e w)
  unfolding stop
  stop_within h s e w = record { by = omega arith }

  less_to : (h s h' s' : ℕ) (o : Outcome A) (c q : ℕ) → h + s' ≤ h' + s → h ≤ h' → WithinTo h s o c q → WithinTo h' s' o c q
  less_to h s h' s' (Gives a) c q l m x = omega arith
  less_to h s h' s' (Stops e) c q l m x = omega arith

  less_within : (h s h' s' : ℕ) (r : Result A) → h + s' ≤ h' + s → h ≤ h' → Within h s r → Within h' s' r
  less_within h s h' s' r l m x = record { by = less_to h s h' s' r.out r.nodes r.steps l m x.by }

settle_to : (h s : ℕ) (o : Outcome Value) → s ≤ h → WithinTo h s o 0 0
settle_to h s (Gives v) x = omega arith
settle_to h s (Stops e) x = omega arith

settle_within : (h s : ℕ) (r : Reply) → s ≤ h → Within h s (settle r)
unfolding settle
settle_within h s r x = record { by = settle_to h s r.out x }

module _ {A B : Type 0} (h1 s1 h s : ℕ) (h2 : ℕ) (fits : h1 + h2 ≤ h + s1) (below : h1 ≤ h) (f : A → World → Result B) where
  added_to : (o : Outcome B) (c q c' q' : ℕ) → q + s1 ≤ 4 * c + h1 → WithinTo h2 s o c' q' → WithinTo h s o (c + c') (q + q')
  added_to (Gives b) c q c' q' x y = omega arith
  added_to (Stops e) c q c' q' x y = omega arith

  carried_within : (o : Outcome A) (w : World) (es : List Event) (c q : ℕ) → WithinTo h1 s1 o c q → ((a : A) (w : World) → Within h2 s (f a w)) → Within h s (carried o w es c q f)
  unfolding added
  carried_within (Stops e) w es c q x k = record { by = omega arith }
  carried_within (Gives a) w es c q x k = record { by = added_to (f a w).out c q (f a w).nodes (f a w).steps x (k a w).by }

  bind_within : (r : Result A) → Within h1 s1 r → ((a : A) (w : World) → Within h2 s (f a w)) → Within h s (bind r f)
  unfolding bind
  bind_within r x k = carried_within r.out r.world r.events r.nodes r.steps x.by k

-- an expression leaves one of its four instructions: the Drop of a statement takes it
leaf_within : (r : Result Value) → Within 1 1 r → Within 0 1 (node (tick r))
leaf_within r x = node_within 0 1 _ (less_within (1 + 1) 1 4 1 _ (omega arith) (omega arith) (tick_within 1 1 _ x))

-- one more instruction, and the reply to a primitive operation
settled_within : (r : Reply) → Within 2 1 (tick (settle r))
settled_within r = tick_within 1 1 _ (settle_within 1 1 r (omega arith))

------------------------------------------------------------
-- Operations on grants

answered_within : (grant : List ℕ) (op : Op) (w : World) (t : Told) → Within 1 1 (answered grant op w t)
answered_within grant op w (Answers a tapes) = told_within 1 1 _ _ (settle_within 1 1 _ (omega arith))
answered_within grant op w (Fails tapes) = told_within 1 1 _ _ (stop_within 1 1 _ _)
answered_within grant op w Waits = stop_within 1 1 Waiting w

either_within : (b : Bool) (r s : Result Value) → Within 1 1 r → Within 1 1 s → Within 1 1 (if b then r else s)
either_within true r s x y = x
either_within false r s x y = y

requested_within : (edition : Edition) (place : Place) (grant : List ℕ) (w : World) (op : Option Op) → Within 1 1 (requested edition place grant w op)
requested_within edition place grant w None = stop_within 1 1 Wrong w
requested_within edition place grant w (Some op) =
    either_within (not (has_good_name op)) _ _ (stop_within 1 1 (Trap BadName place) w)
    (either_within (answers_text op && not (nat_lt w.built most_texts)) _ _ (stop_within 1 1 (Trap Crowded place) w) (answered_within grant op w (asked_within edition.longest op w.tapes)))

requested_of_within : (edition : Edition) (place : Place) (g : Option GrantIs) (method : List ℕ) (w : World) (texts : Option (List (List ℕ))) → Within 1 1 (requested_of edition place g method w texts)
requested_of_within edition place None method w texts = stop_within 1 1 Wrong w
requested_of_within edition place (Some g) method w None = stop_within 1 1 Wrong w
requested_of_within edition place (Some g) method w (Some texts) = requested_within edition place g.name w (operation_of g.primitive method texts)

perform_within : (edition : Edition) (place : Place) (g : Option GrantIs) (method : List ℕ) (vs : List Value) (w : World) → Within 1 1 (perform edition place g method vs w)
unfolding perform
perform_within edition place g method vs w = requested_of_within edition place g method w (texts_of vs)

------------------------------------------------------------
-- Expressions

CallsWithin : Calls → Type 0
CallsWithin calls = (a : ℕ) (name : List ℕ) (vs : List Value) (w : World) → Within 0 0 (calls a name vs w)

choose_within : (h s : ℕ) (v : Value) (fa fb : World → Result Value) (w : World) → Within h s (fa w) → Within h s (fb w) → Within h s (choose v fa fb w)
choose_within h s (Truth true) fa fb w x y = x
choose_within h s (Truth false) fa fb w x y = y
choose_within h s (Int n) fa fb w x y = stop_within h s Wrong w
choose_within h s Nothing fa fb w x y = stop_within h s Wrong w
choose_within h s (Text b) fa fb w x y = stop_within h s Wrong w
choose_within h s (Object n) fa fb w x y = stop_within h s Wrong w
choose_within h s (Grant n) fa fb w x y = stop_within h s Wrong w

-- the right side of a binary operator
RightWithin : (World → Result Value) → Type 0
RightWithin right = (w : World) → Within 0 1 (right w)

and_within : (edition : Edition) (place : Place) (v : Value) (right : World → Result Value) (w : World) → RightWithin right → Within 5 1 (go_on edition place binary.And v right w)
unfolding RightWithin
and_within edition place v right w ok = tick_within 4 1 _ (choose_within 4 1 v _ _ w
    (bind_within 0 1 4 1 2 (omega arith) (omega arith) _ _ (ok w) (λ u w. tick_within 1 1 _ (give_within 1 1 u w (omega arith))))
    (less_within 2 1 4 1 _ (omega arith) (omega arith) (tick_within 1 1 _ (give_within 1 1 (Truth false) w (omega arith)))))

or_within : (edition : Edition) (place : Place) (v : Value) (right : World → Result Value) (w : World) → RightWithin right → Within 5 1 (go_on edition place binary.Or v right w)
unfolding RightWithin
or_within edition place v right w ok = tick_within 4 1 _ (choose_within 4 1 v _ _ w
    (less_within 3 1 4 1 _ (omega arith) (omega arith) (tick_within 2 1 _ (tick_within 1 1 _ (give_within 1 1 (Truth true) w (omega arith)))))
    (less_within 0 1 4 1 _ (omega arith) (omega arith) (ok w)))

operated_within : (right : World → Result Value) (reply : Value → World → Reply) (w : World) → RightWithin right → Within 5 1 (bind (right w) (λ u w. tick (settle (reply u w))))
unfolding RightWithin
operated_within right reply w ok = bind_within 0 1 5 1 2 (omega arith) (omega arith) _ _ (ok w) (λ u w. settled_within (reply u w))

go_on_within : (edition : Edition) (place : Place) (o : BinaryOperator) (v : Value) (right : World → Result Value) (w : World) → RightWithin right → Within 5 1 (go_on edition place o v right w)
go_on_within edition place binary.And v right w ok = and_within edition place v right w ok
go_on_within edition place binary.Or v right w ok = or_within edition place v right w ok
go_on_within edition place o v right w ok = operated_within right _ w ok

apply_within : (p : Program) (s : Starts) (calls : Calls) → CallsWithin calls → (place : Place) (v : Value) (method : List ℕ) (vs : List Value) (w : World) → Within 1 1 (apply p s calls place v method vs w)
unfolding CallsWithin
apply_within p s calls ok place (Object a) method vs w = less_within 0 0 1 1 (calls a method vs w) (omega arith) (omega arith) (ok a method vs w)
apply_within p s calls ok place (Grant g) method vs w = perform_within s.edition place (grant_of s.edition p g) method vs w
apply_within p s calls ok place (Int n) method vs w = stop_within 1 1 Wrong w
apply_within p s calls ok place (Truth n) method vs w = stop_within 1 1 Wrong w
apply_within p s calls ok place Nothing method vs w = stop_within 1 1 Wrong w
apply_within p s calls ok place (Text b) method vs w = stop_within 1 1 Wrong w

module _ (p : Program) (s : Starts) (calls : Calls) (ok : CallsWithin calls) where
  mutual
    unfolding eval RightWithin

    expr_within : (e : Expr) (sight : Sight) (w : World) → Within 0 1 (eval p s calls sight e w)
    expr_within (Number place n) sight w = leaf_within _ (give_within 1 1 (Int n) w (omega arith))
    expr_within (Quoted place b) sight w = leaf_within _ (give_within 1 1 (Text b) w (omega arith))
    expr_within (TruthOf place b) sight w = leaf_within _ (give_within 1 1 (Truth b) w (omega arith))
    expr_within (NothingOf place) sight w = leaf_within _ (give_within 1 1 Nothing w (omega arith))
    expr_within (This place) sight w = leaf_within _ (settle_within 1 1 _ (omega arith))
    expr_within (Name place name) sight w = leaf_within _ (settle_within 1 1 _ (omega arith))
    expr_within (Unary place o x) sight w =
        node_within 0 1 _ (bind_within 0 1 4 1 2 (omega arith) (omega arith) _ _ (expr_within x sight w) (λ v w. settled_within _))
    expr_within (Binary place o x y) sight w =
        node_within 0 1 _
        (bind_within 0 1 4 1 5 (omega arith) (omega arith) _ _ (expr_within x sight w) (λ v w. go_on_within s.edition place o v (eval p s calls sight y) w (λ w. expr_within y sight w)))
    expr_within (TextCall place o xs) sight w =
        node_within 0 1 _ (bind_within 0 0 4 1 2 (omega arith) (omega arith) _ _ (all_within xs sight w) (λ vs w. settled_within _))
    expr_within (Call place x method xs) sight w =
        node_within 0 1 _
        (bind_within 0 1 4 1 3 (omega arith) (omega arith) _ _ (expr_within x sight w)
        (λ v w. bind_within 0 0 3 1 2 (omega arith) (omega arith) _ _ (all_within xs sight w) (λ vs w. tick_within 1 1 _ (apply_within p s calls ok place v method vs w))))
    expr_within (New place l xs) sight w =
        node_within 0 1 _ (bind_within 0 0 4 1 2 (omega arith) (omega arith) _ _ (all_within xs sight w) (λ vs w. settled_within _))
    expr_within (Ascribe place x t) sight w = node_within 0 1 _ (less_within 0 1 4 1 _ (omega arith) (omega arith) (value_within x sight w))
    expr_within (Assign place name x) sight w =
        node_within 0 1 _
        (bind_within 0 1 4 1 3 (omega arith) (omega arith) _ _ (value_within x sight w)
        (λ v w. bind_within 1 0 3 1 2 (omega arith) (omega arith) _ _ (tick_within 0 0 _ (settle_within 0 0 _ (omega arith))) (λ u w. tick_within 1 1 _ (give_within 1 1 Nothing w (omega arith)))))

    value_within : (x : code.Value) (sight : Sight) (w : World) → Within 0 1 (eval_value p s calls sight x w)
    value_within (Plain x) sight w = expr_within x sight w
    value_within (If place test first second) sight w =
        node_within 0 1 _
        (bind_within 0 1 4 1 5 (omega arith) (omega arith) _ _ (expr_within test sight w)
        (λ v w. tick_within 4 1 _ (choose_within 4 1 v _ _ w
        (bind_within 0 1 4 1 2 (omega arith) (omega arith) _ _ (block_within first sight w) (λ u w. tick_within 1 1 _ (give_within 1 1 u w (omega arith))))
        (less_within 0 1 4 1 _ (omega arith) (omega arith) (block_within second sight w)))))

    all_within : (xs : Values) (sight : Sight) (w : World) → Within 0 0 (eval_all p s calls sight xs w)
    all_within none sight w = give_within 0 0 [] w (omega arith)
    all_within (more x xs) sight w =
        bind_within 0 1 0 0 1 (omega arith) (omega arith) _ _ (value_within x sight w)
        (λ v w. bind_within 0 0 1 0 0 (omega arith) (omega arith) _ _ (all_within xs sight w) (λ vs w. give_within 0 0 (v ∷ vs) w (omega arith)))

    block_within : (b : Block) (sight : Sight) (w : World) → Within 0 1 (eval_block p s calls sight b w)
    block_within (Last x) sight w = value_within x sight w
    block_within (Then x rest) sight w =
        bind_within 0 1 0 1 1 (omega arith) (omega arith) _ _ (value_within x sight w) (λ v w. tick_within 0 1 _ (block_within rest sight w))
    block_within (Val place n typ x rest) sight w =
        node_within 0 1 _
        (bind_within 0 1 4 1 1 (omega arith) (omega arith) _ _ (value_within x sight w) (λ v w. tick_within 0 1 _ (block_within rest (with_local sight n v) w)))

------------------------------------------------------------
-- Bodies, and whole programs

-- a body is a node, and leaving it an instruction
whole_within : (e : Event) (r : Result Value) → Within 0 0 r → Within 0 0 (whole e r)
unfolding whole
whole_within e r x =
    told_within 0 0 e _ (node_within 0 0 _ (bind_within 0 0 4 0 1 (omega arith) (omega arith) _ _ x (λ v w. tick_within 0 0 _ (told_within 0 0 Leave _ (give_within 0 0 v w (omega arith))))))

block_fits : (r : Result Value) → Within 0 1 r → Within 0 0 r
block_fits r x = less_within 0 1 0 0 r (omega arith) (omega arith) x

module _ (p : Program) (s : Starts) where
  body_within : (calls : Calls) → CallsWithin calls → (b : Bool) (e : Event) (block : Block) (sight : Sight) (w : World) → Within 0 0 (if b then whole e (eval_block p s calls sight block w) else stop Wrong w)
  body_within calls ok true e block sight w = whole_within e _ (block_fits _ (block_within p s calls ok block sight w))
  body_within calls ok false e block sight w = stop_within 0 0 Wrong w

  entered_within : (calls : Calls) → CallsWithin calls → (a : ℕ) (t : Thing) (name : List ℕ) (vs : List Value) (w : World) (m : Option Method) → Within 0 0 (called p s calls a t name vs w m)
  entered_within calls ok a t name vs w None = stop_within 0 0 Wrong w
  entered_within calls ok a t name vs w (Some m) = body_within calls ok (nat_eq (length vs) (length m.body.signature.params)) _ m.body.block _ w

  called_within : (calls : Calls) → CallsWithin calls → (a : ℕ) (name : List ℕ) (vs : List Value) (w : World) (t : Option Thing) → Within 0 0 (called_on p s calls a name vs w t)
  called_within calls ok a name vs w None = stop_within 0 0 Wrong w
  called_within calls ok a name vs w (Some t) = entered_within calls ok a t name vs w (method_in (scope_of_instance p s t.instance) t.literal name)

  calls_within : (n : ℕ) → CallsWithin (open_calls p s n)
  unfolding CallsWithin open_calls
  calls_within zero a name vs w = stop_within 0 0 _ w
  calls_within (suc n) a name vs w = called_within (open_calls p s n) (calls_within n) a name vs w (slice_get w.objects a)

  module _ (calls : Calls) (ok : CallsWithin calls) where
    fill_within : (xs : Values) (sight : Sight) (x : ℕ) (w : World) → Within 0 0 (fill_all p s calls sight x xs w)
    unfolding fill_all
    fill_within none sight x w = give_within 0 0 Nothing w (omega arith)
    fill_within (more e es) sight x w =
        bind_within 0 1 0 0 1 (omega arith) (omega arith) _ _ (value_within p s calls ok e sight w)
        (λ v w. bind_within 1 0 1 0 0 (omega arith) (omega arith) _ _ (tick_within 0 0 _ (settle_within 0 0 _ (omega arith))) (λ u w. fill_within es sight x w))

    start_within : (x : ℕ) (w : World) (o : Option Start) → Within 0 0 (run_start p s calls x w o)
    start_within x w None = stop_within 0 0 Wrong w
    start_within x w (Some (Init values)) = fill_within values _ x w
    start_within x w (Some (Run block)) = block_fits _ (block_within p s calls ok block _ w)

    begin_within : (is : List Started) (x : ℕ) (w : World) → Within 0 0 (begin p s calls x is w)
    unfolding begin
    begin_within [] x w = whole_within _ _ (start_within x w (start_of_scope (scope_of_instance p s x)))
    begin_within (i ∷ is) x w =
        bind_within 0 0 0 0 0 (omega arith) (omega arith) _ _ (whole_within _ _ (start_within x w (start_of_scope (scope_of_instance p s x)))) (λ v w. begin_within is (suc x) w)

  within_cheap : (r : Result Value) → Within 0 0 r → IsCheap (course_of r)
  within_cheap r x = of r.out r.nodes r.steps x.by
    where
      of : (o : Outcome Value) (c q : ℕ) → WithinTo 0 0 o c q → q ≤ 4 * c
      of (Gives v) c q x = omega arith
      of (Stops e) c q x = omega arith

  pub meaning_cheap : (n : ℕ) (tapes : Tapes) → IsCheap (meaning n p s tapes)
  unfolding meaning
  meaning_cheap n tapes = within_cheap _ (begin_within (open_calls p s n) (calls_within n) s.instances 0 (world_at_first s tapes))
