-- More answers behind those of the tapes only extend what waits: expressions, calls and whole programs.
use Rattle.std.proofs.Common.{◌≡◌, ℕ, zero, suc, Bool, true, false, List, [], ◌∷◌, length, Option, Some, None, refl, sym, ap, ◌∙◌, nat_eq}
use Rattle.std.specs.Prelude.{slice_get, if◌then◌else◌}
use Rattle.wy_text.specs.declared.fault.Place.{Place}
use Rattle.wy_types.specs.declared.code.BinaryOperator.{BinaryOperator}
use Rattle.wy_types.specs.declared.code.BinaryOperator.TheVariants as binary
use Rattle.wy_types.specs.Code as code
use Rattle.wy_types.specs.Code.{Expr, Number, Quoted, Truth as TruthOf, Nothing as NothingOf, This, Name, Unary, Binary, TextCall, Call, New, Ascribe, Assign, Plain, If, Values, none, more, Block, Last, Then, Val}
use Rattle.wy_types.specs.Program.{Program, Start, Init, Run}
use Rattle.wy_device.specs.declared.deed.Event.{Event}
use Rattle.wy_device.specs.declared.deed.Event.TheVariants.{Leave}
use Rattle.wy_device.specs.Editions.{Edition}
use Rattle.wy_device.specs.RunEnds.{Ended, Wrong, Waiting, TooDeep}
use Rattle.wy_device.specs.Tapes.{Tapes}
use Rattle.wy_meaning.specs.Values.{Value, Int, Truth, Nothing, Text, Object, Grant, Thing, World, Outcome, Gives, Stops, Reply}
use Rattle.wy_meaning.specs.Starts.{Started, Starts, grant_of, scope_of_instance, literal_in}
use Rattle.wy_meaning.specs.Results.{Result, give, stop, tick, settle, bind, whole}
use Rattle.wy_meaning.specs.Operating.{unary_operator, binary_operator, text_operator, operated}
use Rattle.wy_meaning.specs.Eval.{Sight, Calls, choose, go_on, apply, eval, eval_value, eval_all, eval_block, with_local, Method, method_in, called, called_on, open_calls}
use Rattle.wy_meaning.specs.Start.{fill_all, start_of_scope, run_start, begin, Course, end_of, course_of, meaning, world_at_first}
use Rattle.wy_meaning.specs.Laws.{IsExtended, ExtendsOnly}
use Rattle.wy_meaning.proofs.Longer.{longer, Alike, LongerTo, Longer, SameReply, give_longer, stop_longer, node_longer, tick_longer, told_longer, bind_longer, operated_same, assigned_same, added_same, new_same, name_same, found_same, settled_longer, perform_longer}

module _ (u : Tapes) where
  -- a function of the world that only goes on over more answers
  Goes : {A : Type 0} → (World → Result A) → Type 0
  Goes f = (w : World) → Longer u (f w) (f (longer u w))

  CallsGo : Calls → Type 0
  CallsGo calls = (a : ℕ) (name : List ℕ) (vs : List Value) (w : World) → Longer u (calls a name vs w) (calls a name vs (longer u w))

  choose_longer : (v : Value) (f g : World → Result Value) (w : World) → Goes f → Goes g → Longer u (choose v f g w) (choose v f g (longer u w))
  unfolding Goes
  choose_longer (Truth true) f g w x y = x w
  choose_longer (Truth false) f g w x y = y w
  choose_longer (Int n) f g w x y = stop_longer u Wrong w
  choose_longer Nothing f g w x y = stop_longer u Wrong w
  choose_longer (Text b) f g w x y = stop_longer u Wrong w
  choose_longer (Object a) f g w x y = stop_longer u Wrong w
  choose_longer (Grant g') f g w x y = stop_longer u Wrong w

  -- a side that is left by a Jump
  left_longer : (f : World → Result Value) → Goes f → Goes (λ w. bind (f w) (λ v w. tick (give v w)))
  unfolding Goes
  left_longer f x w = bind_longer u _ (λ v w. tick_longer u _ _ (give_longer u v w)) _ _ (x w)

  both_longer : (reply : Value → World → Reply) → ((v : Value) (w : World) → SameReply u (reply v w) (reply v (longer u w))) → (right : World → Result Value) → Goes right → Goes (λ w. bind (right w) (λ v w. tick (settle (reply v w))))
  unfolding Goes
  both_longer reply same right x w = bind_longer u _ (λ v w. settled_longer u _ _ (same v w)) _ _ (x w)

  go_on_longer : (edition : Edition) (place : Place) (o : BinaryOperator) (v : Value) (right : World → Result Value) (w : World) → Goes right → Longer u (go_on edition place o v right w) (go_on edition place o v right (longer u w))
  unfolding Goes
  go_on_longer edition place binary.And v right w ok =
      tick_longer u _ _ (choose_longer v _ _ w (left_longer right ok) (λ w. tick_longer u _ _ (give_longer u (Truth false) w)))
  go_on_longer edition place binary.Or v right w ok =
      tick_longer u _ _ (choose_longer v _ _ w (λ w. tick_longer u _ _ (tick_longer u _ _ (give_longer u (Truth true) w))) ok)
  go_on_longer edition place o v right w ok = both_longer (λ x w. operated edition place (binary_operator o) (v ∷ x ∷ []) w) (λ x w. operated_same u edition place (binary_operator o) (v ∷ x ∷ []) w) right ok w

  apply_longer : (p : Program) (s : Starts) (calls : Calls) → CallsGo calls → (place : Place) (v : Value) (method : List ℕ) (vs : List Value) (w : World) → Longer u (apply p s calls place v method vs w) (apply p s calls place v method vs (longer u w))
  unfolding CallsGo
  apply_longer p s calls ok place (Object a) method vs w = ok a method vs w
  apply_longer p s calls ok place (Grant g) method vs w = perform_longer u s.edition place (grant_of s.edition p g) method vs w
  apply_longer p s calls ok place (Int n) method vs w = stop_longer u Wrong w
  apply_longer p s calls ok place (Truth b) method vs w = stop_longer u Wrong w
  apply_longer p s calls ok place Nothing method vs w = stop_longer u Wrong w
  apply_longer p s calls ok place (Text b) method vs w = stop_longer u Wrong w

  module _ (p : Program) (s : Starts) (calls : Calls) (ok : CallsGo calls) where
    mutual
      unfolding eval Goes

      expr_longer : (e : Expr) (sight : Sight) (w : World) → Longer u (eval p s calls sight e w) (eval p s calls sight e (longer u w))
      expr_longer (Number place n) sight w = node_longer u _ _ (tick_longer u _ _ (give_longer u (Int n) w))
      expr_longer (Quoted place b) sight w = node_longer u _ _ (tick_longer u _ _ (give_longer u (Text b) w))
      expr_longer (TruthOf place b) sight w = node_longer u _ _ (tick_longer u _ _ (give_longer u (Truth b) w))
      expr_longer (NothingOf place) sight w = node_longer u _ _ (tick_longer u _ _ (give_longer u Nothing w))
      expr_longer (This place) sight w = node_longer u _ _ (settled_longer u _ _ (found_same u _ w))
      expr_longer (Name place name) sight w = node_longer u _ _ (settled_longer u _ _ (name_same u s sight w name))
      expr_longer (Unary place o x) sight w =
          node_longer u _ _ (bind_longer u _ (λ v w. settled_longer u _ _ (operated_same u s.edition place (Some (unary_operator o)) (v ∷ []) w)) _ _ (expr_longer x sight w))
      expr_longer (Binary place o x y) sight w =
          node_longer u _ _ (bind_longer u _ (λ v w. go_on_longer s.edition place o v (eval p s calls sight y) w (λ w. expr_longer y sight w)) _ _ (expr_longer x sight w))
      expr_longer (TextCall place o xs) sight w =
          node_longer u _ _ (bind_longer u _ (λ vs w. settled_longer u _ _ (operated_same u s.edition place (Some (text_operator o)) vs w)) _ _ (all_longer xs sight w))
      expr_longer (Call place x method xs) sight w =
          node_longer u _ _
          (bind_longer u _ (λ v w. bind_longer u _ (λ vs w. tick_longer u _ _ (apply_longer p s calls ok place v method vs w)) _ _ (all_longer xs sight w)) _ _ (expr_longer x sight w))
      expr_longer (New place l xs) sight w =
          node_longer u _ _
          (bind_longer u _ (λ vs w. settled_longer u _ _ (new_same u place sight l vs w (literal_in (scope_of_instance p s sight.instance) l))) _ _ (all_longer xs sight w))
      expr_longer (Ascribe place x t) sight w = node_longer u _ _ (value_longer x sight w)
      expr_longer (Assign place name x) sight w =
          node_longer u _ _
          (bind_longer u _ (λ v w. bind_longer u _ (λ z w. tick_longer u _ _ (give_longer u Nothing w)) _ _ (settled_longer u _ _ (assigned_same u sight name v w))) _ _ (value_longer x sight w))

      value_longer : (x : code.Value) (sight : Sight) (w : World) → Longer u (eval_value p s calls sight x w) (eval_value p s calls sight x (longer u w))
      value_longer (Plain x) sight w = expr_longer x sight w
      value_longer (If place test first second) sight w =
          node_longer u _ _
          (bind_longer u _ (λ v w. tick_longer u _ _ (choose_longer v _ _ w (left_longer (eval_block p s calls sight first) (λ w. block_longer first sight w)) (λ w. block_longer second sight w))) _ _ (expr_longer test sight w))

      all_longer : (xs : Values) (sight : Sight) (w : World) → Longer u (eval_all p s calls sight xs w) (eval_all p s calls sight xs (longer u w))
      all_longer none sight w = give_longer u [] w
      all_longer (more x xs) sight w =
          bind_longer u _ (λ v w. bind_longer u _ (λ vs w. give_longer u (v ∷ vs) w) _ _ (all_longer xs sight w)) _ _ (value_longer x sight w)

      block_longer : (b : Block) (sight : Sight) (w : World) → Longer u (eval_block p s calls sight b w) (eval_block p s calls sight b (longer u w))
      block_longer (Last x) sight w = value_longer x sight w
      block_longer (Then x rest) sight w = bind_longer u _ (λ v w. tick_longer u _ _ (block_longer rest sight w)) _ _ (value_longer x sight w)
      block_longer (Val place n typ x rest) sight w =
          node_longer u _ _ (bind_longer u _ (λ v w. tick_longer u _ _ (block_longer rest (with_local sight n v) w)) _ _ (value_longer x sight w))

  ------------------------------------------------------------
  -- Bodies, and whole programs

  whole_longer : (e : Event) (r r' : Result Value) → Longer u r r' → Longer u (whole e r) (whole e r')
  unfolding whole
  whole_longer e r r' x =
      told_longer u e _ _ (node_longer u _ _ (bind_longer u _ (λ v w. tick_longer u _ _ (told_longer u Leave _ _ (give_longer u v w))) r r' x))

  module _ (p : Program) (s : Starts) where
    body_longer : (calls : Calls) → CallsGo calls → (b : Bool) (e : Event) (block : Block) (sight : Sight) (w : World) → Longer u (if b then whole e (eval_block p s calls sight block w) else stop Wrong w) (if b then whole e (eval_block p s calls sight block (longer u w)) else stop Wrong (longer u w))
    body_longer calls ok true e block sight w = whole_longer e _ _ (block_longer p s calls ok block sight w)
    body_longer calls ok false e block sight w = stop_longer u Wrong w

    entered_longer : (calls : Calls) → CallsGo calls → (a : ℕ) (t : Thing) (name : List ℕ) (vs : List Value) (w : World) (m : Option Method) → Longer u (called p s calls a t name vs w m) (called p s calls a t name vs (longer u w) m)
    entered_longer calls ok a t name vs w None = stop_longer u Wrong w
    entered_longer calls ok a t name vs w (Some m) = body_longer calls ok (nat_eq (length vs) (length m.body.signature.params)) _ m.body.block _ w

    called_longer : (calls : Calls) → CallsGo calls → (a : ℕ) (name : List ℕ) (vs : List Value) (w : World) (t : Option Thing) → Longer u (called_on p s calls a name vs w t) (called_on p s calls a name vs (longer u w) t)
    called_longer calls ok a name vs w None = stop_longer u Wrong w
    called_longer calls ok a name vs w (Some t) = entered_longer calls ok a t name vs w (method_in (scope_of_instance p s t.instance) t.literal name)

    calls_longer : (n : ℕ) → CallsGo (open_calls p s n)
    unfolding CallsGo open_calls
    calls_longer zero a name vs w = stop_longer u TooDeep w
    calls_longer (suc n) a name vs w = called_longer (open_calls p s n) (calls_longer n) a name vs w (slice_get w.objects a)

    module _ (calls : Calls) (ok : CallsGo calls) where
      fill_longer : (xs : Values) (sight : Sight) (x : ℕ) (w : World) → Longer u (fill_all p s calls sight x xs w) (fill_all p s calls sight x xs (longer u w))
      unfolding fill_all
      fill_longer none sight x w = give_longer u Nothing w
      fill_longer (more e es) sight x w =
          bind_longer u _ (λ v w. bind_longer u _ (λ z w. fill_longer es sight x w) _ _ (settled_longer u _ _ (added_same u x v w (slice_get w.objects x)))) _ _ (value_longer p s calls ok e sight w)

      start_longer : (x : ℕ) (w : World) (o : Option Start) → Longer u (run_start p s calls x w o) (run_start p s calls x (longer u w) o)
      start_longer x w None = stop_longer u Wrong w
      start_longer x w (Some (Init values)) = fill_longer values _ x w
      start_longer x w (Some (Run block)) = block_longer p s calls ok block _ w

      begin_longer : (is : List Started) (x : ℕ) (w : World) → Longer u (begin p s calls x is w) (begin p s calls x is (longer u w))
      unfolding begin
      begin_longer [] x w = whole_longer _ _ _ (start_longer x w (start_of_scope (scope_of_instance p s x)))
      begin_longer (i ∷ is) x w =
          bind_longer u _ (λ v w. begin_longer is (suc x) w) _ _ (whole_longer _ _ _ (start_longer x w (start_of_scope (scope_of_instance p s x))))

-- two results that are alike are one course
same_course : (u : Tapes) (o : Outcome Value) (r t : Result Value) → r.out ≡ o → Alike u o r t → course_of t ≡ course_of r
same_course u o r t e l =
    ap (λ (x : Outcome Value). let c : Course = record { end = end_of x; events = t.events; nodes = t.nodes; steps = t.steps } in c) (l.out ∙ sym e)
    ∙ ap (λ (x : List Event). let c : Course = record { end = end_of r.out; events = x; nodes = t.nodes; steps = t.steps } in c) l.events
    ∙ ap (λ (x : ℕ). let c : Course = record { end = end_of r.out; events = r.events; nodes = x; steps = t.steps } in c) l.nodes
    ∙ ap (λ (x : ℕ). let c : Course = record { end = end_of r.out; events = r.events; nodes = r.nodes; steps = x } in c) l.steps

extended_to : (u : Tapes) (o : Outcome Value) (r t : Result Value) → r.out ≡ o → LongerTo u o r t → IsExtended (course_of r) (course_of t)
extended_to u (Gives v) r t e l = record {
  waits = λ w. absurd (not_waiting (sym (ap end_of e) ∙ w));
  ends = λ ne. same_course u (Gives v) r t e l;
}
  where
    not_waiting : Ended ≡ Waiting → ⊥
    not_waiting h = cc
extended_to u (Stops x) r t e l = record {
  waits = λ w. l.0 (sym (ap end_of e) ∙ w);
  ends = λ ne. same_course u (Stops x) r t e (l.1 (λ w. ne (ap end_of e ∙ w)));
}

pub meaning_extends : (n : ℕ) (p : Program) (s : Starts) → ExtendsOnly n p s
unfolding meaning
meaning_extends n p s tapes further =
    let r = begin_longer further p s (open_calls p s n) (calls_longer further p s n) s.instances 0 (world_at_first s tapes) in
    extended_to further _ _ _ refl r.by
