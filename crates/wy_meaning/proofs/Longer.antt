-- More answers behind those of the tapes only extend what waits.
use Rattle.std.proofs.Common.{◌≡◌, ◌≢◌, ℕ, suc, ◌+◌, Bool, true, false, List, [], ◌∷◌, ◌++◌, length, Option, Some, None, not, ◌&&◌, refl, sym, ap, ◌∙◌, subst, nat_eq, nat_lt, append_assoc, append-nil}
use Rattle.std.specs.Prelude.{slice_get, if◌then◌else◌}
use Rattle.wy_text.specs.declared.fault.Place.{Place}
use Rattle.wy_types.specs.declared.code.Binding.{Binding}
use Rattle.wy_types.specs.declared.code.Binding.TheVariants as to
use Rattle.wy_types.specs.declared.resolved.Literal.{Literal}
use Rattle.wy_device.specs.declared.deed.Event.{Event}
use Rattle.wy_device.specs.declared.operation.Answer.{Answer}
use Rattle.wy_device.specs.declared.operation.Answer.TheVariants as answer
use Rattle.wy_device.specs.declared.operation.Kind.{Kind}
use Rattle.wy_device.specs.declared.operation.Kind.TheVariants.{Console, Folder, Clock, Random}
use Rattle.wy_device.specs.declared.operation.Op.{Op}
use Rattle.wy_device.specs.declared.operation.OpName.{OpName}
use Rattle.wy_device.specs.Editions.{Edition}
use Rattle.wy_device.specs.Operation.{name_of, kind_of}
use Rattle.wy_device.specs.Operators.{Operator, Computed, GivesNumber, GivesTruth, Builds, Traps, Misfits}
use Rattle.wy_device.specs.Requests.{operation_of, has_good_name, answers_text, Told, Answers, Fails, Waits, asked_within, told_by, tape_of, with_tape, fits_within}
use Rattle.wy_device.specs.RunEnds.{RunEnd, DeviceFailed, Wrong, Waiting, Trap}
use Rattle.wy_device.specs.Tapes.{Tapes, spliced}
use Rattle.wy_device.specs.Traps.{most_texts, most_objects, BadName, Crowded}
use Rattle.wy_meaning.specs.Values.{Value, Int, Truth, Nothing, Named, Thing, World, Outcome, Gives, Stops, Reply, replied, stopped, found, object_of, field_in, text_built, field_set, write_field, field_added}
use Rattle.wy_meaning.specs.Starts.{Starts, GrantIs}
use Rattle.wy_meaning.specs.Results.{Result, give, stop, node, tick, told, settle, added, carried, bind}
use Rattle.wy_meaning.specs.Operating.{computed, operated}
use Rattle.wy_meaning.specs.Performing.{texts_of, value_answered, answered, requested, requested_of, perform}
use Rattle.wy_meaning.specs.Eval.{Sight, value_of_name, assigned, captured_from, object_with, object_new}

-- the world with these answers behind its own
abbrev pub longer : Tapes → World → World
longer u w = record w { tapes = spliced w.tapes u }

-- the same result, but for the answers that are left
pub record Alike {A : Type 0} (u : Tapes) (o : Outcome A) (r s : Result A) : Type 0 where
  pub out : s.out ≡ o
  pub world : s.world ≡ longer u r.world
  pub events : s.events ≡ r.events
  pub nodes : s.nodes ≡ r.nodes
  pub steps : s.steps ≡ r.steps

abbrev pub Prefix : List Event → List Event → Type 0
Prefix xs ys = (zs : List Event) × (ys ≡ xs ++ zs)

abbrev pub LongerTo : {A : Type 0} → Tapes → Outcome A → Result A → Result A → Type 0
LongerTo u (Gives a) r s = Alike u (Gives a) r s
LongerTo u (Stops e) r s = (e ≡ Waiting → Prefix r.events s.events) × (e ≢ Waiting → Alike u (Stops e) r s)

-- the first is a result over some answers, the second the result over more
pub record Longer {A : Type 0} (u : Tapes) (r s : Result A) : Type 0 where
  pub by : LongerTo u r.out r s

-- a reply that does not look at the answers
pub record SameReply (u : Tapes) (r s : Reply) : Type 0 where
  pub out : s.out ≡ r.out
  pub world : s.world ≡ longer u r.world

------------------------------------------------------------
-- How results are put together

module _ (u : Tapes) where
  alike_to : {A : Type 0} (o : Outcome A) (r s : Result A) → r.out ≡ o → Alike u o r s → LongerTo u o r s
  alike_to (Gives a) r s e l = l
  alike_to (Stops e) r s f l = ((λ w. ([], l.events ∙ sym (append-nil r.events))), λ ne. l)

  -- results that are alike
  alike_longer : {A : Type 0} (r s : Result A) → Alike u r.out r s → Longer u r s
  alike_longer r s l = record { by = alike_to r.out r s refl l }

  pub give_longer : {A : Type 0} (a : A) (w : World) → Longer u (give a w) (give a (longer u w))
  unfolding give
  give_longer a w = alike_longer _ _ (record { out = refl; world = refl; events = refl; nodes = refl; steps = refl })

  pub stop_longer : {A : Type 0} (e : RunEnd) (w : World) → Longer u (stop {A = A} e w) (stop e (longer u w))
  unfolding stop
  stop_longer e w = alike_longer _ _ (record { out = refl; world = refl; events = refl; nodes = refl; steps = refl })

  pub settle_longer : (r s : Reply) → SameReply u r s → Longer u (settle r) (settle s)
  unfolding settle
  settle_longer r s l = alike_longer _ _ (record { out = l.out; world = l.world; events = refl; nodes = refl; steps = refl })

  node_to : {A : Type 0} (o : Outcome A) (r s : Result A) → LongerTo u o r s → LongerTo u o (node r) (node s)
  unfolding node
  node_to (Gives a) r s l = record { out = l.out; world = l.world; events = l.events; nodes = ap suc l.nodes; steps = l.steps }
  node_to (Stops e) r s l = (l.0, λ ne. let k = l.1 ne in record { out = k.out; world = k.world; events = k.events; nodes = ap suc k.nodes; steps = k.steps })

  pub node_longer : {A : Type 0} (r s : Result A) → Longer u r s → Longer u (node r) (node s)
  unfolding node
  node_longer r s l = record { by = node_to r.out r s l.by }

  tick_to : {A : Type 0} (o : Outcome A) (r s : Result A) → LongerTo u o r s → LongerTo u o (tick r) (tick s)
  unfolding tick
  tick_to (Gives a) r s l = record { out = l.out; world = l.world; events = l.events; nodes = l.nodes; steps = ap suc l.steps }
  tick_to (Stops e) r s l = (l.0, λ ne. let k = l.1 ne in record { out = k.out; world = k.world; events = k.events; nodes = k.nodes; steps = ap suc k.steps })

  pub tick_longer : {A : Type 0} (r s : Result A) → Longer u r s → Longer u (tick r) (tick s)
  unfolding tick
  tick_longer r s l = record { by = tick_to r.out r s l.by }

  told_to : {A : Type 0} (o : Outcome A) (e : Event) (r s : Result A) → LongerTo u o r s → LongerTo u o (told e r) (told e s)
  unfolding told
  told_to (Gives a) e r s l = record { out = l.out; world = l.world; events = ap (λ (es : List Event). e ∷ es) l.events; nodes = l.nodes; steps = l.steps }
  told_to (Stops x) e r s l = (
    (λ w. let p = l.0 w in (p.0, ap (λ (es : List Event). e ∷ es) p.1)),
    λ ne. let k = l.1 ne in record { out = k.out; world = k.world; events = ap (λ (es : List Event). e ∷ es) k.events; nodes = k.nodes; steps = k.steps },
  )

  pub told_longer : {A : Type 0} (e : Event) (r s : Result A) → Longer u r s → Longer u (told e r) (told e s)
  unfolding told
  told_longer e r s l = record { by = told_to r.out e r s l.by }

  added_to : {A : Type 0} (o : Outcome A) (es : List Event) (c q : ℕ) (r s : Result A) → LongerTo u o r s → LongerTo u o (added es c q r) (added es c q s)
  unfolding added
  added_to (Gives a) es c q r s l = record { out = l.out; world = l.world; events = ap (λ x. es ++ x) l.events; nodes = ap (λ x. c + x) l.nodes; steps = ap (λ x. q + x) l.steps }
  added_to (Stops e) es c q r s l = (
    (λ w. let p = l.0 w in (p.0, ap (λ x. es ++ x) p.1 ∙ sym (append_assoc es r.events p.0))),
    λ ne. let k = l.1 ne in record { out = k.out; world = k.world; events = ap (λ x. es ++ x) k.events; nodes = ap (λ x. c + x) k.nodes; steps = ap (λ x. q + x) k.steps },
  )

  module _ {A B : Type 0} (f : A → World → Result B) (k : (a : A) (w : World) → Longer u (f a w) (f a (longer u w))) where
    -- the events of a part come first
    first_events : (o : Outcome A) (w : World) (es : List Event) (c q : ℕ) → Prefix es (carried o w es c q f).events
    unfolding added
    first_events (Stops e) w es c q = ([], sym (append-nil es))
    first_events (Gives a) w es c q = ((f a w).events, refl)

    carried_longer : (o : Outcome A) (r s : Result A) → LongerTo u o r s → Longer u (carried o r.world r.events r.nodes r.steps f) (carried s.out s.world s.events s.nodes s.steps f)
    unfolding added
    carried_longer (Gives a) r s l =
        let x = k a r.world in
        let same : carried s.out s.world s.events s.nodes s.steps f ≡ added r.events r.nodes r.steps (f a (longer u r.world)) =
        ap (λ o. carried o s.world s.events s.nodes s.steps f) l.out
        ∙ ap (λ w. added s.events s.nodes s.steps (f a w)) l.world
        ∙ ap (λ es. added es s.nodes s.steps (f a (longer u r.world))) l.events
        ∙ ap (λ c. added r.events c s.steps (f a (longer u r.world))) l.nodes
        ∙ ap (λ q. added r.events r.nodes q (f a (longer u r.world))) l.steps in
        subst (λ (z : Result B). Longer u (added r.events r.nodes r.steps (f a r.world)) z) (sym same) (record { by = added_to (f a r.world).out r.events r.nodes r.steps (f a r.world) (f a (longer u r.world)) x.by })
    carried_longer (Stops e) r s l = record {
      by = (
        (λ w. let p = l.0 w in let q = first_events s.out s.world s.events s.nodes s.steps in (p.0 ++ q.0, q.1 ∙ ap (λ x. x ++ q.0) p.1 ∙ append_assoc r.events p.0 q.0)),
        λ ne. let z = l.1 ne in
            subst (λ (o : Outcome A). Alike u (Stops e) (carried (Stops e) r.world r.events r.nodes r.steps f) (carried o s.world s.events s.nodes s.steps f)) (sym z.out) (record { out = refl; world = z.world; events = z.events; nodes = z.nodes; steps = z.steps }),
      );
    }

    pub bind_longer : (r s : Result A) → Longer u r s → Longer u (bind r f) (bind s f)
    unfolding bind
    bind_longer r s l = carried_longer r.out r s l.by

  pub either_longer : {A : Type 0} (b : Bool) (r s r' s' : Result A) → Longer u r r' → Longer u s s' → Longer u (if b then r else s) (if b then r' else s')
  either_longer true r s r' s' x y = x
  either_longer false r s r' s' x y = y

  either_reply : (b : Bool) (r s r' s' : Reply) → SameReply u r r' → SameReply u s s' → SameReply u (if b then r else s) (if b then r' else s')
  either_reply true r s r' s' x y = x
  either_reply false r s r' s' x y = y

  replied_same : (v : Value) (w : World) → SameReply u (replied v w) (replied v (longer u w))
  replied_same v w = record { out = refl; world = refl }

  stopped_same : (e : RunEnd) (w : World) → SameReply u (stopped e w) (stopped e (longer u w))
  stopped_same e w = record { out = refl; world = refl }

  ------------------------------------------------------------
  -- Primitive operations

  pub found_same : (o : Option Value) (w : World) → SameReply u (found o w) (found o (longer u w))
  found_same None w = stopped_same Wrong w
  found_same (Some v) w = replied_same v w

  built_same : (place : Place) (bytes : List ℕ) (w : World) → SameReply u (text_built place bytes w) (text_built place bytes (longer u w))
  built_same place bytes w = either_reply (nat_lt w.built most_texts) _ _ _ _ (record { out = refl; world = refl }) (record { out = refl; world = refl })

  computed_same : (place : Place) (w : World) (x : Computed) → SameReply u (computed place w x) (computed place (longer u w) x)
  computed_same place w (GivesNumber n) = replied_same (Int n) w
  computed_same place w (GivesTruth b) = replied_same (Truth b) w
  computed_same place w (Builds bytes) = built_same place bytes w
  computed_same place w (Traps kind) = stopped_same (Trap kind place) w
  computed_same place w Misfits = stopped_same Wrong w

  pub operated_same : (edition : Edition) (place : Place) (o : Option Operator) (vs : List Value) (w : World) → SameReply u (operated edition place o vs w) (operated edition place o vs (longer u w))
  operated_same edition place None vs w = stopped_same Wrong w
  operated_same edition place (Some o) vs w = computed_same place w _

  set_same : (a i : ℕ) (v : Value) (w : World) (t : Option Thing) → SameReply u (field_set a i v w t) (field_set a i v (longer u w) t)
  set_same a i v w None = stopped_same Wrong w
  set_same a i v w (Some t) = either_reply (nat_lt i (length t.fields)) _ _ _ _ (record { out = refl; world = refl }) (record { out = refl; world = refl })

  write_same : (this : Option ℕ) (i : ℕ) (v : Value) (w : World) → SameReply u (write_field this i v w) (write_field this i v (longer u w))
  write_same None i v w = stopped_same Wrong w
  write_same (Some a) i v w = set_same a i v w (slice_get w.objects a)

  pub assigned_same : (sight : Sight) (name : Binding) (v : Value) (w : World) → SameReply u (assigned sight name v w) (assigned sight name v (longer u w))
  assigned_same sight (to.Field i) v w = write_same sight.this i v w
  assigned_same sight (to.Variable x) v w = stopped_same Wrong w
  assigned_same sight (to.Own k) v w = stopped_same Wrong w

  pub added_same : (a : ℕ) (v : Value) (w : World) (t : Option Thing) → SameReply u (field_added a v w t) (field_added a v (longer u w) t)
  added_same a v w None = stopped_same Wrong w
  added_same a v w (Some t) = record { out = refl; world = refl }

  with_same : (place : Place) (sight : Sight) (l : ℕ) (fields : List Value) (w : World) (o : Option Named) → SameReply u (object_with place sight l fields w o) (object_with place sight l fields (longer u w) o)
  with_same place sight l fields w None = stopped_same Wrong w
  with_same place sight l fields w (Some captured) =
      either_reply (nat_lt w.made most_objects) _ _ _ _ (record { out = refl; world = refl }) (record { out = refl; world = refl })

  pub new_same : (place : Place) (sight : Sight) (l : ℕ) (fields : List Value) (w : World) (o : Option Literal) → SameReply u (object_new place sight l fields w o) (object_new place sight l fields (longer u w) o)
  new_same place sight l fields w None = stopped_same Wrong w
  new_same place sight l fields w (Some literal) =
      either_reply (nat_eq (length fields) (length literal.fields)) _ _ _ _ (with_same place sight l fields w (captured_from sight.variables literal.captures)) (stopped_same Wrong w)

  pub name_same : (s : Starts) (sight : Sight) (w : World) (name : Binding) → SameReply u (found (value_of_name s sight w name) w) (found (value_of_name s sight (longer u w) name) (longer u w))
  name_same s sight w (to.Variable v) = found_same _ w
  name_same s sight w (to.Field i) = in_object sight.this
    where
      in_object : (this : Option ℕ) → SameReply u (found (field_in (object_of w this) i) w) (found (field_in (object_of (longer u w) this) i) (longer u w))
      in_object None = found_same None w
      in_object (Some a) = found_same _ w
  name_same s sight w (to.Own k) = found_same _ w

  -- one instruction, and a reply that does not look at the answers
  pub settled_longer : (r s : Reply) → SameReply u r s → Longer u (tick (settle r)) (tick (settle s))
  settled_longer r s l = tick_longer _ _ (settle_longer r s l)

  ------------------------------------------------------------
  -- Operations on grants

  answer_same : (a : Answer) (w : World) → SameReply u (value_answered a w) (value_answered a (longer u w))
  answer_same (answer.Bytes text) w = record { out = refl; world = refl }
  answer_same (answer.Truth b) w = replied_same (Truth b) w
  answer_same (answer.Number n) w = replied_same (Int n) w
  answer_same answer.Unit w = replied_same Nothing w

  -- what tapes tell over more answers
  data ToldMore : Told → Told → Type 0 where
    more_answers : (a : Answer) (t : Tapes) → ToldMore (Answers a t) (Answers a (spliced t u))
    more_fails : (t : Tapes) → ToldMore (Fails t) (Fails (spliced t u))
    more_waits : (x : Told) → ToldMore Waits x

  spliced_with : (kind : Kind) (rest : List (Option Answer)) (t : Tapes) → with_tape kind (rest ++ tape_of kind u) (spliced t u) ≡ spliced (with_tape kind rest t) u
  spliced_with Console rest t = refl
  spliced_with Folder rest t = refl
  spliced_with Clock rest t = refl
  spliced_with Random rest t = refl

  tape_spliced : (kind : Kind) (t : Tapes) → tape_of kind (spliced t u) ≡ tape_of kind t ++ tape_of kind u
  tape_spliced Console t = refl
  tape_spliced Folder t = refl
  tape_spliced Clock t = refl
  tape_spliced Random t = refl

  told_fits : (b : Bool) (a : Answer) (kind : Kind) (rest : List (Option Answer)) (t : Tapes) → ToldMore (if b then Answers a (with_tape kind rest t) else Waits) (if b then Answers a (with_tape kind (rest ++ tape_of kind u) (spliced t u)) else Waits)
  told_fits true a kind rest t = subst (λ (x : Tapes). ToldMore (Answers a (with_tape kind rest t)) (Answers a x)) (sym (spliced_with kind rest t)) (more_answers a (with_tape kind rest t))
  told_fits false a kind rest t = more_waits Waits

  told_more : (most : ℕ) (o : OpName) (kind : Kind) (tape : List (Option Answer)) (t : Tapes) → ToldMore (told_by most o kind tape t) (told_by most o kind (tape ++ tape_of kind u) (spliced t u))
  told_more most o kind [] t = more_waits _
  told_more most o kind (None ∷ tape) t = subst (λ (x : Tapes). ToldMore (Fails (with_tape kind tape t)) (Fails x)) (sym (spliced_with kind tape t)) (more_fails (with_tape kind tape t))
  told_more most o kind (Some a ∷ tape) t = told_fits (fits_within most o a) a kind tape t

  asked_more : (most : ℕ) (op : Op) (t : Tapes) → ToldMore (asked_within most op t) (asked_within most op (spliced t u))
  asked_more most op t =
      subst (λ (tape : List (Option Answer)). ToldMore (asked_within most op t) (told_by most (name_of op) (kind_of op) tape (spliced t u))) (sym (tape_spliced (kind_of op) t)) (told_more most (name_of op) (kind_of op) (tape_of (kind_of op) t) t)

  answered_longer : (grant : List ℕ) (op : Op) (w : World) (x y : Told) → ToldMore x y → Longer u (answered grant op w x) (answered grant op (longer u w) y)
  unfolding stop
  answered_longer grant op w x y (more_answers a t) = told_longer _ _ _ (settle_longer _ _ (answer_same a (record w { tapes = t })))
  answered_longer grant op w x y (more_fails t) = told_longer _ _ _ (stop_longer (DeviceFailed grant (name_of op)) (record w { tapes = t }))
  answered_longer grant op w x y (more_waits z) = record { by = ((λ e. ((answered grant op (longer u w) z).events, refl)), λ ne. absurd (ne refl)) }

  requested_longer : (edition : Edition) (place : Place) (grant : List ℕ) (w : World) (op : Option Op) → Longer u (requested edition place grant w op) (requested edition place grant (longer u w) op)
  requested_longer edition place grant w None = stop_longer Wrong w
  requested_longer edition place grant w (Some op) =
      either_longer (not (has_good_name op)) _ _ _ _ (stop_longer (Trap BadName place) w)
      (either_longer (answers_text op && not (nat_lt w.built most_texts)) _ _ _ _ (stop_longer (Trap Crowded place) w) (answered_longer grant op w _ _ (asked_more edition.longest op w.tapes)))

  requested_of_longer : (edition : Edition) (place : Place) (g : Option GrantIs) (method : List ℕ) (w : World) (texts : Option (List (List ℕ))) → Longer u (requested_of edition place g method w texts) (requested_of edition place g method (longer u w) texts)
  requested_of_longer edition place None method w texts = stop_longer Wrong w
  requested_of_longer edition place (Some g) method w None = stop_longer Wrong w
  requested_of_longer edition place (Some g) method w (Some texts) = requested_longer edition place g.name w (operation_of g.primitive method texts)

  pub perform_longer : (edition : Edition) (place : Place) (g : Option GrantIs) (method : List ℕ) (vs : List Value) (w : World) → Longer u (perform edition place g method vs w) (perform edition place g method vs (longer u w))
  unfolding perform
  perform_longer edition place g method vs w = requested_of_longer edition place g method w (texts_of vs)
