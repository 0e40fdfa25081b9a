-- The code of instances, one after the other, and of the program does what the program means.
use Rattle.std.proofs.Common.{codes, ◌≡◌, ◌≢◌, ℕ, suc, ◌+◌, ◌<◌, true, false, List, [], ◌∷◌, ◌++◌, length, drop, map, replicate, Some, None, refl, sym, ap, ◌∙◌, subst, arith, append_assoc, if◌then◌else◌}
use Rattle.std.proofs.lemmas.Bool.{lt-ltb}
use Rattle.std.proofs.lemmas.List.{length-replicate}
use Rattle.std.specs.Prelude.{slice_get}
use Rattle.wy_types.specs.declared.resolved.ScopeKind.{ScopeKind}
use Rattle.wy_types.specs.declared.resolved.ScopeKind.TheVariants as kind
use Rattle.wy_types.specs.Code.{Values, Block}
use Rattle.wy_types.specs.Core.{ScopeFits, StartIs, StartFits, ProgramIsLast}
use Rattle.wy_types.specs.Vals.{literal_fields, start_vals, bodies_vals}
use Rattle.wy_types.specs.Program.{Program, Scope, Start, Init, Run}
use Rattle.wy_device.specs.declared.deed.Event.{Event}
use Rattle.wy_device.specs.declared.deed.Event.TheVariants.{Enter, Leave}
use Rattle.wy_device.specs.RunEnds.{RunEnd, Ended, Wrong}
use Rattle.wy_meaning.specs.Values.{Value, World, Outcome, Gives, Stops}
use Rattle.wy_meaning.specs.Starts.{Started, Starts, all_started, scope_started, scope_of_instance, last_scope}
use Rattle.wy_meaning.specs.Eval.{Calls, eval_block, open_calls}
use Rattle.wy_meaning.specs.Results.{Result, give, node, tick, told, added, bind, whole}
use Rattle.wy_meaning.specs.Start.{fill_all, start_of_scope, outside, run_start, begin, end_of, world_at_first, meaning}
use Rattle.wy_device.specs.Tapes.{Tapes}
use Rattle.wy_code.specs.declared.code.Body.{Body}
use Rattle.wy_code.specs.declared.code.Code.{Code}
use Rattle.wy_code.specs.declared.instruction.Instruction.TheVariants.{Finish}
use Rattle.wy_code.specs.Stores as word
use Rattle.wy_code.specs.Stores.{Word, Store}
use Rattle.wy_code.specs.Machine.{Frame, State, Next, Go, Halt, step, all_instances, this_at_start, start_in, begin_body, begin_instance, begin_next}
use Rattle.wy_code.specs.Running.{Ran, and_then, enter_first, steps, store_at_first, machine}
use Rattle.wy_lower.specs.Inside.{Inside}
use Rattle.wy_lower.specs.Listing.{one, block_listing, fields_listing}
use Rattle.wy_lower.specs.Lowerable.{Lowerable}
use Rattle.wy_lower.specs.Lowering.{is_program, inside_start, start_name, start_listing, start_code, instance_code, lowered}
use Rattle.wy_lower.specs.Operands.{start_operands, fields_operands, block_operands}
use Rattle.wy_lower.specs.Parts.{start_parts}
use Rattle.wy_lower.proofs.Addresses.{Stands, first_stands, rest_stands, One, state, pushed, acts}
use Rattle.wy_lower.proofs.Allowed.{Allowed, apart_first}
use Rattle.wy_lower.proofs.Bodies.{start_good, val_is}
use Rattle.wy_lower.proofs.Calls.{whole_stands, scope_literals, calls_run}
use Rattle.wy_lower.proofs.Codes.{coded, in_list}
use Rattle.wy_lower.proofs.Entering.{instance_holds, program_holds}
use Rattle.wy_lower.proofs.Forms.{block_runs}
use Rattle.wy_lower.proofs.Grants.{has_grants}
use Rattle.wy_lower.proofs.Leads.{Ends, RunsTo, Runs, leads_ends, one_ends}
use Rattle.wy_lower.proofs.Looking.{get_front, get_behind, get_within, get_drop}
use Rattle.wy_lower.proofs.Making.{names_of}
use Rattle.wy_lower.proofs.NamesFound.{Belongs, length_map}
use Rattle.wy_lower.proofs.Ready.{Ready, Fine}
use Rattle.wy_lower.proofs.Relation.{SameWorld, later_itself}
use Rattle.wy_lower.proofs.Setting.{set_next}
use Rattle.wy_lower.proofs.Standing.{bodies_stand}
use Rattle.wy_lower.proofs.StartingRuns.{HasFields, Unstarted, Filling, Filled, fill_runs}
use Rattle.wy_lower.proofs.First.{instance_stands, first_world, first_unstarted}

module _ (g : Code) (n : ℕ) where
  -- after this beginning the run ends so, at its q-th step
  pub record BeginEnds (t : Next) (q : ℕ) (es : List Event) (e : RunEnd) : Type 0 where
    pub by : (k : ℕ) → enter_first t (steps g n (q + k)) ≡ record { end = e; events = es; taken = q }

  go_ends : (fs : List Event) (s : State) (q : ℕ) (es : List Event) (e : RunEnd) → Ends g n s q es e → BeginEnds (Go fs s) q (fs ++ es) e
  go_ends fs s q es e h = record {
    by = λ k. ap (λ (r : Ran). let x : Ran = record { end = r.end; events = fs ++ r.events; taken = r.taken } in x)
        (h.by k);
  }

  -- a step counts, and entering the first body does not
  entered : (t : Next) (rest : State → Ran) →
      and_then t rest ≡ record { end = (enter_first t rest).end; events = (enter_first t rest).events; taken = suc (enter_first t rest).taken }
  entered (Go es s) rest = refl
  entered (Halt e es) rest = refl

  step_ends : (s : State) (t : Next) (q : ℕ) (es : List Event) (e : RunEnd) → step g n s ≡ t → BeginEnds t q es e → Ends g n s (suc q) es e
  unfolding steps
  step_ends s t q es e st h = record {
    by = λ k.
        let m : suc q + k ≡ suc (q + k) = omega arith in
        ap (λ (j : ℕ). steps g n j s) m
        ∙ ap (λ (x : Next). and_then x (steps g n (q + k))) st
        ∙ entered t (steps g n (q + k))
        ∙ ap (λ (r : Ran). let x : Ran = record { end = r.end; events = r.events; taken = suc r.taken } in x) (h.by k);
  }

  more_ends : (t : Next) (q r : ℕ) (es fs : List Event) (e : RunEnd) → q ≡ r → es ≡ fs → BeginEnds t q es e → BeginEnds t r fs e
  more_ends t q r es fs e a b h = subst (λ (k : ℕ). BeginEnds t k fs e) a (subst (λ (l : List Event). BeginEnds t q l e) b h)

  begun_ends : (t u : Next) (q : ℕ) (es : List Event) (e : RunEnd) → t ≡ u → BeginEnds u q es e → BeginEnds t q es e
  begun_ends t u q es e same h = subst (λ (y : Next). BeginEnds y q es e) (sym same) h

  module _ {X : Type 0} (fine : Value → World → X → Type 0) (next : Value → World → X → State) (fs : List Event) (enter : Event) (s : State) where
    entered_events : (es more : List Event) → (fs ++ enter ∷ []) ++ (es ++ (Leave ∷ more)) ≡ fs ++ ((enter ∷ (es ++ Leave ∷ [])) ++ more)
    entered_events es more =
        append_assoc fs (enter ∷ []) (es ++ (Leave ∷ more))
        ∙ ap (λ (l : List Event). fs ++ (enter ∷ l)) (sym (append_assoc es (Leave ∷ []) more))

    -- a body that starts, and what comes after it
    starts_to : (o : Outcome Value) (w : World) (es : List Event) (c q : ℕ) (f : Value → World → Result Value) → RunsTo g n fine next s o w es q →
        ((v : Value) (w : World) (x : X) → fine v w x → end_of (f v w).out ≢ Wrong → (t : Next) × (step g n (next v w x) ≡ t) ×
        BeginEnds t (f v w).steps (Leave ∷ (f v w).events) (end_of (f v w).out)) →
        end_of (bind (whole enter (record { out = o; world = w; events = es; nodes = c; steps = q })) f).out ≢ Wrong →
        BeginEnds (Go (fs ++ enter ∷ []) s) (bind (whole enter (record { out = o; world = w; events = es; nodes = c; steps = q })) f).steps
        (fs ++ (bind (whole enter (record { out = o; world = w; events = es; nodes = c; steps = q })) f).events)
        (end_of (bind (whole enter (record { out = o; world = w; events = es; nodes = c; steps = q })) f).out)
    unfolding bind whole added told node tick give
    starts_to (Stops e) w es c q f h rest fair = more_ends _ q q _ _ e refl (append_assoc fs (enter ∷ []) es)
        (go_ends (fs ++ enter ∷ []) s q es e (h fair))
    starts_to (Gives a) w es c q f h rest fair =
        let r = rest a w h.0 h.1 fair in
        let end = leads_ends g n s (next a w h.0) q (suc (f a w).steps) es (Leave ∷ (f a w).events) (end_of (f a w).out) h.2
        (step_ends (next a w h.0) r.0 (f a w).steps (Leave ∷ (f a w).events) (end_of (f a w).out) r.1 r.2) in
        more_ends _ (q + suc (f a w).steps) _ _ _ _ (omega arith) (entered_events es (f a w).events) (go_ends (fs ++ enter ∷ []) s _ _ _ end)

    pub starts_then : (r : Result Value) (f : Value → World → Result Value) → Runs g n fine next s r →
        ((v : Value) (w : World) (x : X) → fine v w x → end_of (f v w).out ≢ Wrong → (t : Next) × (step g n (next v w x) ≡ t) ×
        BeginEnds t (f v w).steps (Leave ∷ (f v w).events) (end_of (f v w).out)) →
        end_of (bind (whole enter r) f).out ≢ Wrong →
        BeginEnds (Go (fs ++ enter ∷ []) s) (bind (whole enter r) f).steps (fs ++ (bind (whole enter r) f).events)
        (end_of (bind (whole enter r) f).out)
    starts_then r f h rest fair = starts_to r.out r.world r.events r.nodes r.steps f h.by rest fair

    ends_to : (o : Outcome Value) (w : World) (es : List Event) (c q : ℕ) → RunsTo g n fine next s o w es q →
        ((v : Value) (w : World) (x : X) → fine v w x → step g n (next v w x) ≡ Halt Ended (Leave ∷ [])) →
        end_of (whole enter (record { out = o; world = w; events = es; nodes = c; steps = q })).out ≢ Wrong →
        BeginEnds (Go (fs ++ enter ∷ []) s) (whole enter (record { out = o; world = w; events = es; nodes = c; steps = q })).steps
        (fs ++ (whole enter (record { out = o; world = w; events = es; nodes = c; steps = q })).events)
        (end_of (whole enter (record { out = o; world = w; events = es; nodes = c; steps = q })).out)
    unfolding bind whole added told node tick give
    ends_to (Stops e) w es c q h last fair = more_ends _ q q _ _ e refl (append_assoc fs (enter ∷ []) es)
        (go_ends (fs ++ enter ∷ []) s q es e (h fair))
    ends_to (Gives a) w es c q h last fair =
        let end = leads_ends g n s (next a w h.0) q (suc 0) es (Leave ∷ []) Ended h.2
        (one_ends g n (next a w h.0) Ended (Leave ∷ []) (last a w h.0 h.1)) in
        more_ends _ (q + suc 0) _ _ _ _ refl (append_assoc fs (enter ∷ []) (es ++ Leave ∷ [])) (go_ends (fs ++ enter ∷ []) s _ _ _ end)

    -- the last body that starts
    pub starts_last : (r : Result Value) → Runs g n fine next s r →
        ((v : Value) (w : World) (x : X) → fine v w x → step g n (next v w x) ≡ Halt Ended (Leave ∷ [])) → end_of (whole enter r).out ≢ Wrong →
        BeginEnds (Go (fs ++ enter ∷ []) s) (whole enter r).steps (fs ++ (whole enter r).events) (end_of (whole enter r).out)
    starts_last r h last fair = ends_to r.out r.world r.events r.nodes r.steps h.by last fair

------------------------------------------------------------
-- What a scope starts with

init_of : (k : ScopeKind) (st : Start) → is_program k ≡ false → StartIs k st → (values : Values) × (st ≡ Init values)
init_of k (Init values) h i = (values, refl)
init_of kind.Pure (Run block) h i = absurd i
init_of kind.Resource (Run block) h i = absurd i
init_of kind.Plain (Run block) h i = absurd i
init_of kind.Program (Run block) h i = absurd cc

run_of : (k : ScopeKind) (st : Start) → is_program k ≡ true → StartIs k st → (block : Block) × (st ≡ Run block)
run_of k (Run block) h i = (block, refl)
run_of kind.Program (Init values) h i = absurd i
run_of kind.Pure (Init values) h i = absurd cc
run_of kind.Resource (Init values) h i = absurd cc
run_of kind.Plain (Init values) h i = absurd cc

-- the program is the last scope
last_is_program : (scopes : List Scope) → ProgramIsLast scopes → (sc : Scope) × (slice_get scopes (last_scope scopes) ≡ Some sc) ×
    (is_program sc.kind ≡ true)
last_is_program [] h = absurd h
last_is_program (sc ∷ []) h = (sc, refl, ap is_program h)
last_is_program (sc ∷ t ∷ rest) h =
    let r = last_is_program (t ∷ rest) h.1 in
    let z : last_scope (t ∷ rest) + 1 ≡ suc (last_scope (t ∷ rest)) = omega arith in
    (r.0, ap (slice_get (sc ∷ t ∷ rest)) z ∙ r.1, r.2)

module _ (p : Program) (s : Starts) (ok : Lowerable p s) (n : ℕ) where
  abbrev g : Code
  g = lowered p s

  abbrev calls : Calls
  calls = open_calls p s n

  abbrev first_slots : ℕ → Scope → List Word
  first_slots x sc = this_at_start g x ∷ replicate (length (start_vals sc.start)) word.Nothing

  abbrev first_state : ℕ → Scope → Store → State
  first_state x sc m = state x (start_code p s sc) [] 0 (first_slots x sc) [] (record m { next = suc x })

  -- an instance or the program begins at its scope's `init` or `run`
  begins_at : (x : ℕ) (i : Started) (sc : Scope) → slice_get (all_started s) x ≡ Some i → slice_get p.scopes i.scope ≡ Some sc →
      (fs : List Event) (m : Store) → m.next ≡ x → begin_next g fs m ≡ Go (fs ++ Enter i.name (start_name sc.start) ∷ []) (first_state x sc m)
  begins_at x i sc here stands fs m e =
      let c = coded p s x i here in
      let b = bodies_stand p s i.scope sc stands in
      ap (λ (y : ℕ). begin_instance g y fs m (slice_get (all_instances g) y)) e
      ∙ ap (begin_instance g x fs m) c.is
      ∙ ap (λ (y : ℕ). begin_body g x c.instance.name fs m (start_in g (slice_get g.scopes y))) c.scope
      ∙ ap (λ o. begin_body g x c.instance.name fs m (start_in g o)) b.scope
      ∙ ap (begin_body g x c.instance.name fs m) b.start
      ∙ ap (λ (l : List ℕ). Go (fs ++ Enter l (start_name sc.start) ∷ []) (first_state x sc m)) c.name

  many_instances : length g.instances ≡ length s.instances
  unfolding lowered
  many_instances = length_map instance_code s.instances

  this_is : (x : ℕ) → x < length s.instances → this_at_start g x ≡ word.Object x
  this_is x h = ap (λ b. if b then word.Object x else word.Nothing) (lt-ltb x (length g.instances) (omega (arith, many_instances)))

  none_after : (x : ℕ) → x ≡ length s.instances → slice_get (all_instances g) (suc x) ≡ None
  unfolding lowered
  none_after x e =
      let z = length_map instance_code s.instances in
      get_behind (map instance_code s.instances) (instance_code (record (s.main) { actuals = [] }) ∷ []) 1 (suc x) (omega arith)

  module _ (x : ℕ) (sc : Scope) (c : ℕ) (there : slice_get p.scopes c ≡ Some sc) (stands : scope_of_instance p s x ≡ Some sc) where
    abbrev inside : Inside
    inside = inside_start p s sc

    abbrev body : Body
    body = start_code p s sc

    fits : ScopeFits p sc
    fits = ok.core.scopes sc (in_list p.scopes c sc there)

    start_belongs : Belongs p s sc (inside_start p s sc) x
    start_belongs = record { stands = stands; program = refl; owns = refl; actuals = refl; texts = refl; methods = refl }

    start_allowed : Allowed p s sc (inside_start p s sc) (outside x) (start_parts sc.start) (start_vals sc.start)
    start_allowed = record {
      good = start_good p s sc (in_list p.scopes c sc there) (ok.made c sc there);
      own = λ k j. val_is k (start_vals sc.start) j;
      apart = apart_first (start_vals sc.start) (bodies_vals sc.bodies) fits.vals;
      fresh = λ k j. refl;
    }

    long : length (first_slots x sc) ≡ 1 + 0 + length (start_vals sc.start)
    long = let h = length-replicate (length (start_vals sc.start)) word.Nothing in omega arith

    abbrev code_end : ℕ
    code_end = 0 + length (start_listing inside sc.start)

    start_stands : Stands body 0 (start_listing inside sc.start ++ one sc.start_place Finish) (length body.instructions)
    start_stands = whole_stands body _ refl

    -- at its end the next instance begins
    finishes : (slots operands : List Word) (m : Store) → step g n (state x body [] code_end slots operands m) ≡ begin_next g (Leave ∷ []) m
    finishes slots operands m = acts x body [] g n code_end sc.start_place Finish (length body.instructions) slots operands m
        (rest_stands body 0 _ (one sc.start_place Finish) _ start_stands)

    module _ (w : World) (m : Store) (same : SameWorld p s w m) where
      abbrev first_store : Store
      first_store = record m { next = suc x }

      same_first : SameWorld p s w first_store
      same_first = record {
        count = same.count;
        objects = same.objects;
        made = same.made;
        built = same.built;
        tapes = same.tapes;
        written =
            same.written;
      }

      module _ (values : Values) (e : sc.start ≡ Init values) (is_module : is_program sc.kind ≡ false) (l : x < length s.instances)
          (un : Unstarted w x (length s.instances)) where
        abbrev Fills : Value → World → One → Type 0
        Fills v w1 c =
            Filled p s ok (has_grants p s ok) n calls (calls_run p s ok n n) sc inside x start_belongs
            (scope_literals p s ok sc inside x stands) body refl is_module (suc x) (length s.instances)
            (length (literal_fields (slice_get sc.literals 0))) v w1 c

        own : HasFields w x 0
        own = un.by x (omega arith) l

        filling : Filling p s ok (has_grants p s ok) n calls (calls_run p s ok n n) sc inside x start_belongs
            (scope_literals p s ok sc inside x stands) body refl is_module (suc x) (length s.instances) 0 w first_store (first_slots x sc)
        filling = record {
          world = same_first;
          holds = instance_holds inside x m.texts w (first_slots x sc) long (ap (λ (y : Word). Some y) (this_is x l)) own.thing own.is own.instance
              (ap names_of own.captured);
          object = own;
          next = refl;
          others = record { by = λ y a b. un.by y (omega arith) b };
        }

        -- the fields of an instance
        init_runs : Runs g n Fills (set_next x body [] code_end []) (first_state x sc m) (fill_all p s calls (outside x) x values w)
        init_runs =
            let starts : StartFits p sc (Init values) = subst (λ (st : Start). StartFits p sc st) e fits.starts.1 in
            let allowed = subst (λ (st : Start). Allowed p s sc (inside_start p s sc) (outside x) (start_parts st) (start_vals st)) e start_allowed in
            let listed : Stands body 0 (fields_listing inside 0 0 values) code_end = subst (λ l. Stands body 0 l code_end)
            (ap (start_listing inside) e) (first_stands body 0 (start_listing inside sc.start) (one sc.start_place Finish) _ start_stands) in
            let operands : start_operands sc.start ≡ fields_operands values = ap start_operands e in
            fill_runs p s ok (has_grants p s ok) n calls (calls_run p s ok n n) sc inside x start_belongs
            (scope_literals p s ok sc inside x stands) body refl is_module (suc x) (length s.instances)
            values [] starts.1 allowed 0 0 code_end listed (omega (arith, starts.0)) w first_store (first_slots x sc) filling
            (omega (arith, operands))

      module _ (block : Block) (e : sc.start ≡ Run block) (is_main : is_program sc.kind ≡ true) where
        ready : Ready p s inside x (outside x) w first_store w first_store (first_slots x sc)
        ready = record {
          world = same_first;
          holds = program_holds inside x m.texts w (first_slots x sc) long is_main;
          later =
              later_itself w first_store;
        }

        -- the program's own block
        run_runs : Runs g n (Fine p s inside x (outside x) w first_store) (pushed x body [] code_end []) (first_state x sc m)
            (eval_block p s calls (outside x) block w)
        run_runs =
            let starts : StartFits p sc (Run block) = subst (λ (st : Start). StartFits p sc st) e fits.starts.1 in
            let allowed = subst (λ (st : Start). Allowed p s sc (inside_start p s sc) (outside x) (start_parts st) (start_vals st)) e start_allowed in
            let listed : Stands body 0 (block_listing inside 0 block) code_end = subst (λ l. Stands body 0 l code_end) (ap (start_listing inside) e)
            (first_stands body 0 (start_listing inside sc.start) (one sc.start_place Finish) _ start_stands) in
            let operands : start_operands sc.start ≡ block_operands block = ap start_operands e in
            let deep : n + length {A = Frame} [] ≡ n = omega arith in
            block_runs p s ok (has_grants p s ok) n n calls (calls_run p s ok n n) sc inside x start_belongs
            (scope_literals p s ok sc inside x stands) None body [] deep
            block (outside x) [] starts allowed 0 code_end listed w first_store w first_store (first_slots x sc) ready [] (omega (arith, operands))

  run_start_is : (x : ℕ) (sc : Scope) (st : Start) (w : World) → scope_of_instance p s x ≡ Some sc → sc.start ≡ st →
      run_start p s calls x w (start_of_scope (scope_of_instance p s x)) ≡ run_start p s calls x w (Some st)
  run_start_is x sc st w e h = ap (λ o. run_start p s calls x w (start_of_scope o)) e ∙ ap (λ (y : Start). run_start p s calls x w (Some y)) h

  abbrev Begins : List Event → Store → Result Value → Type 0
  Begins fs m r = end_of r.out ≢ Wrong → BeginEnds g n (begin_next g fs m) r.steps (fs ++ r.events) (end_of r.out)

  -- an instance, and then what comes after it
  instance_begins : (x : ℕ) (i : Started) → slice_get s.instances x ≡ Some i → (w : World) (m : Store) (fs : List Event) → SameWorld p s w m →
      m.next ≡ x → Unstarted w x (length s.instances) → (rest : Value → World → Result Value) →
      ((v : Value) (w1 : World) (m1 : Store) → SameWorld p s w1 m1 → m1.next ≡ suc x → Unstarted w1 (suc x) (length s.instances) →
      Begins (Leave ∷ []) m1 (rest v w1)) →
      Begins fs m (bind (whole (Enter i.name (codes "init")) (run_start p s calls x w (start_of_scope (scope_of_instance p s x)))) rest)
  instance_begins x i here w m fs same nx un rest more fair =
      let h = ok.instances x i here in
      let stands : scope_of_instance p s x ≡ Some h.scope = instance_stands p s ok x i here in
      let starts = (ok.core.scopes h.scope (in_list p.scopes i.scope h.scope h.stands)).starts in
      let st = init_of h.scope.kind h.scope.start h.is_module starts.0 in
      let l : x < length s.instances = get_within s.instances x i here in
      let begun : begin_next g fs m ≡ Go (fs ++ Enter i.name (codes "init") ∷ []) (first_state x h.scope m) =
      begins_at x i h.scope (get_front s.instances (s.main ∷ []) x i here) h.stands fs m nx
      ∙ ap (λ (y : Start). Go (fs ++ Enter i.name (start_name y) ∷ []) (first_state x h.scope m)) st.1 in
      let runs = init_runs x h.scope i.scope h.stands stands w m same st.0 st.1 h.is_module l un in
      begun_ends g n _ _ _ _ _ begun
      (starts_then g n (Fills x h.scope i.scope h.stands stands w m same st.0 st.1 h.is_module l un)
      (set_next x (start_code p s h.scope) [] (code_end x h.scope i.scope h.stands stands) []) fs (Enter i.name (codes "init"))
      (first_state x h.scope m)
      (run_start p s calls x w (start_of_scope (scope_of_instance p s x))) rest
      (subst (λ (q : Result Value). Runs g n (Fills x h.scope i.scope h.stands stands w m same st.0 st.1 h.is_module l un)
      (set_next x (start_code p s h.scope) [] (code_end x h.scope i.scope h.stands stands) []) (first_state x h.scope m) q)
      (sym (run_start_is x h.scope (Init st.0) w stands st.1)) runs)
      (λ v w1 c f right. (
        begin_next g (Leave ∷ []) c.store,
        finishes x h.scope i.scope h.stands stands c.slots [] c.store,
        more v w1 c.store f.by.world f.by.next f.by.others right,
      ))
      fair)

  -- the program, after its instances
  main_begins : (x : ℕ) → x ≡ length s.instances → (w : World) (m : Store) (fs : List Event) → SameWorld p s w m → m.next ≡ x →
      Begins fs m (whole (Enter s.main.name (codes "run")) (run_start p s calls x w (start_of_scope (scope_of_instance p s x))))
  main_begins x here w m fs same nx fair =
      let started : slice_get (all_started s) x ≡ Some s.main = (let z : x ≡ length s.instances + 0 = omega arith in
      get_behind s.instances (s.main ∷ []) 0 x z) in
      let last = last_is_program p.scopes ok.core.program in
      let there : slice_get p.scopes s.main.scope ≡ Some last.0 = ap (slice_get p.scopes) ok.main ∙ last.1 in
      let stands : scope_of_instance p s x ≡ Some last.0 = ap (scope_started p) started ∙ there in
      let starts = (ok.core.scopes last.0 (in_list p.scopes s.main.scope last.0 there)).starts in
      let st = run_of last.0.kind last.0.start last.2 starts.0 in
      let begun : begin_next g fs m ≡ Go (fs ++ Enter s.main.name (codes "run") ∷ []) (first_state x last.0 m) =
      begins_at x s.main last.0 started there fs m nx
      ∙ ap (λ (y : Start). Go (fs ++ Enter s.main.name (start_name y) ∷ []) (first_state x last.0 m)) st.1 in
      let runs = run_runs x last.0 s.main.scope there stands w m same st.0 st.1 last.2 in
      begun_ends g n _ _ _ _ _ begun
      (starts_last g n (Fine p s (inside_start p s last.0) x (outside x) w (record m { next = suc x }))
      (pushed x (start_code p s last.0) [] (code_end x last.0 s.main.scope there stands) []) fs (Enter s.main.name (codes "run"))
      (first_state x last.0 m)
      (run_start p s calls x w (start_of_scope (scope_of_instance p s x)))
      (subst (λ (q : Result Value). Runs g n (Fine p s (inside_start p s last.0) x (outside x) w (record m { next = suc x }))
      (pushed x (start_code p s last.0) [] (code_end x last.0 s.main.scope there stands) []) (first_state x last.0 m) q)
      (sym (run_start_is x last.0 (Run st.0) w stands st.1)) runs)
      (λ v w1 c f.
      finishes x last.0 s.main.scope there stands c.slots (c.word ∷ []) c.store
      ∙ ap (λ (y : ℕ). begin_instance g y (Leave ∷ []) c.store (slice_get (all_instances g) y)) f.ready.later.next
      ∙ ap (begin_instance g (suc x) (Leave ∷ []) c.store) (none_after x here))
      fair)

  begins : (is : List Started) (x : ℕ) → drop x s.instances ≡ is → x + length is ≡ length s.instances → (w : World) (m : Store) (fs : List Event) →
      SameWorld p s w m → m.next ≡ x → Unstarted w x (length s.instances) → Begins fs m (begin p s calls x is w)
  unfolding begin
  begins [] x d e w m fs same nx un fair = main_begins x (omega arith) w m fs same nx fair
  begins (i ∷ is) x d e w m fs same nx un fair =
      let h = get_drop s.instances x i is d in
      instance_begins x i h.0 w m fs same nx un (λ v w. begin p s calls (suc x) is w)
      (λ v w1 m1 same1 nx1 un1. begins is (suc x) h.1 (omega arith) w1 m1 (Leave ∷ []) same1 nx1 un1) fair

  -- a whole run
  pub runs_meant : (tapes : Tapes) → (meaning n p s tapes).end ≢ Wrong → (k : ℕ) →
      machine g n ((meaning n p s tapes).steps + k) tapes ≡ record {
        end = (meaning n p s tapes).end;
        events = (meaning n p s tapes).events;
        taken =
            (meaning n p s tapes).steps;
      }
  unfolding machine meaning
  runs_meant tapes fair k =
      (begins s.instances 0 refl (omega arith) (world_at_first s tapes) (store_at_first g tapes) [] (first_world p s ok tapes) refl
      (first_unstarted p s ok tapes) fair).by k
