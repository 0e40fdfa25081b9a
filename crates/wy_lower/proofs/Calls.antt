-- The code of methods does what calls on objects mean, however many of them may be open.
use Rattle.std.proofs.Common.{◌≡◌, ℕ, zero, suc, ◌+◌, ◌<◌, ◌≤◌, Bool, true, false, List, [], ◌∷◌, ◌++◌, length, replicate, Option, Some, None, refl, sym, ap, ◌∙◌, subst, arith, nat_eq, append-nil, if◌then◌else◌}
use Rattle.std.proofs.lemmas.Bool.{eqb-true, eq-eqb, lt-ltb, le-ltb}
use Rattle.std.proofs.lemmas.List.{drop_all}
use Rattle.std.specs.Prelude.{slice_get}
use Rattle.wy_text.specs.Members.{In}
use Rattle.wy_text.specs.declared.fault.Place.{Place}
use Rattle.wy_types.specs.declared.code.Variable.TheVariants.{Parameter, Local}
use Rattle.wy_types.specs.declared.resolved.Literal.{Literal}
use Rattle.wy_types.specs.Core.{ScopeFits}
use Rattle.wy_types.specs.Vals.{literal_captures, block_vals, start_vals}
use Rattle.wy_types.specs.Program.{Program, Scope, Body as Method}
use Rattle.wy_device.specs.declared.deed.Event.{Event}
use Rattle.wy_device.specs.declared.deed.Event.TheVariants.{Enter, Leave}
use Rattle.wy_device.specs.RunEnds.{TooDeep, Wrong}
use Rattle.wy_meaning.specs.Values.{Value, Thing, World}
use Rattle.wy_meaning.specs.Starts.{Starts, scope_of_instance}
use Rattle.wy_meaning.specs.Eval as eval
use Rattle.wy_meaning.specs.Eval.{Sight, Calls, method_in, parameters, body_text, instance_name, called, called_on, open_calls, eval_block}
use Rattle.wy_meaning.specs.Results.{Result, give, stop, tick, told, whole}
use Rattle.wy_code.specs.declared.code.Body.{Body}
use Rattle.wy_code.specs.declared.code.Code.{Code}
use Rattle.wy_code.specs.declared.instruction.Instruction.TheVariants.{Return, Call}
use Rattle.wy_code.specs.declared.instruction.Placed.{Placed}
use Rattle.wy_code.specs.Stores as word
use Rattle.wy_code.specs.Stores.{Word, Store}
use Rattle.wy_code.specs.Machine.{Frame, State, Go, Halt, stuck, on_taken, pop, call_on, enter_method, enter_body, literal_of, method_of_literal, name_in, all_instances, step}
use Rattle.wy_lower.specs.Inside.{Inside, capture_sources}
use Rattle.wy_lower.specs.Listing.{one, block_listing}
use Rattle.wy_lower.specs.Lowerable.{Lowerable}
use Rattle.wy_lower.specs.Lowering.{method_table, inside_body, body_code, lowered}
use Rattle.wy_lower.specs.Operands.{block_operands}
use Rattle.wy_lower.specs.Parts.{block_parts, number_in}
use Rattle.wy_lower.proofs.Addresses.{Stands, first_stands, rest_stands, state, pushed, pile, takes, acts}
use Rattle.wy_lower.proofs.Allowed.{Allowed}
use Rattle.wy_lower.proofs.Bodies.{body_good, val_is, OwnVals, own_vals}
use Rattle.wy_lower.proofs.Codes.{scope_coded, made_literal, method_coded, found_method, in_list}
use Rattle.wy_lower.proofs.Entering.{not_named, past_parameters, method_holds}
use Rattle.wy_lower.proofs.Forms.{HasLiterals, block_runs}
use Rattle.wy_lower.proofs.Grants.{has_grants}
use Rattle.wy_lower.proofs.Leads.{give_runs, node_runs, told_runs, bind_runs, halt_runs, wrong_step_runs}
use Rattle.wy_lower.proofs.Looking.{some_is, there}
use Rattle.wy_lower.proofs.Making.{names_of}
use Rattle.wy_lower.proofs.NamesFound.{Belongs}
use Rattle.wy_lower.proofs.Ready.{Ready, Fine, ready_after}
use Rattle.wy_lower.proofs.Relation.{SameAll, all_count, later_itself}
use Rattle.wy_lower.proofs.Steps.{Does, CallsRun}

-- the instructions of a body stand from its first address on
pub whole_stands : (b : Body) (xs : List Placed) → b.instructions ≡ xs → Stands b 0 xs (length b.instructions)
whole_stands b xs e = record {
  by = e
      ∙ (sym (append-nil xs) ∙ ap (λ l. xs ++ l) (sym (drop_all (length b.instructions) b.instructions (omega arith))));
}

module _ (p : Program) (s : Starts) (ok : Lowerable p s) where
  pub scope_literals : (sc : Scope) (i : Inside) (x : ℕ) → scope_of_instance p s x ≡ Some sc → HasLiterals p s sc i x
  scope_literals sc i x stands = record {
    by = λ l h made literal e.
        let y = made_literal p s x sc stands l h literal e in
        (y.0, y.1, y.2 ∙ ap (λ j. capture_sources j literal.captures) made, y.3);
  }

  -- a method of an object, in the scope of the object's instance
  module _ (sc : Scope) (o : Thing) (stands : scope_of_instance p s o.instance ≡ Some sc)
      (names : names_of o.captured ≡ literal_captures (slice_get sc.literals o.literal)) (k : ℕ) (b : Method) (is : slice_get sc.bodies k ≡ Some b)
      (owner : b.owner ≡ o.literal) where
    abbrev within : Inside
    within = inside_body p s sc k b

    pub method_belongs : Belongs p s sc (inside_body p s sc k b) o.instance
    method_belongs = record { stands = stands; program = refl; owns = refl; actuals = refl; texts = refl; methods = refl }

    among : In sc p.scopes
    among = let c = scope_coded p s o.instance sc stands in in_list p.scopes c.instance.scope sc c.there

    fits : ScopeFits p sc
    fits = ok.core.scopes sc among

    vals : OwnVals sc b
    vals = own_vals sc (start_vals sc.start) sc.bodies fits.captured fits.vals k b is

    pub method_names : names_of o.captured ≡ within.captures
    method_names = names ∙ ap (λ (l : ℕ). literal_captures (slice_get sc.literals l)) (sym owner)

    pub not_own : (n : ℕ) → In (Local n) within.captures → In n (block_vals b.block) → ⊥
    not_own n j i = vals.not_captured n j i

    pub own_parameter : (j : ℕ) → In (Parameter k j) within.captures → j < within.parameters
    own_parameter j h = of (slice_get sc.literals b.owner) refl
      where
        of : (l : Option Literal) → slice_get sc.literals b.owner ≡ l → j < within.parameters
        of None e = let z = subst (λ l. In (Parameter k j) (literal_captures l)) e h in absurd z
        of (Some l) e =
            let c = fits.captured_parameters l (in_list sc.literals b.owner l e) k j (subst (λ m. In (Parameter k j) (literal_captures m)) e h) in
            let z : c.0 ≡ b = some_is (sym c.1 ∙ is) in
            subst (λ (y : Method). j < length y.signature.params) z c.2

    pub method_allowed : (a : ℕ) (vs : List Value) →
        Allowed p s sc (inside_body p s sc k b) (record { instance = o.instance; this = Some a; variables = parameters k 0 vs ++ o.captured })
        (block_parts b.block) (block_vals b.block)
    method_allowed a vs =
        let c = scope_coded p s o.instance sc stands in
        record {
          good = body_good p s sc among (ok.made c.instance.scope sc c.there) k b is;
          own = λ n j. val_is n (block_vals b.block) j;
          apart = vals.apart;
          fresh = λ n j.
              past_parameters k o.captured (Local n) 0 vs (λ m. refl)
              ∙ not_named o.captured (Local n) (λ i. vals.not_captured n (subst (λ l. In (Local n) l) method_names i) j);
        }

-- the literal of a method is there
literal_there : (p : Program) (s : Starts) → Lowerable p s → (o : Thing) (sc : Scope) → scope_of_instance p s o.instance ≡ Some sc →
    (name : List ℕ) (y : eval.Method) → method_in (Some sc) o.literal name ≡ Some y → (kind : Literal) × (slice_get sc.literals o.literal ≡ Some kind)
literal_there p s ok o sc stands name y found =
    let m = found_method 0 o.literal name sc.bodies y found in
    let c = scope_coded p s o.instance sc stands in
    let fits = (ok.core.scopes sc (in_list p.scopes c.instance.scope sc c.there)).bodies m.0 y.body m.1 in
    there sc.literals o.literal (subst (λ (l : ℕ). l < length sc.literals) m.2 fits.0)

module _ (p : Program) (s : Starts) (ok : Lowerable p s) (n d : ℕ) (calls : Calls) (run : CallsRun p s n d calls) (i : Inside) (x : ℕ) (sight : Sight)
    (w0 : World) (m0 : Store) (b : Body) (callers : List Frame) (at end : ℕ) (stack : List Word) (w : World) (m : Store) (slots : List Word)
    (r : Ready p s i x sight w0 m0 w m slots) (deep : suc d + length callers ≡ n) (place : Place) (a : ℕ) (name : List ℕ) (k : ℕ) (vs : List Value)
    (zs : List Word) (same : SameAll m.texts vs zs) (many : length zs ≡ k)
    (code : Stands b at (one place (Call (number_in (method_table p) name) k)) end) where
  abbrev g : Code
  g = lowered p s

  abbrev T : State
  T = state x b callers at slots (pile zs (word.Object a ∷ stack)) m

  abbrev S : State
  S = state x b callers end slots stack m

  -- the call is not too deep
  stepped : step g n T ≡ enter_method g a (number_in (method_table p) name) zs S (slice_get m.objects a)
  stepped =
      let l : length callers < n = omega arith in
      acts x b callers g n at place (Call (number_in (method_table p) name) k) end slots (pile zs (word.Object a ∷ stack)) m code
      ∙ ap (λ t. on_taken t (state x b callers end slots (pile zs (word.Object a ∷ stack)) m)
      (λ us u. pop u (λ v u. call_on g n place (number_in (method_table p) name) us v u))) (takes zs (word.Object a ∷ stack) k many)
      ∙ ap (λ c. if c then enter_method g a (number_in (method_table p) name) zs S (slice_get m.objects a) else Halt TooDeep [])
      (lt-ltb (length callers) n l)

  module _ (o : Thing) (is : slice_get w.objects a ≡ Some o) (y : eval.Method) (sc : Scope) (stands : scope_of_instance p s o.instance ≡ Some sc)
      (found : method_in (Some sc) o.literal name ≡ Some y) (full : length vs ≡ length y.body.signature.params)
      (names : names_of o.captured ≡ literal_captures (slice_get sc.literals o.literal)) (item : word.Thing)
      (item_is : slice_get m.objects a ≡ Some item) (instance : item.instance ≡ o.instance) (literal : item.literal ≡ o.literal) (kind : Literal)
      (has_kind : slice_get sc.literals o.literal ≡ Some kind) where
    abbrev body : Body
    body = body_code p s sc y.number y.body

    abbrev inner : Inside
    inner = inside_body p s sc y.number y.body

    abbrev inner_sight : Sight
    inner_sight = record { instance = o.instance; this = Some a; variables = parameters y.number 0 vs ++ o.captured }

    abbrev first_slots : List Word
    first_slots = word.Object a ∷ (zs ++ replicate (length inner.vals) word.Nothing)

    abbrev first : State
    first = state o.instance body (S.frame ∷ callers) 0 first_slots [] m

    abbrev enters : Event
    enters = Enter (instance_name s o.instance) (body_text o.literal name)

    enters_body : step g n T ≡ Go (enters ∷ []) first
    enters_body =
        let c = method_coded p s o.instance sc stands o.literal kind has_kind name y found in
        let e = scope_coded p s o.instance sc stands in
        let count : nat_eq (length zs) (length y.body.signature.params) ≡ true = eq-eqb _ _ (sym (all_count m.texts vs zs same) ∙ full) in
        stepped
        ∙ ap (enter_method g a (number_in (method_table p) name) zs S) item_is
        ∙ ap (λ (t : ℕ). enter_body g a t zs S (method_of_literal g (literal_of g t item.literal) (number_in (method_table p) name))) instance
        ∙ ap (λ (t : ℕ). enter_body g a o.instance zs S (method_of_literal g (literal_of g o.instance t) (number_in (method_table p) name))) literal
        ∙ ap (enter_body g a o.instance zs S) c.3
        ∙ ap (λ t. if t then Go (Enter (name_in (slice_get (all_instances g) o.instance)) body.name ∷ []) first else stuck) count
        ∙ ap (λ (t : List ℕ). Go (Enter t body.name ∷ []) first) e.name
        ∙ ap (λ (t : ℕ). Go (Enter (instance_name s o.instance) (body_text t y.body.signature.name) ∷ []) first) c.1
        ∙ ap (λ (t : List ℕ). Go (Enter (instance_name s o.instance) (body_text o.literal t) ∷ []) first) c.2

    abbrev code_end : ℕ
    code_end = 0 + length (block_listing inner 0 y.body.block)

    body_stands : Stands body 0 (block_listing inner 0 y.body.block ++ one y.body.place Return) (length body.instructions)
    body_stands = whole_stands body _ refl

    method_ready : (y.body.owner ≡ o.literal) → slice_get sc.bodies y.number ≡ Some y.body →
        Ready p s inner o.instance inner_sight w m w m first_slots
    method_ready owner here = record {
      world = r.world;
      holds = method_holds inner o.instance y.number refl m.texts w a o is refl (method_names p s ok sc o stands names y.number y.body here owner)
          (not_own p s ok sc o stands names y.number y.body here owner)
          (own_parameter p s ok sc o stands names y.number y.body here owner) vs zs same full;
      later = later_itself w m;
    }

    pub method_runs : Does p s i x sight w0 m0 g n b callers end stack T (tick (whole enters (eval_block p s calls inner_sight y.body.block w)))
    unfolding whole
    method_runs =
        let c = method_coded p s o.instance sc stands o.literal kind has_kind name y found in
        let fits = (ok.core.scopes sc (in_list p.scopes _ sc (scope_coded p s o.instance sc stands).there)).bodies y.number y.body c.0 in
        let deeper : d + length (S.frame ∷ callers) ≡ n = omega arith in
        let room : 1 + inner.parameters + length inner.vals + length {A = Word} [] + block_operands y.body.block ≤ body.slots = omega arith in
        told_runs g n (Fine p s i x sight w0 m0) (pushed x b callers end stack) T first enters _ enters_body
        (node_runs g n (Fine p s i x sight w0 m0) (pushed x b callers end stack) _ _
        (bind_runs g n (Fine p s inner o.instance inner_sight w m) (pushed o.instance body (S.frame ∷ callers) code_end []) (Fine p s i x sight w0 m0)
        (pushed x b callers end stack) (λ v w. tick (told Leave (give v w))) first (eval_block p s calls inner_sight y.body.block w)
        (block_runs p s ok (has_grants p s ok) n d calls run sc inner o.instance (method_belongs p s ok sc o stands names y.number y.body c.0 c.1)
        (scope_literals p s ok sc inner o.instance stands) (Some y.body.owner) body (S.frame ∷ callers) deeper
        y.body.block inner_sight _ fits.1 (method_allowed p s ok sc o stands names y.number y.body c.0 c.1 a vs) 0 code_end
        (first_stands body 0 _ (one y.body.place Return) _ body_stands) w m w m first_slots (method_ready c.1 c.0) [] room)
        (λ v w1 t q.
        told_runs g n (Fine p s i x sight w0 m0) (pushed x b callers end stack) _ (state x b callers end slots (t.word ∷ stack) t.store) Leave
        (give v w1)
        (acts o.instance body (S.frame ∷ callers) g n code_end y.body.place Return _ t.slots (t.word ∷ []) t.store
        (rest_stands body 0 _ (one y.body.place Return) _ body_stands))
        (give_runs g n (Fine p s i x sight w0 m0) (pushed x b callers end stack) v w1 (record { word = t.word; store = t.store; slots = slots })
        (record { same = q.same; ready = ready_after p s i x sight w0 m0 w m w1 t.store slots r q.ready.world q.ready.later })))))

  abbrev Goal : Result Value → Type 0
  Goal q = Does p s i x sight w0 m0 g n b callers end stack T (tick q)

  wrong : Goal (stop Wrong w)
  wrong = wrong_step_runs g n (Fine p s i x sight w0 m0) (pushed x b callers end stack) T w

  pub call_runs : Goal (called_on p s calls a name vs w (slice_get w.objects a))
  call_runs = of_thing (slice_get w.objects a) refl
    where
      of_kind : (o : Thing) (is : slice_get w.objects a ≡ Some o) (y : eval.Method) →
          method_in (scope_of_instance p s o.instance) o.literal name ≡ Some y → length vs ≡ length y.body.signature.params →
          Goal (whole (Enter (instance_name s o.instance) (body_text o.literal name))
          (eval_block p s calls (record { instance = o.instance; this = Some a; variables = parameters y.number 0 vs ++ o.captured }) y.body.block w))
      of_kind o is y found full =
          let f = r.world.objects a o is in
          let here : method_in (Some f.same.scope) o.literal name ≡ Some y = sym (ap (λ c. method_in c o.literal name) f.same.stands) ∙ found in
          let kind = literal_there p s ok o f.same.scope f.same.stands name y here in
          method_runs o is y f.same.scope f.same.stands here full f.same.names f.thing f.is f.same.instance f.same.literal kind.0 kind.1

      of_count : (o : Thing) → slice_get w.objects a ≡ Some o → (y : eval.Method) →
          method_in (scope_of_instance p s o.instance) o.literal name ≡ Some y → (c : Bool) →
          nat_eq (length vs) (length y.body.signature.params) ≡ c →
          Goal (if c then whole (Enter (instance_name s o.instance) (body_text o.literal name))
          (eval_block p s calls (record {
            instance = o.instance;
            this = Some a;
            variables =
                parameters y.number 0 vs ++ o.captured;
          }) y.body.block w) else stop Wrong w)
      of_count o is y found true e = of_kind o is y found (eqb-true _ _ e)
      of_count o is y found false e = wrong

      of_method : (o : Thing) → slice_get w.objects a ≡ Some o → (c : Option eval.Method) →
          method_in (scope_of_instance p s o.instance) o.literal name ≡ c → Goal (called p s calls a o name vs w c)
      of_method o is None e = wrong
      of_method o is (Some y) e = of_count o is y e _ refl

      of_thing : (c : Option Thing) → slice_get w.objects a ≡ c → Goal (called_on p s calls a name vs w c)
      of_thing None e = wrong
      of_thing (Some o) e = of_method o e _ refl

module _ (p : Program) (s : Starts) (ok : Lowerable p s) (n : ℕ) where
  pub calls_run : (d : ℕ) → CallsRun p s n d (open_calls p s d)
  unfolding open_calls
  calls_run zero = record {
    by = λ i x sight w0 m0 b callers at end stack w m slots r deep place a name k vs zs same many code.
        halt_runs (lowered p s) n (Fine p s i x sight w0 m0) (pushed x b callers end stack) _ TooDeep w
        (acts x b callers (lowered p s) n at place _ end slots (pile zs (word.Object a ∷ stack)) m code
        ∙ ap (λ t. on_taken t (state x b callers end slots (pile zs (word.Object a ∷ stack)) m)
        (λ us u. pop u (λ v u. call_on (lowered p s) n place (number_in (method_table p) name) us v u))) (takes zs (word.Object a ∷ stack) k many)
        ∙ ap (λ c. if c then enter_method (lowered p s) a (number_in (method_table p) name) zs (state x b callers end slots stack m)
        (slice_get m.objects a) else Halt TooDeep []) (le-ltb (length callers) n (omega arith)));
  }
  calls_run (suc d) = let run = calls_run d in record {
    by = λ i x sight w0 m0 b callers at end stack w m slots r deep place a name k vs zs same many code.
        call_runs p s ok n d (open_calls p s d) run i x sight w0 m0 b callers at end stack w m slots r deep place a name k vs zs same many code;
  }
