-- From a state of the machine to what a result says.
use Rattle.std.proofs.Common.{◌≡◌, ◌≢◌, ℕ, suc, ◌+◌, List, [], ◌∷◌, ◌++◌, refl, sym, ap, ◌∙◌, arith, append_assoc}
use Rattle.wy_device.specs.declared.deed.Event.{Event}
use Rattle.wy_device.specs.RunEnds.{RunEnd, Wrong}
use Rattle.wy_meaning.specs.Values.{Value, World, Outcome, Gives, Stops, stopped}
use Rattle.wy_meaning.specs.Results.{Result, give, stop, node, tick, told, settle, added, carried, bind}
use Rattle.wy_code.specs.declared.code.Code.{Code}
use Rattle.wy_code.specs.Machine.{State, Next, Go, Halt, step}
use Rattle.wy_code.specs.Running.{Ran, and_then, steps}

-- q steps with these events, and then a run
abbrev pub ahead : ℕ → List Event → Ran → Ran
ahead q es r = record { end = r.end; events = es ++ r.events; taken = q + r.taken }

ran_is : (e : RunEnd) (es fs : List Event) (q r : ℕ) → es ≡ fs → q ≡ r →
    (let x : Ran = record { end = e; events = es; taken = q } in x) ≡ record { end = e; events = fs; taken = r }
ran_is e es fs q r p t = ap (λ (l : List Event). let x : Ran = record { end = e; events = l; taken = q } in x) p
    ∙ ap (λ (k : ℕ). let x : Ran = record { end = e; events = fs; taken = k } in x) t

ahead_ahead : (q r : ℕ) (es fs : List Event) (x : Ran) → ahead q es (ahead r fs x) ≡ ahead (q + r) (es ++ fs) x
ahead_ahead q r es fs x = ran_is x.end _ _ _ _ (sym (append_assoc es fs x.events)) (omega arith)

module _ (g : Code) (n : ℕ) where
  -- after q steps with these events the machine is in the other state
  pub record Leads (s : State) (q : ℕ) (es : List Event) (t : State) : Type 0 where
    pub by : (k : ℕ) → steps g n (q + k) s ≡ ahead q es (steps g n k t)

  -- at the q-th step it ends so, with these events
  pub record Ends (s : State) (q : ℕ) (es : List Event) (e : RunEnd) : Type 0 where
    pub by : (k : ℕ) → steps g n (q + k) s ≡ record { end = e; events = es; taken = q }

  none_leads : (s : State) → Leads s 0 [] s
  none_leads s = record {
    by = λ k.
        let e : 0 + k ≡ k = omega arith in
        let t : (steps g n k s).taken ≡ 0 + (steps g n k s).taken = omega arith in
        ap (λ (m : ℕ). steps g n m s) e ∙ ran_is (steps g n k s).end (steps g n k s).events (steps g n k s).events _ _ refl t;
  }

  pub leads_leads : (s t u : State) (q r : ℕ) (es fs : List Event) → Leads s q es t → Leads t r fs u → Leads s (q + r) (es ++ fs) u
  leads_leads s t u q r es fs a b = record {
    by = λ k.
        let m : q + r + k ≡ q + (r + k) = omega arith in
        ap (λ (m : ℕ). steps g n m s) m ∙ a.by (r + k) ∙ ap (ahead q es) (b.by k) ∙ ahead_ahead q r es fs (steps g n k u);
  }

  pub leads_ends : (s t : State) (q r : ℕ) (es fs : List Event) (e : RunEnd) → Leads s q es t → Ends t r fs e → Ends s (q + r) (es ++ fs) e
  leads_ends s t q r es fs e a b = record {
    by = λ k.
        let m : q + r + k ≡ q + (r + k) = omega arith in
        ap (λ (m : ℕ). steps g n m s) m ∙ a.by (r + k) ∙ ap (ahead q es) (b.by k);
  }

  pub one_leads : (s t : State) (es : List Event) → step g n s ≡ Go es t → Leads s (suc 0) es t
  unfolding steps
  one_leads s t es e = record {
    by = λ k.
        let m : suc 0 + k ≡ suc k = omega arith in
        let c : suc (steps g n k t).taken ≡ suc 0 + (steps g n k t).taken = omega arith in
        ap (λ (m : ℕ). steps g n m s) m ∙ ap (λ (x : Next). and_then x (steps g n k)) e ∙ ran_is (steps g n k t).end _ _ _ _ refl c;
  }

  pub one_ends : (s : State) (e : RunEnd) (es : List Event) → step g n s ≡ Halt e es → Ends s (suc 0) es e
  unfolding steps
  one_ends s e es h = record {
    by = λ k.
        let m : suc 0 + k ≡ suc k = omega arith in
        ap (λ (m : ℕ). steps g n m s) m ∙ ap (λ (x : Next). and_then x (steps g n k)) h;
  }

  one_more : (s t u : State) (q : ℕ) (es fs : List Event) → step g n s ≡ Go es t → Leads t q fs u → Leads s (suc q) (es ++ fs) u
  one_more s t u q es fs e l = record {
    by = λ k.
        let m : suc q + k ≡ suc 0 + q + k = omega arith in
        let c : suc 0 + q + (steps g n k u).taken ≡ suc q + (steps g n k u).taken = omega arith in
        ap (λ (m : ℕ). steps g n m s) m ∙ (leads_leads s t u (suc 0) q es fs (one_leads s t es e) l).by k ∙ ran_is (steps g n k u).end _ _ _ _ refl c;
  }

  one_more_ends : (s t : State) (q : ℕ) (es fs : List Event) (e : RunEnd) → step g n s ≡ Go es t → Ends t q fs e → Ends s (suc q) (es ++ fs) e
  one_more_ends s t q es fs e h l = record {
    by = λ k.
        let m : suc q + k ≡ suc 0 + q + k = omega arith in
        let c : suc 0 + q ≡ suc q = omega arith in
        ap (λ (m : ℕ). steps g n m s) m ∙ (leads_ends s t (suc 0) q es fs e (one_leads s t es h) l).by k ∙ ran_is e _ _ _ _ refl c;
  }

  -- from a state the machine does what a result says: it comes to the state that what is given leads to, with choices
  -- that are fine, or ends in the same way. Nothing is said where the result is wrong
  abbrev pub RunsTo : {A X : Type 0} → (A → World → X → Type 0) → (A → World → X → State) → State → Outcome A → World → List Event → ℕ → Type 0
  RunsTo fine next s (Stops e) w es q = e ≢ Wrong → Ends s q es e
  RunsTo {A} {X} fine next s (Gives a) w es q = (x : X) × fine a w x × Leads s q es (next a w x)

  pub record Runs {A X : Type 0} (fine : A → World → X → Type 0) (next : A → World → X → State) (s : State) (r : Result A) : Type 0 where
    pub by : RunsTo fine next s r.out r.world r.events r.steps

  module _ {A X : Type 0} (fine : A → World → X → Type 0) (next : A → World → X → State) where
    pub give_runs : (a : A) (w : World) (x : X) → fine a w x → Runs fine next (next a w x) (give a w)
    unfolding give
    give_runs a w x f = record { by = (x, f, none_leads (next a w x)) }

    pub node_runs : (s : State) (r : Result A) → Runs fine next s r → Runs fine next s (node r)
    unfolding node
    node_runs s r h = record { by = h.by }

    pub wrong_step_runs : (s : State) (w : World) → Runs fine next s (tick (stop Wrong w))
    unfolding stop tick
    wrong_step_runs s w = record { by = λ ne. absurd (ne refl) }

    go_to : (s t : State) (o : Outcome A) (w : World) (q : ℕ) (es fs : List Event) → step g n s ≡ Go es t → RunsTo fine next t o w fs q →
        RunsTo fine next s o w (es ++ fs) (suc q)
    go_to s t (Stops e) w q es fs h r = λ ne. one_more_ends s t q es fs e h (r ne)
    go_to s t (Gives a) w q es fs h r = (r.0, r.1, one_more s t (next a w r.0) q es fs h r.2)

    -- one instruction, and then the rest
    pub tick_runs : (s t : State) (r : Result A) → step g n s ≡ Go [] t → Runs fine next t r → Runs fine next s (tick r)
    unfolding tick
    tick_runs s t r h a = record { by = go_to s t r.out r.world r.steps [] r.events h a.by }

    -- one instruction with an event, and then the rest
    pub told_runs : (s t : State) (e : Event) (r : Result A) → step g n s ≡ Go (e ∷ []) t → Runs fine next t r → Runs fine next s (tick (told e r))
    unfolding tick told
    told_runs s t e r h a = record { by = go_to s t r.out r.world r.steps (e ∷ []) r.events h a.by }

    -- one instruction, which ends the run
    pub halt_runs : (s : State) (e : RunEnd) (w : World) → step g n s ≡ Halt e [] → Runs fine next s (tick (stop e w))
    unfolding tick stop
    halt_runs s e w h = record { by = λ ne. one_ends s e [] h }

    leads_to : (s t : State) (o : Outcome A) (w : World) (q r : ℕ) (es fs : List Event) → Leads s q es t → RunsTo fine next t o w fs r →
        RunsTo fine next s o w (es ++ fs) (q + r)
    leads_to s t (Stops e) w q r es fs l a = λ ne. leads_ends s t q r es fs e l (a ne)
    leads_to s t (Gives b) w q r es fs l a = (a.0, a.1, leads_leads s t (next b w a.0) q r es fs l a.2)

  -- a reply that is wrong
  pub wrong_reply_runs : {X : Type 0} (fine : Value → World → X → Type 0) (next : Value → World → X → State) (s : State) (w : World) →
      Runs fine next s (tick (settle (stopped Wrong w)))
  unfolding settle tick
  wrong_reply_runs fine next s w = record { by = λ ne. absurd (ne refl) }

  module _ {A X : Type 0} (fine better : A → World → X → Type 0) (next : A → World → X → State)
      (finer : (a : A) (w : World) (x : X) → fine a w x → better a w x) where
    finer_to : (s : State) (o : Outcome A) (w : World) (es : List Event) (q : ℕ) → RunsTo fine next s o w es q → RunsTo better next s o w es q
    finer_to s (Stops e) w es q r = r
    finer_to s (Gives a) w es q r = (r.0, finer a w r.0 r.1, r.2)

    -- something else is known of what the machine chose
    pub finer_runs : (s : State) (r : Result A) → Runs fine next s r → Runs better next s r
    finer_runs s r h = record { by = finer_to s r.out r.world r.events r.steps h.by }

  module _ {A B X Y : Type 0} (fine : A → World → X → Type 0) (next : A → World → X → State) (fine' : B → World → Y → Type 0)
      (next' : B → World → Y → State) (f : A → World → Result B) where
    carried_runs : (s : State) (o : Outcome A) (w : World) (es : List Event) (c q : ℕ) → RunsTo fine next s o w es q →
        ((a : A) (w : World) (x : X) → fine a w x → Runs fine' next' (next a w x) (f a w)) → Runs fine' next' s (carried o w es c q f)
    unfolding added
    carried_runs s (Stops e) w es c q h k = record { by = h }
    carried_runs s (Gives a) w es c q h k = record {
      by = leads_to fine' next' s (next a w h.0) (f a w).out (f a w).world q (f a w).steps es (f a w).events h.2 (k a w h.0 h.1).by;
    }

    -- a part, and what comes after its value
    pub bind_runs : (s : State) (r : Result A) → Runs fine next s r →
        ((a : A) (w : World) (x : X) → fine a w x → Runs fine' next' (next a w x) (f a w)) → Runs fine' next' s (bind r f)
    unfolding bind
    bind_runs s r h k = carried_runs s r.out r.world r.events r.nodes r.steps h.by k
