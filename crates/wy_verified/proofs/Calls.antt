-- Calls on objects and on grants, and Return.
use Rattle.std.proofs.Common.{◌≡◌, ℕ, suc, ◌-◌, ◌≤◌, Bool, true, false, List, [], ◌∷◌, ◌++◌, length, map, replicate}
use Rattle.std.proofs.Common.{inl, inr, refl, sym, ap, ◌∙◌, subst, Option, Some, None, All, Contains, arith}
use Rattle.std.proofs.lemmas.Bool.{eq-eqb}
use Rattle.std.proofs.lemmas.List.Elements.{All-cons}
use Rattle.std.specs.Prelude.{slice_get, nat_eq, nat_lt, if◌then◌else◌}
use Rattle.wy_text.specs.declared.fault.AtomName.{AtomName}
use Rattle.wy_text.specs.declared.fault.Place.{Place}
use Rattle.wy_device.specs.declared.deed.Event.TheVariants.{Enter}
use Rattle.wy_device.specs.RunEnds.{Wrong, TooDeep}
use Rattle.wy_code.specs.declared.code.Body.{Body}
use Rattle.wy_code.specs.declared.code.Instance.{Instance}
use Rattle.wy_code.specs.declared.code.Literal.{Literal}
use Rattle.wy_code.specs.declared.code.Method.{Method}
use Rattle.wy_code.specs.declared.instruction.Instruction.TheVariants.{Call as CallMethod, Return}
use Rattle.wy_code.specs.Stores.{Word, Int, Truth, Nothing, Text, Object, Grant, Thing, Store, Reply, Replies, Ends}
use Rattle.wy_code.specs.Operations.{performed}
use Rattle.wy_code.specs.Machine.{Frame, State, Next, Go, Halt, act, popped, Taken, short, taken, take_operands}
use Rattle.wy_code.specs.Machine.{on_taken, all_instances, name_in, literal_of, literal_of_scope, scope_in, body_called}
use Rattle.wy_code.specs.Machine.{body_numbered, method_of_literal, frame_at_first, enter_body, enter_method, call_on}
use Rattle.wy_code.specs.Machine.{return_to}
use Rattle.wy_image.specs.declared.typing.Atom.{Atom}
use Rattle.wy_image.specs.declared.typing.Bounds.{Bounds}
use Rattle.wy_verified.specs.Images.{Image}
use Rattle.wy_meaning.specs.Bounds.{Call}
use Rattle.wy_verified.specs.Kinds.{granted_method, Kind, Ints, Truths, Texts, Units, Own, Granted, kind_in, kinds_in}
use Rattle.wy_verified.specs.Kinds.{In, Within, MethodType, methods, own_method, own_called, bounds_method, stated}
use Rattle.wy_verified.specs.Kinds.{value_kinds, AllFit}
use Rattle.wy_verified.specs.Rules.{Known, Owner, SlotHas, Comes, Calls, reversed, at_first, BodyFollows, BodyIs}
use Rattle.wy_verified.specs.Rules.{InstanceIs, IsVerified}
use Rattle.wy_verified.specs.Laws.{atom_in, authority_of}
use Rattle.std.proofs.lemmas.List.{length-append}
use Rattle.wy_verified.proofs.Lists.{some_same, none_some, pick_true, read_first, read_there, map_length}
use Rattle.std.proofs.lemmas.List.{length-replicate}
use Rattle.wy_verified.proofs.Below.{Below, below_refl, below_fits, below_method}
use Rattle.wy_verified.proofs.Heaps.{count, Ready, Has, AllHave, has_fits, has_below, all_fit, all_below, all_get}
use Rattle.wy_verified.proofs.Heaps.{all_length}
use Rattle.wy_verified.proofs.Authorities.{allowed}
use Rattle.wy_verified.proofs.Granting.{Answers, Allowed, performed_answers}
use Rattle.wy_verified.proofs.Frames.{Context, Typed, Waits, Callers, reached, with_operands, Good, Fine, replied}
use Rattle.wy_verified.proofs.Frames.{state_of, frame_of, call_of, calls_at, Running}
use Rattle.wy_verified.proofs.Steps.{has_top, HasTaken, has_taken, Does, Says}

------------------------------------------------------------
-- Scopes

pub called_in : (m b : ℕ) (xs : List Method) → body_called m xs ≡ Some b → (x : Method) × In x xs × (x.body ≡ b)
called_in m b [] e = absurd cc
called_in m b (x ∷ xs) e = by_case (λ f. called_in m b xs f) (nat_eq x.method m) refl
  where
    by_case : (body_called m xs ≡ Some b → (y : Method) × In y xs × (y.body ≡ b)) → (c : Bool) → nat_eq x.method m ≡ c →
        (y : Method) × In y (x ∷ xs) × (y.body ≡ b)
    by_case later true f = (x, inl refl, some_same (sym (ap (λ c. if c then Some x.body else body_called m xs) f) ∙ e))
    by_case later false f =
        let r = later (sym (ap (λ c. if c then Some x.body else body_called m xs) f) ∙ e) in (r.0, inr r.1, r.2)

module _ (image : Image) where
  pub instance_there : (x : ℕ) → x ≤ count image → (i : Instance) × (slice_get (all_instances image.code) x ≡ Some i)
  instance_there x l =
      read_there (all_instances image.code) x (let h = length-append image.code.instances (image.code.main ∷ []) in
      let one : length (image.code.main ∷ []) ≡ 1 = refl in omega (arith, l, h, one))

  ------------------------------------------------------------
  -- What every open call allows

  pub all_allow : (now : ℕ) (w : Store) (a : Atom) (m : AtomName) →
      In m (atom_in (slice_get image.code.grants a.grant) a.member) →
      (owner : Owner) (result : Kind) (effect : List Atom) (fs : List Frame) →
      Callers image now w owner result effect fs → In a effect →
      All (λ (call : Call). Contains (authority_of image call) m) (map (call_of image) fs)
  all_allow now w a m i owner result effect [] h there = λ k d lt. absurd (omega arith)
  all_allow now w a m i None result effect (f ∷ fs) h there = absurd h
  all_allow now w a m i (Some l) result effect (f ∷ fs) h there =
      let c = h.0 in
      let q = h.1 in
      All-cons (λ (call : Call). Contains (authority_of image call) m) (call_of image f) (map (call_of image) fs)
      (subst (λ (f : Frame). Contains (authority_of image (call_of image f)) m) (sym q.is)
      (allowed image c.x c.instance c.b c.bounds c.body.name a m c.is c.is_stated c.follows.name (q.within a there) i))
      (all_allow now w a m i c.owner (kind_in c.x c.bounds.result) c.bounds.effect fs h.2 (q.within a there))

  -- the slots of a method that is entered
  method_reads : (now : ℕ) (w : Store) (x l a : ℕ) (body : Body) (bounds : Bounds) (vs vals : List Word) (s : ℕ)
      (k : Kind) → SlotHas image x (Some l) body bounds [] s k →
      AllHave image now w vs (kinds_in x bounds.parameters) → Has image now w (Object a) (Own x l) → (v : Word) ×
      (slice_get (Object a ∷ (vs ++ vals)) s ≡ Some v) × Has image now w v k
  method_reads now w x l a body bounds vs vals s k q args this = elim q.by [
    | inl h ↦ (
      Object a,
      ap (slice_get (Object a ∷ (vs ++ vals))) h.0,
      subst (λ k. Has image now w (Object a) k) (sym h.1) this,
    )
    | inr h ↦ elim h [
      | inl p ↦ (let v = all_get image now w vs (kinds_in x bounds.parameters) p.0 k args p.2 in
          (v.0, ap (slice_get (Object a ∷ (vs ++ vals))) p.1 ∙ read_first vs vals p.0 v.0 v.1, v.2))
      | inr p ↦ absurd p.2
    ]
  ]

  module _ (verified : IsVerified image) where
    -- a body that is called on an object, and what its own instance states of it
    pub record Called (x l m : ℕ) (g : MethodType) : Type 0 where
      pub body : Body
      pub bounds : Bounds
      pub held : ℕ
      pub follows : BodyFollows image x (Some l) body bounds held
      pub instance : Instance
      pub is : slice_get (all_instances image.code) x ≡ Some instance
      pub b : ℕ
      pub is_stated : stated image x b ≡ Some bounds
      pub found : method_of_literal image.code (literal_of image.code x l) m ≡ Some body
      pub params : kinds_in x bounds.parameters ≡ g.params
      pub effect : bounds.effect ≡ g.effect
      pub result : kind_in x bounds.result ≡ g.result

    called : (x l m : ℕ) (g : MethodType) → x ≤ count image → methods image (Own x l) m ≡ Some g → Called x l m g
    called x l m g low e =
        let i = instance_there x low in
        of_literal i.0 i.1 (verified.each x i.0 i.1) (literal_of image.code x l) refl
      where
        of_literal : (i : Instance) → slice_get (all_instances image.code) x ≡ Some i →
            InstanceIs BodyFollows image x i → (o : Option Literal) → literal_of image.code x l ≡ o → Called x l m g
        of_literal i is v None f = absurd (none_some (sym (ap (λ o. own_method image x o m) f) ∙ e))
        of_literal i is v (Some literal) f = of_body (body_called m literal.methods) refl
          where
            there : slice_get v.scope.literals l ≡ Some literal
            there = sym (ap (λ (o : Option Instance). literal_of_scope (scope_in image.code o) l) is
                ∙ ap (λ o. literal_of_scope o l) v.there) ∙ f

            of_body : (o : Option ℕ) → body_called m literal.methods ≡ o → Called x l m g
            of_body None h =
                absurd (none_some (sym (ap (λ o. own_method image x o m) f ∙ ap (own_called image x) h) ∙ e))
            of_body (Some b) h =
                let y = called_in m b literal.methods h in
                let body =
                subst (λ b. BodyIs BodyFollows image x (Some l) b (length (value_kinds image x l) - literal.fields))
                y.2 (v.methods l literal y.0 there y.1) in
                let same : bounds_method x (Some body.bounds) ≡ Some g =
                sym (ap (bounds_method x) body.is_stated)
                ∙ sym (ap (λ o. own_method image x o m) f ∙ ap (own_called image x) h) ∙ e in
                let is_g = some_same same in
                record {
                  body = body.body;
                  bounds = body.bounds;
                  held = length (value_kinds image x l) - literal.fields;
                  follows = body.follows;
                  instance = i;
                  is = is;
                  b = b;
                  is_stated = body.is_stated;
                  found = ap (λ o. method_of_literal image.code o m) f ∙ ap (body_numbered image.code) h ∙ body.there;
                  params = ap (λ (q : MethodType). q.params) is_g;
                  effect = ap (λ (q : MethodType). q.effect) is_g;
                  result = ap (λ (q : MethodType). q.result) is_g;
                }

    module _ (n : ℕ) (place : Place) (now : ℕ) (c : Context image) (at : ℕ) (known : Known) (slots operands : List Word)
        (w : Store) (fs : List Frame)
        (r : Running image now c known slots operands w fs) where
      -- the frame that runs waits for a result of a type
      waits : (below : List Word) (rest : List Kind) (effect : List Atom) (k result : Kind) →
          AllHave image now w below rest →
          Comes image c.x c.owner c.body c.bounds c.held c.follows.states (suc at)
          (record known { operands = k ∷ rest }) → Below image result k → Within effect c.bounds.effect →
          Waits image now c (frame_of image c (suc at) slots below) w result effect
      waits below rest effect k result others comes b e = of comes.next refl comes.next.operands refl
        where
          of : (next : Known) → comes.next ≡ next → (ks : List Kind) → next.operands ≡ ks →
              Waits image now c (frame_of image c (suc at) slots below) w result effect
          of next f [] g =
              absurd (subst (λ (ks : List Kind). AllFit image (k ∷ rest) ks) (ap (λ (q : Known). q.operands) f ∙ g)
              comes.reaches.operands)
          of next f (j ∷ js) g =
              let fit : AllFit image (k ∷ rest) (j ∷ js) =
              subst (λ (ks : List Kind). AllFit image (k ∷ rest) ks) (ap (λ (q : Known). q.operands) f ∙ g)
              comes.reaches.operands in
              let typed =
              reached image now c w (record known { operands = [] }) (record comes.next { operands = [] }) slots []
              (record { operands = tt; stored = comes.reaches.stored; set = comes.reaches.set })
              (with_operands image now c w known.stored known.set slots operands [] known.operands [] tt r.typed) in
              record {
                at = suc at;
                known = comes.next;
                k = j;
                ks = js;
                slots = slots;
                operands = below;
                is = refl;
                here = comes.there;
                top = ap (λ (q : Known). q.operands) f ∙ g;
                typed = with_operands image now c w comes.next.stored comes.next.set slots [] below [] js
                    (all_fit image now w below rest js others fit.1) typed;
                below = below_fits image result k j b fit.0;
                within = e;
              }

      -- a body of an object is entered
      entered : (a : ℕ) (t : Thing) (m : ℕ) (g : MethodType) (vs below : List Word) (rest : List Kind) (k : Kind) →
          slice_get w.objects a ≡ Some t → Ready image now a →
          methods image (Own t.instance t.literal) m ≡ Some g → AllHave image now w vs g.params →
          AllHave image now w below rest →
          Comes image c.x c.owner c.body c.bounds c.held c.follows.states (suc at)
          (record known { operands = k ∷ rest }) → Below image g.result k → Within g.effect c.bounds.effect →
          Fine image (calls_at image c fs) (enter_method image.code a m vs (state_of image c (suc at) slots below w fs)
          (Some t))
      entered a t m g vs below rest k there ready e args others comes b within =
          let early = (r.heap.by a t there ready).early in
          let x : ℕ = t.instance in
          let l : ℕ = t.literal in
          let y = called x l m g (let low = r.low in omega (arith, early, low)) e in
          let d : Context image = record {
            x = x;
            owner = Some l;
            body = y.body;
            bounds = y.bounds;
            held = y.held;
            follows = y.follows;
            instance = y.instance;
            is = y.is;
            b = y.b;
            is_stated = y.is_stated;
          } in
          let vals : List Word = replicate y.body.vals Nothing in
          let own_args : AllHave image now w vs (kinds_in x y.bounds.parameters) =
          subst (λ (ks : List Kind). AllHave image now w vs ks) (sym y.params) args in
          let count_args : length vs ≡ y.body.parameters =
          all_length image now w vs (kinds_in x y.bounds.parameters) own_args
          ∙ map_length (kind_in x) y.bounds.parameters ∙ y.follows.parameters in
          let typed : Typed image now d w [] 0 (Object a ∷ (vs ++ vals)) [] [] = record {
            early = early;
            reads = λ s j q. method_reads now w x l a y.body y.bounds vs vals s j q own_args
                (t, there, ready, below_refl image (Own x l));
            long = (let h = length-append vs vals in let z = length-replicate y.body.vals Nothing in
                omega (arith, h, z, count_args));
            this = record {
              object = a;
              thing = t;
              is = refl;
              there = there;
              instance = refl;
              literal = refl;
              ready =
                  ready;
            };
            stack = tt;
          } in
          let f : Frame = frame_of image c (suc at) slots below in
          let s : State = record { frame = frame_at_first x (Object a) vs y.body; callers = f ∷ fs; store = w } in
          let good : Good image s = record {
            now = now;
            low = r.low;
            c = d;
            at = 0;
            known = at_first;
            slots = Object a ∷ (vs ++ vals);
            operands = [];
            is = refl;
            here = y.follows.first;
            typed = typed;
            heap = r.heap;
            next = r.next;
            callers = (
              c,
              waits below rest y.bounds.effect k (kind_in x y.bounds.result) others comes
                  (subst (λ j. Below image j k) (sym y.result) b)
                  (λ q i. within q (subst (λ (es : List Atom). In q es) y.effect i)),
              r.callers,
            );
          } in
          let go : Next = Go (Enter (name_in (slice_get (all_instances image.code) x)) y.body.name ∷ []) s in
          subst (λ (o : Option Body). Fine image (calls_at image c fs)
          (enter_body image.code a x vs (state_of image c (suc at) slots below w fs) o)) (sym y.found)
          (subst (λ (q : Next). Fine image (calls_at image c fs) q)
          (sym (pick_true (nat_eq (length vs) y.body.parameters) go (Halt Wrong [])
          (eq-eqb (length vs) y.body.parameters count_args)))
          (good, λ rest h. h))

      -- a call on a word of the receiver's type
      on_word : (m k : ℕ) (h : Calls image c.x c.owner c.body c.bounds c.held c.follows.states at known m k)
          (vs below : List Word) (v : Word) → Has image now w v h.receiver →
          AllHave image now w vs h.method.params → AllHave image now w below h.rest →
          Fine image (calls_at image c fs) (call_on image.code n place m vs v
          (state_of image c (suc at) slots below w fs))
      on_word m k h vs below (Int i) has args others =
          absurd (let q = below_method image Ints h.receiver m h.method has h.there in none_some q.there)
      on_word m k h vs below (Truth b) has args others =
          absurd (let q = below_method image Truths h.receiver m h.method has h.there in none_some q.there)
      on_word m k h vs below Nothing has args others =
          absurd (let q = below_method image Units h.receiver m h.method has h.there in none_some q.there)
      on_word m k h vs below (Text t) has args others =
          absurd (let q = below_method image Texts h.receiver m h.method has.1 h.there in none_some q.there)
      on_word m k h vs below (Object a) has args others = deep (nat_lt (length fs) n)
        where
          deep : (b : Bool) → Fine image (calls_at image c fs)
              (if b then enter_method image.code a m vs (state_of image c (suc at) slots below w fs)
              (slice_get w.objects a) else Halt TooDeep [])
          deep false = ((λ e. cc), tt)
          deep true =
              let q = below_method image (Own has.0.instance has.0.literal) h.receiver m h.method has.3 h.there in
              subst (λ (o : Option Thing). Fine image (calls_at image c fs)
              (enter_method image.code a m vs (state_of image c (suc at) slots below w fs) o)) (sym has.1)
              (entered a has.0 m q.method vs below h.rest h.method.result has.1 has.2 q.there
              (all_below image now w vs h.method.params q.method.params args q.stands.params) others h.pushes.comes
              q.stands.result (λ b i. h.effect b (q.stands.effect b i)))
      on_word m k h vs below (Grant g) has args others =
          let q = below_method image (Granted g) h.receiver m h.method has h.there in
          let allow : Allowed image now (calls_at image c fs) place w r.heap g vs (slice_get image.code.grants g)
          q.method.effect =
          λ a m e i j. allow_each a m (h.effect a (q.stands.effect a i))
          (subst (λ g. In m (atom_in (slice_get image.code.grants g) a.member)) (sym e) j) in
          replied image now c (suc at) known slots operands below h.rest h.method.result
          (performed place (slice_get image.code.grants g) (slice_get image.code.methods m) vs w) w fs r others
          (answers_below (performed place (slice_get image.code.grants g) (slice_get image.code.methods m) vs w)
          q.method.result q.stands.result
          (performed_answers image now (calls_at image c fs) place w r.heap g vs (slice_get image.code.grants g)
          (slice_get image.code.methods m) q.method
          (ap (granted_method g (slice_get image.code.grants g)) (sym h.listed) ∙ q.there)
          (all_below image now w vs h.method.params q.method.params args q.stands.params) allow)) h.pushes
        where
          allow_each : (a : Atom) (m : AtomName) → In a c.bounds.effect →
              In m (atom_in (slice_get image.code.grants a.grant) a.member) →
              All (λ (call : Call). Contains (authority_of image call) m) (calls_at image c fs)
          allow_each a m i j =
              All-cons (λ (call : Call). Contains (authority_of image call) m)
              (call_of image (frame_of image c at slots below)) (map (call_of image) fs)
              (allowed image c.x c.instance c.b c.bounds c.body.name a m c.is c.is_stated c.follows.name i j)
              (all_allow now w a m j c.owner (kind_in c.x c.bounds.result) c.bounds.effect fs r.callers i)

          answers_below : (reply : Reply) (k : Kind) → Below image k h.method.result →
              Answers image now (calls_at image c fs) w k reply →
              Answers image now (calls_at image c fs) w h.method.result reply
          answers_below (Replies v u es) k b x = (x.0, x.1, has_below image now u v k h.method.result x.2 b, x.3)
          answers_below (Ends e es) k b x = x

      pub call_fine : (m k : ℕ) → Says image verified.main n place now c at known slots operands w fs r
          (CallMethod m k) → Does image verified.main n place now c at known slots operands w fs r (CallMethod m k)
      call_fine m k h =
          of (take_operands k operands []) (has_taken image now w h.top (h.receiver ∷ h.rest) known.operands k operands
          h.count h.operands r.typed.stack)
        where
          of : (t : Taken) → HasTaken image now w (reversed h.top []) (h.receiver ∷ h.rest) t →
              Fine image (calls_at image c fs) (on_taken t (state_of image c (suc at) slots operands w fs)
              (λ vs s. popped s.frame.operands s (λ v s. call_on image.code n place m vs v s)))
          of short q = absurd q
          of (taken vs []) q = absurd q.1
          of (taken vs (v ∷ below)) q =
              on_word m k h vs below v q.1.0 (all_fit image now w vs (reversed h.top []) h.method.params q.0 h.fit)
              q.1.1

      -- the result goes to the frame that waits for it
      returned : (v : Word) (owner : Owner) (l : ℕ) (fs : List Frame) (call : Call) → owner ≡ Some l →
          Callers image now w owner (kind_in c.x c.bounds.result) c.bounds.effect fs →
          Has image now w v (kind_in c.x c.bounds.result) →
          Fine image (call ∷ map (call_of image) fs) (return_to v fs w)
      returned v None l fs call e h has = absurd (none_some e)
      returned v (Some j) l [] call e h has = absurd h
      returned v (Some j) l (f ∷ fs) call e h has =
          let d = h.0 in
          let q = h.1 in
          let typed : Typed image now d w q.known.stored q.known.set q.slots (v ∷ q.operands) q.known.operands =
          subst (λ (ks : List Kind). Typed image now d w q.known.stored q.known.set q.slots (v ∷ q.operands) ks)
          (sym q.top)
          (with_operands image now d w q.known.stored q.known.set q.slots q.operands (v ∷ q.operands) q.ks (q.k ∷ q.ks)
          (has_below image now w v (kind_in c.x c.bounds.result) q.k has q.below, q.typed.stack) q.typed) in
          let good : Good image (record { frame = record f { operands = v ∷ f.operands }; callers = fs; store = w }) =
          record {
            now = now;
            low = r.low;
            c = d;
            at = q.at;
            known = q.known;
            slots = q.slots;
            operands = v ∷ q.operands;
            is = ap (λ (f : Frame). let g : Frame = record f { operands = v ∷ f.operands } in g) q.is;
            here = q.here;
            typed = typed;
            heap = r.heap;
            next = r.next;
            callers = h.2;
          } in
          (good, λ rest b. b)

      pub return_fine : Says image verified.main n place now c at known slots operands w fs r Return →
          Does image verified.main n place now c at known slots operands w fs r Return
      return_fine h =
          let v = has_top image now w h.1 [] known.operands operands h.3 r.typed.stack in
          subst (λ vs. Fine image (calls_at image c fs)
          (act image.code n place Return (state_of image c (suc at) slots vs w fs))) (sym v.2)
          (returned v.0 c.owner h.0 fs _ h.2 r.callers
          (has_fits image now w v.0 h.1 (kind_in c.x c.bounds.result) v.3 h.4))
