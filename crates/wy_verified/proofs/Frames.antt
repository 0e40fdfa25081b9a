-- Frames, and whole states of the machine, that follow the rules.
use Rattle.std.proofs.Common.{◌⊎◌, ◌≡◌, ℕ, suc, ◌+◌, ◌<◌, ◌≤◌, Bool, true, false, List, [], ◌∷◌, length, map, drop, inl}
use Rattle.std.proofs.Common.{inr, refl, sym, ◌∙◌, subst, Some, None, arith}
use Rattle.std.proofs.lemmas.Bool.{lt-ltb}
use Rattle.std.specs.Prelude.{slice_get, nat_lt, if◌then◌else◌}
use Rattle.wy_device.specs.declared.deed.Event.{Event}
use Rattle.wy_device.specs.RunEnds.{Wrong}
use Rattle.wy_code.specs.declared.code.Body.{Body}
use Rattle.wy_code.specs.declared.code.Instance.{Instance}
use Rattle.wy_code.specs.Stores.{Word, Object, Thing, Store, Reply, Replies, Ends}
use Rattle.wy_code.specs.Machine.{Frame, State, Next, Go, Halt, all_instances, name_in, first_of, push, push_reply}
use Rattle.wy_image.specs.declared.typing.Atom.{Atom}
use Rattle.wy_image.specs.declared.typing.Bounds.{Bounds}
use Rattle.wy_verified.specs.Images.{Image}
use Rattle.wy_meaning.specs.Bounds.{Call, BoundedFrom}
use Rattle.wy_verified.specs.Kinds.{Kind, kind_in, In, Within, stated, value_kinds}
use Rattle.wy_verified.specs.Rules.{Known, Owner, SlotHas, Reaches, Comes, Pushes, BodyFollows}
use Rattle.wy_verified.specs.Laws.{authority_of}
use Rattle.wy_verified.proofs.Lists.{pick_true}
use Rattle.wy_verified.proofs.Below.{Below}
use Rattle.wy_verified.proofs.Heaps.{count, Ready, Has, AllHave, Keeps, Grows, has_kept, all_kept, all_fit, all_length}
use Rattle.wy_verified.proofs.Heaps.{HeapAt}
use Rattle.wy_verified.proofs.Granting.{Later, Answers}

module _ (image : Image) where
  -- a body of an instance, and that it follows the rules
  pub record Context : Type 0 where
    pub x : ℕ
    pub owner : Owner
    pub body : Body
    pub bounds : Bounds
    pub held : ℕ
    pub follows : BodyFollows image x owner body bounds held
    pub instance : Instance
    pub is : slice_get (all_instances image.code) x ≡ Some instance
    pub b : ℕ
    pub is_stated : stated image x b ≡ Some bounds

  abbrev pub frame_of : Context → ℕ → List Word → List Word → Frame
  frame_of c at slots operands =
      record { instance = c.x; body = c.body; rest = drop at c.body.instructions; slots = slots; operands = operands }

  abbrev pub call_of : Frame → Call
  call_of f = record { instance = name_in (slice_get (all_instances image.code) f.instance); body = f.body.name }

  abbrev pub calls_of : State → List Call
  calls_of s = call_of s.frame ∷ map call_of s.callers

  module _ (now : ℕ) where
    -- the object of the instance that starts: what it is handed and the fields that are set have their types
    pub record FirstHas (held : ℕ) (w : Store) (set : ℕ) (this : Word) : Type 0 where
      pub thing : Thing
      pub is : this ≡ Object now
      pub there : slice_get w.objects now ≡ Some thing
      pub instance : thing.instance ≡ now
      pub literal : thing.literal ≡ 0
      pub long : length thing.values ≡ length (value_kinds image now 0)
      pub each : (i : ℕ) (k : Kind) → i < held + set → slice_get (value_kinds image now 0) i ≡ Some k → (v : Word) ×
          (slice_get thing.values i ≡ Some v) × Has image now w v k

    -- the current object of a method
    pub record ThisIs (x l : ℕ) (w : Store) (this : Word) : Type 0 where
      pub object : ℕ
      pub thing : Thing
      pub is : this ≡ Object object
      pub there : slice_get w.objects object ≡ Some thing
      pub instance : thing.instance ≡ x
      pub literal : thing.literal ≡ l
      pub ready : Ready image now object

    abbrev pub ThisHas : ℕ → ℕ → Owner → Store → ℕ → Word → Type 0
    ThisHas x held None w set this =
        (x ≡ now) × ((now ≡ count image) ⊎ ((now < count image) × FirstHas held w set this))
    ThisHas x held (Some l) w set this = ThisIs x l w this

    pub record Typed (c : Context) (w : Store) (stored : List ℕ) (set : ℕ) (slots operands : List Word)
        (ks : List Kind) : Type 0 where
      pub early : c.x ≤ now
      pub reads : (s : ℕ) (k : Kind) → SlotHas image c.x c.owner c.body c.bounds stored s k → (v : Word) ×
          (slice_get slots s ≡ Some v) × Has image now w v k
      pub long : length slots ≡ suc (c.body.parameters + c.body.vals)
      pub this : ThisHas c.x c.held c.owner w set (first_of slots)
      pub stack : AllHave image now w operands ks

    -- a frame that waits for a result and has called a body of an effect
    pub record Waits (c : Context) (f : Frame) (w : Store) (result : Kind) (effect : List Atom) : Type 0 where
      pub at : ℕ
      pub known : Known
      pub k : Kind
      pub ks : List Kind
      pub slots : List Word
      pub operands : List Word
      pub is : f ≡ frame_of c at slots operands
      pub here : slice_get c.follows.states at ≡ Some known
      pub top : known.operands ≡ k ∷ ks
      pub typed : Typed c w known.stored known.set slots operands ks
      pub below : Below image result k
      pub within : Within effect c.bounds.effect

    -- the frames that wait for a body of an owner; none waits for an `init` or `run` body
    abbrev pub Callers : Store → Owner → Kind → List Atom → List Frame → Type 0
    Callers w None result effect [] = Unit {0}
    Callers w None result effect (f ∷ fs) = ⊥
    Callers w (Some l) result effect [] = ⊥
    Callers w (Some l) result effect (f ∷ fs) =
        (c : Context) × Waits c f w result effect × Callers w c.owner (kind_in c.x c.bounds.result) c.bounds.effect fs

    abbrev pub CallersOf : Context → Store → List Frame → Type 0
    CallersOf c w fs = Callers w c.owner (kind_in c.x c.bounds.result) c.bounds.effect fs

    ------------------------------------------------------------
    -- What stays as the store grows

    first_grows : (held : ℕ) (w u : Store) (set : ℕ) (this : Word) → now < count image → Grows image now w u →
        FirstHas held w set this → FirstHas held u set this
    first_grows held w u set this lt g h = record {
      thing = h.thing;
      is = h.is;
      there = g.still now h.thing h.there (λ r. elim r [ inl l ↦ omega arith | inr l ↦ omega arith ]);
      instance = h.instance;
      literal = h.literal;
      long = h.long;
      each = λ i k l e. let v = h.each i k l e in (v.0, v.1, has_kept image now w u v.0 k g.keeps v.2);
    }

    this_kept : (x l : ℕ) (w u : Store) (this : Word) → Keeps image now w u → ThisIs x l w this → ThisIs x l u this
    this_kept x l w u this g h = let s = g.objects h.object h.thing h.there in
        record {
          object = h.object;
          thing = s.0;
          is = h.is;
          there = s.1;
          instance = s.2 ∙ h.instance;
          literal = s.3 ∙ h.literal;
          ready = h.ready;
        }

    this_grows : (x held : ℕ) (owner : Owner) (w u : Store) (set : ℕ) (this : Word) → Grows image now w u →
        ThisHas x held owner w set this → ThisHas x held owner u set this
    this_grows x held None w u set this g h =
        (h.0, elim h.1 [ inl e ↦ inl e | inr f ↦ inr (f.0, first_grows held w u set this f.0 g f.1) ])
    this_grows x held (Some l) w u set this g h = this_kept x l w u this g.keeps h

    pub typed_grows : (c : Context) (w u : Store) (stored : List ℕ) (set : ℕ) (slots operands : List Word)
        (ks : List Kind) → Grows image now w u →
        Typed c w stored set slots operands ks → Typed c u stored set slots operands ks
    typed_grows c w u stored set slots operands ks g h = record {
      early = h.early;
      reads = λ s k e. let v = h.reads s k e in (v.0, v.1, has_kept image now w u v.0 k g.keeps v.2);
      long = h.long;
      this = this_grows c.x c.held c.owner w u set (first_of slots) g h.this;
      stack = all_kept image now w u operands ks g.keeps h.stack;
    }

    waits_grows : (c : Context) (f : Frame) (w u : Store) (result : Kind) (effect : List Atom) → Grows image now w u →
        Waits c f w result effect → Waits c f u result effect
    waits_grows c f w u result effect g q = record {
      at = q.at;
      known = q.known;
      k = q.k;
      ks = q.ks;
      slots = q.slots;
      operands = q.operands;
      is = q.is;
      here = q.here;
      top = q.top;
      typed = typed_grows c w u q.known.stored q.known.set q.slots q.operands q.ks g q.typed;
      below = q.below;
      within = q.within;
    }

    pub callers_grow : (w u : Store) (owner : Owner) (result : Kind) (effect : List Atom) (fs : List Frame) →
        Grows image now w u → Callers w owner result effect fs → Callers u owner result effect fs
    callers_grow w u None result effect [] g h = tt
    callers_grow w u None result effect (f ∷ fs) g h = absurd h
    callers_grow w u (Some l) result effect [] g h = absurd h
    callers_grow w u (Some l) result effect (f ∷ fs) g h = (
      h.0,
      waits_grows h.0 f w u result effect g h.1,
      callers_grow w u h.0.owner (kind_in h.0.x h.0.bounds.result) h.0.bounds.effect fs g h.2,
    )

    -- other operands
    pub with_operands : (c : Context) (w : Store) (stored : List ℕ) (set : ℕ) (slots operands others : List Word)
        (ks ls : List Kind) → AllHave image now w others ls →
        Typed c w stored set slots operands ks → Typed c w stored set slots others ls
    with_operands c w stored set slots operands others ks ls o h =
        record { early = h.early; reads = h.reads; long = h.long; this = h.this; stack = o }

    -- less is known
    slot_less : (c : Context) (stored less : List ℕ) → ((s : ℕ) → In s less → In s stored) → (s : ℕ) (k : Kind) →
        SlotHas image c.x c.owner c.body c.bounds less s k →
        SlotHas image c.x c.owner c.body c.bounds stored s k
    slot_less c stored less sub s k h =
        record {
          by =
              elim h.by [ inl t ↦ inl t | inr q ↦ inr (elim q [ inl p ↦ inl p | inr v ↦ inr (v.0, v.1, sub s v.2, v.3) ]) ];
        }

    pub reached : (c : Context) (w : Store) (known next : Known) (slots operands : List Word) →
        Reaches image c.x c.owner c.body c.bounds known next →
        Typed c w known.stored known.set slots operands known.operands →
        Typed c w next.stored next.set slots operands next.operands
    reached c w known next slots operands r h = record {
      early = h.early;
      reads = λ s k e. h.reads s k (slot_less c known.stored next.stored r.stored s k e);
      long = h.long;
      this = subst (λ set. ThisHas c.x c.held c.owner w set (first_of slots)) (sym r.set) h.this;
      stack = all_fit image now w operands known.operands next.operands h.stack r.operands;
    }

  ------------------------------------------------------------
  -- States

  pub record Good (s : State) : Type 0 where
    pub now : ℕ
    pub low : now ≤ count image
    pub c : Context
    pub at : ℕ
    pub known : Known
    pub slots : List Word
    pub operands : List Word
    pub is : s.frame ≡ frame_of c at slots operands
    pub here : slice_get c.follows.states at ≡ Some known
    pub typed : Typed now c s.store known.stored known.set slots operands known.operands
    pub heap : HeapAt image now s.store
    pub next : s.store.next ≡ suc now
    pub callers : CallersOf now c s.store s.callers

  -- the step leads to a good state and its events allow what comes after, or it ends the run and not by being stuck
  abbrev pub Fine : List Call → Next → Type 0
  Fine calls (Go es s) = Good s × Later image calls es (calls_of s)
  Fine calls (Halt e es) = (e ≡ Wrong → ⊥) × BoundedFrom (authority_of image) calls es

  pub fine_if : (calls : List Call) (b : Bool) (x y : Next) → Fine calls x → Fine calls y →
      Fine calls (if b then x else y)
  fine_if calls true x y p q = p
  fine_if calls false x y p q = q

  -- a state in which the context's frame has come to an address, with what is known there
  pub come : (now : ℕ) (c : Context) (to : ℕ) (known : Known) (slots operands : List Word) (w : Store)
      (fs : List Frame) → now ≤ count image →
      HeapAt image now w → w.next ≡ suc now → CallersOf now c w fs →
      Typed now c w known.stored known.set slots operands known.operands →
      Comes image c.x c.owner c.body c.bounds c.held c.follows.states to known →
      Good (record { frame = frame_of c to slots operands; callers = fs; store = w })
  come now c to known slots operands w fs low heap next callers typed h = record {
    now = now;
    low = low;
    c = c;
    at = to;
    known = h.next;
    slots = slots;
    operands = operands;
    is = refl;
    here = h.there;
    typed = reached now c w known h.next slots operands h.reaches typed;
    heap = heap;
    next = next;
    callers = callers;
  }

  -- pushes a word of the type that the rule says, after events that allow what comes after
  pub pushed : (now : ℕ) (c : Context) (to : ℕ) (known : Known) (slots operands : List Word) (ks : List Kind) (k : Kind)
      (v : Word) (es : List Event) (w : Store) (fs : List Frame) →
      now ≤ count image → HeapAt image now w → w.next ≡ suc now → CallersOf now c w fs →
      Typed now c w known.stored known.set slots operands ks → Has image now w v k →
      Pushes image c.x c.owner c.body c.bounds c.held c.follows.states to known ks k →
      Later image (call_of (frame_of c to slots operands) ∷ map call_of fs) es
      (call_of (frame_of c to slots operands) ∷ map call_of fs) →
      Fine (call_of (frame_of c to slots operands) ∷ map call_of fs)
      (push v es (record { frame = frame_of c to slots operands; callers = fs; store = w }))
  pushed now c to known slots operands ks k v es w fs low heap next callers typed has p later =
      let s : State = record { frame = frame_of c to slots (v ∷ operands); callers = fs; store = w } in
      subst (λ (x : Next). Fine (call_of (frame_of c to slots operands) ∷ map call_of fs) x)
      (sym (pick_true (nat_lt (length slots + length operands) c.body.slots) (Go es s) (Halt Wrong []) room)) (
        come now c to (record known { operands = k ∷ ks }) slots (v ∷ operands) w fs low heap next callers
            (with_operands now c w known.stored known.set slots operands (v ∷ operands) ks (k ∷ ks) (has, typed.stack)
            typed) p.comes,
        later,
      )
    where
      room : nat_lt (length slots + length operands) c.body.slots ≡ true
      room = lt-ltb (length slots + length operands) c.body.slots
          (let r = p.room in let l = typed.long in let m = all_length image now w operands ks typed.stack in
          omega (arith, r, l, m))

  abbrev pub state_of : Context → ℕ → List Word → List Word → Store → List Frame → State
  state_of c to slots operands w fs = record { frame = frame_of c to slots operands; callers = fs; store = w }

  abbrev pub calls_at : Context → List Frame → List Call
  calls_at c fs =
      record { instance = name_in (slice_get (all_instances image.code) c.x); body = c.body.name } ∷ map call_of fs

  -- a good state whose frame is taken apart
  pub record Running (now : ℕ) (c : Context) (known : Known) (slots operands : List Word) (w : Store)
      (fs : List Frame) : Type 0 where
    pub low : now ≤ count image
    pub heap : HeapAt image now w
    pub next : w.next ≡ suc now
    pub callers : CallersOf now c w fs
    pub typed : Typed now c w known.stored known.set slots operands known.operands

  -- what an operation came to is pushed
  pub replied : (now : ℕ) (c : Context) (to : ℕ) (known : Known) (slots operands others : List Word) (ks : List Kind)
      (k : Kind) (r : Reply) (w : Store) (fs : List Frame) →
      Running now c known slots operands w fs → AllHave image now w others ks →
      Answers image now (calls_at c fs) w k r →
      Pushes image c.x c.owner c.body c.bounds c.held c.follows.states to known ks k →
      Fine (calls_at c fs) (push_reply r (state_of c to slots others w fs))
  replied now c to known slots operands others ks k (Replies v u es) w fs r o a p =
      pushed now c to known slots others ks k v es u fs r.low a.1 (a.0.next ∙ r.next)
      (callers_grow now w u c.owner (kind_in c.x c.bounds.result) c.bounds.effect fs a.0 r.callers)
      (typed_grows now c w u known.stored known.set slots others ks a.0
      (with_operands now c w known.stored known.set slots operands others known.operands ks o r.typed))
      a.2 p a.3
  replied now c to known slots operands others ks k (Ends e es) w fs r o a p = a
