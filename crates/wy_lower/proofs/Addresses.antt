-- The code of a body at its addresses, the states that the machine is in there, and single steps from them.
use Rattle.std.proofs.Common.{◌≡◌, ◌≢◌, ℕ, suc, ◌+◌, ◌<◌, List, [], ◌∷◌, ◌++◌, length, drop, refl, sym, ap, ◌∙◌, subst, arith, append_assoc, append-nil, zero-add, if◌then◌else◌}
use Rattle.std.proofs.lemmas.Bool.{lt-ltb}
use Rattle.wy_text.specs.declared.fault.Place.{Place}
use Rattle.wy_device.specs.declared.deed.Event.{Event}
use Rattle.wy_device.specs.RunEnds.{RunEnd, Wrong}
use Rattle.wy_meaning.specs.Values.{Value, World, Outcome, Gives, Stops, replied, stopped}
use Rattle.wy_meaning.specs.Results.{Result, tick, settle}
use Rattle.wy_code.specs.declared.code.Body.{Body}
use Rattle.wy_code.specs.declared.code.Code.{Code}
use Rattle.wy_code.specs.declared.instruction.Instruction.{Instruction}
use Rattle.wy_code.specs.declared.instruction.Placed.{Placed}
use Rattle.wy_code.specs.Stores.{Word, Store, Reply, Replies, Ends as EndsRun}
use Rattle.wy_code.specs.Machine.{Frame, State, Go, stuck, push, push_reply, taken, take_operands, act, act_first, step}
use Rattle.wy_lower.specs.Listing.{one}
use Rattle.wy_lower.proofs.Leads.{Leads, Ends, RunsTo, Runs, one_leads, one_ends}
use Rattle.wy_lower.proofs.Looking.{drop_past}

module _ (b : Body) where
  -- from one address to another stand these instructions
  pub record Stands (at : ℕ) (xs : List Placed) (end : ℕ) : Type 0 where
    pub by : drop at b.instructions ≡ xs ++ drop end b.instructions

  all_after : (at : ℕ) (xs ys : List Placed) (end : ℕ) → Stands at (xs ++ ys) end → drop at b.instructions ≡ xs ++ (ys ++ drop end b.instructions)
  all_after at xs ys end h = h.by ∙ append_assoc xs ys (drop end b.instructions)

  pub first_stands : (at : ℕ) (xs ys : List Placed) (end : ℕ) → Stands at (xs ++ ys) end → Stands at xs (at + length xs)
  first_stands at xs ys end h =
      let e = all_after at xs ys end h in
      record { by = e ∙ ap (λ l. xs ++ l) (sym (drop_past at b.instructions xs _ e)) }

  pub rest_stands : (at : ℕ) (xs ys : List Placed) (end : ℕ) → Stands at (xs ++ ys) end → Stands (at + length xs) ys end
  rest_stands at xs ys end h = record { by = drop_past at b.instructions xs _ (all_after at xs ys end h) }

  -- nothing stands between two addresses that have the same instructions after them
  pub end_stands : (at : ℕ) (xs : List Placed) (end : ℕ) → Stands at xs end → drop (at + length xs) b.instructions ≡ drop end b.instructions
  end_stands at xs end h = drop_past at b.instructions xs _ h.by

-- operands pushed one after the other
abbrev pub pile : List Word → List Word → List Word
pile [] operands = operands
pile (v ∷ vs) operands = pile vs (v ∷ operands)

take_pile : (vs : List Word) (j : ℕ) (operands all : List Word) →
    take_operands (length vs + j) (pile vs operands) all ≡ take_operands j operands (vs ++ all)
take_pile [] j operands all = ap (λ (m : ℕ). take_operands m operands all) (zero-add j)
take_pile (v ∷ vs) j operands all =
    let e : length (v ∷ vs) + j ≡ length vs + suc j = omega arith in
    ap (λ (m : ℕ). take_operands m (pile vs (v ∷ operands)) all) e ∙ take_pile vs (suc j) (v ∷ operands) all

pub takes : (vs operands : List Word) (k : ℕ) → length vs ≡ k → take_operands k (pile vs operands) [] ≡ taken vs operands
takes vs operands k e =
    let m : k ≡ length vs + 0 = omega arith in
    ap (λ (m : ℕ). take_operands m (pile vs operands) []) m ∙ take_pile vs 0 operands [] ∙ ap (λ (l : List Word). taken l operands) (append-nil vs)

-- what the machine chose: a word for a value or words for several, its store and its slots
pub record One : Type 0 where
  pub word : Word
  pub store : Store
  pub slots : List Word

pub record Many : Type 0 where
  pub words : List Word
  pub store : Store
  pub slots : List Word

module _ (x : ℕ) (b : Body) (callers : List Frame) where
  -- a body of an instance at an address, with these slots and operands
  abbrev pub state : ℕ → List Word → List Word → Store → State
  state at slots operands m =
      record {
        frame = record { instance = x; body = b; rest = drop at b.instructions; slots = slots; operands = operands };
        callers = callers;
        store = m;
      }

  abbrev pub pushed : {A : Type 0} → ℕ → List Word → A → World → One → State
  pushed end operands v w c = state end c.slots (c.word ∷ operands) c.store

  abbrev pub piled : {A : Type 0} → ℕ → List Word → A → World → Many → State
  piled end operands vs w c = state end c.slots (pile c.words operands) c.store

  pub acts : (g : Code) (n at : ℕ) (place : Place) (i : Instruction) (end : ℕ) (slots operands : List Word) (m : Store) →
      Stands b at (one place i) end → step g n (state at slots operands m) ≡ act g n place i (state end slots operands m)
  unfolding step
  acts g n at place i end slots operands m h = ap (λ (l : List Placed). act_first g n l (state at slots operands m)) h.by

  pub pushes : (at : ℕ) (slots operands : List Word) (m : Store) (z : Word) (es : List Event) → length slots + length operands < b.slots →
      push z es (state at slots operands m) ≡ Go es (state at slots (z ∷ operands) m)
  pushes at slots operands m z es h =
      ap (λ c. if c then Go es (state at slots (z ∷ operands) m) else stuck) (lt-ltb (length slots + length operands) b.slots h)

------------------------------------------------------------
-- Primitive operations

module _ (fine : Value → World → One → Type 0) (slots : List Word) where
  abbrev pub AnswersTo : Outcome Value → World → List Event → ℕ → Reply → Type 0
  AnswersTo (Stops e) w es q a = (q ≡ 0) × (e ≢ Wrong → a ≡ EndsRun e es)
  AnswersTo (Gives v) w es q a = (q ≡ 0) × (z : Word) × (m : Store) × fine v w (record { word = z; store = m; slots = slots }) × (a ≡ Replies z m es)

  -- the machine replies as a result says that takes no instruction
  pub record Answers (r : Result Value) (a : Reply) : Type 0 where
    pub by : AnswersTo r.out r.world r.events r.steps a

  pub replied_answers : (v : Value) (w : World) (z : Word) (m : Store) → fine v w (record { word = z; store = m; slots = slots }) →
      Answers (settle (replied v w)) (Replies z m [])
  unfolding settle
  replied_answers v w z m f = record { by = (refl, z, m, f, refl) }

  pub stopped_answers : (e : RunEnd) (w : World) → Answers (settle (stopped e w)) (EndsRun e [])
  unfolding settle
  stopped_answers e w = record { by = (refl, λ ne. refl) }

  pub wrong_answers : (w : World) (a : Reply) → Answers (settle (stopped Wrong w)) a
  unfolding settle
  wrong_answers w a = record { by = (refl, λ ne. absurd (ne refl)) }

module _ (x : ℕ) (b : Body) (callers : List Frame) (fine : Value → World → One → Type 0) (slots : List Word) where
  module _ (g : Code) (n end : ℕ) (operands : List Word) (m : Store) (t : State) (room : length slots + length operands < b.slots) where
    answers_to : (o : Outcome Value) (w : World) (es : List Event) (q : ℕ) (a : Reply) → AnswersTo fine slots o w es q a →
        step g n t ≡ push_reply a (state x b callers end slots operands m) → RunsTo g n fine (pushed x b callers end operands) t o w es (suc q)
    answers_to (Stops e) w es q a h st =
        λ ne. subst (λ (k : ℕ). Ends g n t (suc k) es e) (sym h.0)
        (one_ends g n t e es (st ∙ ap (λ a. push_reply a (state x b callers end slots operands m)) (h.1 ne)))
    answers_to (Gives v) w es q a h st = (
      record { word = h.1; store = h.2; slots = slots },
      h.3,
      subst (λ (k : ℕ). Leads g n t (suc k) es (state x b callers end slots (h.1 ∷ operands) h.2)) (sym h.0)
          (one_leads g n t _ es (st ∙ ap (λ a. push_reply a (state x b callers end slots operands m)) h.4
          ∙ pushes x b callers end slots operands h.2 h.1 es room)),
    )

    -- one instruction that pushes what an operation answers
    pub answer_runs : (r : Result Value) (a : Reply) → Answers fine slots r a → step g n t ≡ push_reply a (state x b callers end slots operands m) →
        Runs g n fine (pushed x b callers end operands) t (tick r)
    unfolding tick
    answer_runs r a h st = record { by = answers_to r.out r.world r.events r.steps a h.by st }
