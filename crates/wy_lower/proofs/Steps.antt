-- The instructions of forms: constants, operators, jumps, and calls.
use Rattle.std.proofs.Common.{◌≡◌, ℕ, ◌+◌, ◌<◌, true, false, List, [], ◌∷◌, length, drop, Some, refl, sym, ap, ◌∙◌, subst}
use Rattle.std.specs.Prelude.{slice_get}
use Rattle.wy_text.specs.declared.fault.Place.{Place}
use Rattle.wy_types.specs.declared.code.UnaryOperator.{UnaryOperator}
use Rattle.wy_types.specs.declared.code.UnaryOperator.TheVariants as unary
use Rattle.wy_types.specs.declared.code.TextOperator.{TextOperator}
use Rattle.wy_types.specs.declared.code.TextOperator.TheVariants as text
use Rattle.wy_types.specs.Core.{text_arity}
use Rattle.wy_types.specs.Program.{Program}
use Rattle.wy_device.specs.Editions.{current}
use Rattle.wy_meaning.specs.Values.{Value, World}
use Rattle.wy_meaning.specs.Starts.{Starts, GrantIs, grant_of}
use Rattle.wy_meaning.specs.Eval.{Sight, Calls, choose, apply}
use Rattle.wy_meaning.specs.Operating.{unary_operator, text_operator, operated}
use Rattle.wy_meaning.specs.Results.{Result, give, tick, settle}
use Rattle.wy_code.specs.declared.code.Body.{Body}
use Rattle.wy_code.specs.declared.code.Code.{Code}
use Rattle.wy_code.specs.declared.instruction.Constant.{Constant}
use Rattle.wy_code.specs.declared.instruction.Operator.{Operator}
use Rattle.wy_code.specs.declared.instruction.Instruction.TheVariants.{Push, Op as Operate, Jump, JumpFalse, Call}
use Rattle.wy_code.specs.declared.instruction.Placed.{Placed}
use Rattle.wy_code.specs.Stores as word
use Rattle.wy_code.specs.Stores.{Word, Store}
use Rattle.wy_code.specs.Operations as machine
use Rattle.wy_code.specs.Operations.{operator_meant, operand_count, performed}
use Rattle.wy_code.specs.Machine.{Frame, State, Go, push_reply, on_taken, pop, call_on, word_of, step}
use Rattle.wy_lower.specs.Inside.{Inside}
use Rattle.wy_lower.specs.Listing.{one, unary_code, text_code}
use Rattle.wy_lower.specs.Lowering.{method_table, lowered}
use Rattle.wy_lower.specs.Parts.{number_in}
use Rattle.wy_lower.proofs.Addresses.{Stands, state, pushed, pile, takes, acts, pushes, answer_runs}
use Rattle.wy_lower.proofs.Leads.{Runs, give_runs, tick_runs, wrong_step_runs}
use Rattle.wy_lower.proofs.Ready.{Ready, Fine}
use Rattle.wy_lower.proofs.Relation.{Same, same_int, same_truth, same_nothing, same_text, same_object, same_grant, SameAll}
use Rattle.wy_lower.proofs.Replies.{operated_fits, HasGrant, performed_fits}

unary_meant : (o : UnaryOperator) → operator_meant (unary_code o) ≡ unary_operator o
unary_meant unary.Negate = refl
unary_meant unary.Not = refl

text_meant : (o : TextOperator) → operator_meant (text_code o) ≡ text_operator o
text_meant text.Size = refl
text_meant text.Part = refl
text_meant text.Code = refl
text_meant text.Byte = refl
text_meant text.Show = refl

unary_count : (o : UnaryOperator) → operand_count (unary_code o) ≡ 1
unary_count unary.Negate = refl
unary_count unary.Not = refl

text_count : (o : TextOperator) → operand_count (text_code o) ≡ text_arity o
text_count text.Size = refl
text_count text.Part = refl
text_count text.Code = refl
text_count text.Byte = refl
text_count text.Show = refl

module _ (p : Program) (s : Starts) (i : Inside) (x : ℕ) (sight : Sight) (w0 : World) (m0 : Store) (g : Code) (n : ℕ) (b : Body)
    (callers : List Frame) (end : ℕ) (stack : List Word) where
  -- what a form does in a state: it pushes its value's word
  abbrev pub Does : State → Result Value → Type 0
  Does t q = Runs g n (Fine p s i x sight w0 m0) (pushed x b callers end stack) t q

  module _ (at : ℕ) (w : World) (m : Store) (slots : List Word) (r : Ready p s i x sight w0 m0 w m slots) where
    abbrev here : List Word → State
    here operands = state x b callers at slots operands m

    -- a word that is pushed as it stands
    pub push_runs : (t : State) (v : Value) (z : Word) → Same m.texts v z → step g n t ≡ Go [] (state x b callers end slots (z ∷ stack) m) →
        Does t (tick (give v w))
    push_runs t v z h st =
        tick_runs g n (Fine p s i x sight w0 m0) (pushed x b callers end stack) t (state x b callers end slots (z ∷ stack) m) (give v w) st
        (give_runs g n (Fine p s i x sight w0 m0) (pushed x b callers end stack) v w (record { word = z; store = m; slots = slots })
        (record { same = h; ready = r }))

    pub constant_runs : (place : Place) (c : Constant) (v : Value) → Same m.texts v (word_of c) → length slots + length stack < b.slots →
        Stands b at (one place (Push c)) end → Does (here stack) (tick (give v w))
    constant_runs place c v h room code =
        push_runs (here stack) v (word_of c) h
        (acts x b callers g n at place (Push c) end slots stack m code ∙ pushes x b callers end slots stack m (word_of c) [] room)

    pub operator_runs : s.edition ≡ current → (place : Place) (o : Operator) (vs : List Value) (zs : List Word) → SameAll m.texts vs zs → length zs ≡ operand_count o →
        length slots + length stack < b.slots → Stands b at (one place (Operate o)) end →
        Does (here (pile zs stack)) (tick (settle (operated s.edition place (Some (operator_meant o)) vs w)))
    operator_runs now place o vs zs h many room code =
        answer_runs x b callers (Fine p s i x sight w0 m0) slots g n end stack m (here (pile zs stack)) room _ _
        (operated_fits p s i x sight w0 m0 slots w m r now place o vs zs h)
        (acts x b callers g n at place (Operate o) end slots (pile zs stack) m code
        ∙ ap (λ t. on_taken t (state x b callers end slots (pile zs stack) m) (λ us u. push_reply (machine.operated place o us u.store) u))
        (takes zs stack (operand_count o) many))

    pub unary_runs : s.edition ≡ current → (place : Place) (o : UnaryOperator) (vs : List Value) (zs : List Word) → SameAll m.texts vs zs → length zs ≡ 1 →
        length slots + length stack < b.slots → Stands b at (one place (Operate (unary_code o))) end →
        Does (here (pile zs stack)) (tick (settle (operated s.edition place (Some (unary_operator o)) vs w)))
    unary_runs now place o vs zs h many room code =
        subst (λ c. Does (here (pile zs stack)) (tick (settle (operated s.edition place (Some c) vs w)))) (unary_meant o)
        (operator_runs now place (unary_code o) vs zs h (many ∙ sym (unary_count o)) room code)

    pub text_runs : s.edition ≡ current → (place : Place) (o : TextOperator) (vs : List Value) (zs : List Word) → SameAll m.texts vs zs → length zs ≡ text_arity o →
        length slots + length stack < b.slots → Stands b at (one place (Operate (text_code o))) end →
        Does (here (pile zs stack)) (tick (settle (operated s.edition place (Some (text_operator o)) vs w)))
    text_runs now place o vs zs h many room code =
        subst (λ c. Does (here (pile zs stack)) (tick (settle (operated s.edition place (Some c) vs w)))) (text_meant o)
        (operator_runs now place (text_code o) vs zs h (many ∙ sym (text_count o)) room code)

    -- a test is popped, and one of two sides goes on
    pub choose_runs : (place : Place) (to : ℕ) (next : ℕ) (v : Value) (z : Word) (fa fb : World → Result Value) → Same m.texts v z →
        Stands b at (one place (JumpFalse to)) next → Does (state x b callers next slots stack m) (fa w) →
        Does (state x b callers to slots stack m) (fb w) → Does (here (z ∷ stack)) (tick (choose v fa fb w))
    choose_runs place to next v z fa fb (same_truth true) code ra rb =
        tick_runs g n (Fine p s i x sight w0 m0) (pushed x b callers end stack) _ (state x b callers next slots stack m) (fa w)
        (acts x b callers g n at place (JumpFalse to) next slots _ m code) ra
    choose_runs place to next v z fa fb (same_truth false) code ra rb =
        tick_runs g n (Fine p s i x sight w0 m0) (pushed x b callers end stack) _ (state x b callers to slots stack m) (fb w)
        (acts x b callers g n at place (JumpFalse to) next slots _ m code) rb
    choose_runs place to next v z fa fb (same_int k) code ra rb = wrong_step_runs g n (Fine p s i x sight w0 m0) (pushed x b callers end stack) _ w
    choose_runs place to next v z fa fb same_nothing code ra rb = wrong_step_runs g n (Fine p s i x sight w0 m0) (pushed x b callers end stack) _ w
    choose_runs place to next v z fa fb (same_text bytes k e) code ra rb =
        wrong_step_runs g n (Fine p s i x sight w0 m0) (pushed x b callers end stack) _ w
    choose_runs place to next v z fa fb (same_object a) code ra rb = wrong_step_runs g n (Fine p s i x sight w0 m0) (pushed x b callers end stack) _ w
    choose_runs place to next v z fa fb (same_grant a) code ra rb = wrong_step_runs g n (Fine p s i x sight w0 m0) (pushed x b callers end stack) _ w

    -- a jump to where the form ends
    pub jump_runs : (place : Place) (to next : ℕ) (v : Value) (z : Word) → Same m.texts v z → Stands b at (one place (Jump to)) next →
        drop to b.instructions ≡ drop end b.instructions → Does (here (z ∷ stack)) (tick (give v w))
    jump_runs place to next v z h code e =
        push_runs (here (z ∷ stack)) v z h
        (acts x b callers g n at place (Jump to) next slots (z ∷ stack) m code
        ∙ ap (λ (l : List Placed). Go []
        (record { frame = record { instance = x; body = b; rest = l; slots = slots; operands = z ∷ stack }; callers = callers; store = m })) e)

-- what calls on objects do, where so many more may be open
pub record CallsRun (p : Program) (s : Starts) (n d : ℕ) (calls : Calls) : Type 0 where
  pub by : (i : Inside) (x : ℕ) (sight : Sight) (w0 : World) (m0 : Store) (b : Body) (callers : List Frame) (at end : ℕ) (stack : List Word)
      (w : World) (m : Store) (slots : List Word) →
      Ready p s i x sight w0 m0 w m slots → d + length callers ≡ n →
      (place : Place) (a : ℕ) (name : List ℕ) (k : ℕ) (vs : List Value) (zs : List Word) → SameAll m.texts vs zs → length zs ≡ k →
      Stands b at (one place (Call (number_in (method_table p) name) k)) end →
      Does p s i x sight w0 m0 (lowered p s) n b callers end stack (state x b callers at slots (pile zs (word.Object a ∷ stack)) m)
      (tick (calls a name vs w))

-- the code has the program's grants, whose types are those of the current edition
pub record HasGrants (p : Program) (s : Starts) : Type 0 where
  pub edition : s.edition ≡ current
  pub grants : (k : ℕ) (y : GrantIs) → grant_of s.edition p k ≡ Some y → HasGrant y (slice_get (lowered p s).grants k)

module _ (p : Program) (s : Starts) (has : HasGrants p s) (n d : ℕ) (calls : Calls) (ok : CallsRun p s n d calls) (i : Inside) (x : ℕ) (sight : Sight)
    (w0 : World) (m0 : Store) (b : Body) (callers : List Frame) (at end : ℕ) (stack : List Word) (w : World) (m : Store) (slots : List Word)
    (r : Ready p s i x sight w0 m0 w m slots) (deep : d + length callers ≡ n) (room : length slots + length stack < b.slots) where
  -- a call on an object, or an operation on a grant
  pub apply_runs : (place : Place) (v : Value) (z : Word) (name : List ℕ) (k : ℕ) (vs : List Value) (zs : List Word) → Same m.texts v z →
      SameAll m.texts vs zs → length zs ≡ k → Stands b at (one place (Call (number_in (method_table p) name) k)) end →
      slice_get (lowered p s).methods (number_in (method_table p) name) ≡ Some name →
      Does p s i x sight w0 m0 (lowered p s) n b callers end stack (state x b callers at slots (pile zs (z ∷ stack)) m)
      (tick (apply p s calls place v name vs w))
  apply_runs place v z name k vs zs (same_object a) same many code named =
      ok.by i x sight w0 m0 b callers at end stack w m slots r deep place a name k vs zs same many code
  apply_runs place v z name k vs zs (same_grant a) same many code named =
      answer_runs x b callers (Fine p s i x sight w0 m0) slots (lowered p s) n end stack m _ room _ _
      (performed_fits p s i x sight w0 m0 slots w m r has.edition place (grant_of s.edition p a) (slice_get (lowered p s).grants a) name
      (slice_get (lowered p s).methods (number_in (method_table p) name)) vs zs same (has.grants a) named)
      (acts x b callers (lowered p s) n at place _ end slots (pile zs (word.Grant a ∷ stack)) m code
      ∙ ap (λ t. on_taken t (state x b callers end slots (pile zs (word.Grant a ∷ stack)) m)
      (λ us u. pop u (λ c u. call_on (lowered p s) n place (number_in (method_table p) name) us c u))) (takes zs (word.Grant a ∷ stack) k many))
  apply_runs place v z name k vs zs (same_int q) same many code named =
      wrong_step_runs (lowered p s) n (Fine p s i x sight w0 m0) (pushed x b callers end stack) _ w
  apply_runs place v z name k vs zs (same_truth q) same many code named =
      wrong_step_runs (lowered p s) n (Fine p s i x sight w0 m0) (pushed x b callers end stack) _ w
  apply_runs place v z name k vs zs same_nothing same many code named =
      wrong_step_runs (lowered p s) n (Fine p s i x sight w0 m0) (pushed x b callers end stack) _ w
  apply_runs place v z name k vs zs (same_text bytes q e) same many code named =
      wrong_step_runs (lowered p s) n (Fine p s i x sight w0 m0) (pushed x b callers end stack) _ w
