-- A statement before the rest of its block, from what judging its value does and the type of its `val` put into the table.
use Rattle.std.proofs.Common.{◌≡◌, ℕ, List, [], ◌∷◌, ◌++◌, inl, inr, refl, sym, subst, Option, Some, None}
use Rattle.std.specs.Prelude.{slice_get}
use Rattle.wy_text.specs.declared.fault.Place.{Place}
use Rattle.wy_text.specs.declared.fault.Fault.{Fault}
use Rattle.wy_text.specs.declared.fault.RuleName.{RuleName}
use Rattle.wy_text.specs.declared.fault.RuleName.TheVariants.{TSeq, TVal}
use Rattle.wy_text.proofs.Lists.{In-left}
use Rattle.wy_types.specs.declared.types.TypeRef.{TypeRef}
use Rattle.wy_types.specs.declared.types.TypeRef.TheVariants.{Unit as Nothing}
use Rattle.wy_types.specs.declared.code.Value as v
use Rattle.wy_types.specs.declared.code.Stmt as st
use Rattle.wy_types.specs.declared.code.Variable.TheVariants.{Local}
use Rattle.wy_types.specs.Code.{Expr, Plain, If, Block, Val}
use Rattle.wy_types.specs.Program.{Program, Scope}
use Rattle.wy_types.specs.Fitting.{IsTypeOf}
use Rattle.wy_types.specs.View.{value_of, stmt_block}
use Rattle.wy_types.specs.Vals.{value_vals, block_vals}
use Rattle.wy_rules.specs.Derivations.{mark}
use Rattle.wy_rules.specs.Acceptance.{scope_reading}
use Rattle.wy_rules.specs.Nodes.{nothing, written}
use Rattle.wy_judge.specs.Inference as inferred
use Rattle.wy_judge.specs.Fit.{Fit}
use Rattle.wy_judge.specs.Fit as fit
use Rattle.wy_judge.specs.Step as step
use Rattle.wy_judge.specs.Outcomes.{fault_at, stated_fit, stated_step, untyped_fault}
use Rattle.wy_judge.specs.Judged.{Stated}
use Rattle.wy_judge.specs.Tables.{Table, IsKnown, IsScopeOf, Agrees, IsPut, Moves, ValueReady, BlockReady}
use Rattle.wy_judge.specs.Judging.{FitStands, NoFault, StepStands, step_fit, InfersTo, FitsTo, ProbesTo, StatesTo}
use Rattle.wy_judge.proofs.Blocks.{then_stated, typed_stated, typed_misfit, typed_fails, untyped_stated, untyped_fails, untyped_choice}
use Rattle.wy_judge.proofs.Contexts.{written_in_range}
use Rattle.wy_judge.proofs.Moving.{moves_under, ready_left, ready_other, ready_right}
use Rattle.wy_judge.proofs.Putting.{put_keeps, put_agrees, put_moves, sees_known, moves_among}
use Rattle.wy_judge.proofs.ValueParts.{lawful}

-- a statement and its outcome in the words of either layer
pub stated_step_fit : (place : Place) (rule : RuleName) (u : Fit) → stated_fit place rule u ≡ step_fit (stated_step place rule u)
stated_step_fit place rule (fit.Has e) = refl
stated_step_fit place rule fit.Misfit = refl
stated_step_fit place rule (fit.Fails fault) = refl

pub stated_stands : (place : Place) (rule : RuleName) (u : Fit) → StepStands (stated_step place rule u) → FitStands u
stated_stands place rule (fit.Has e) h = tt
stated_stands place rule fit.Misfit h = absurd h
stated_stands place rule (fit.Fails fault) h = absurd h

module _ (p : Program) (k : ℕ) (s : Scope) (c : IsScopeOf p k s) (owner : Option ℕ) where
  ------------------------------------------------------------
  -- A statement that is no `val`

  pub do_ready : (table : Table) (x : v.Value) (rest : Block) → BlockReady p k s owner table (stmt_block (st.Do x) rest) → ValueReady p k s owner table (value_of x)
  do_ready table x rest r = (r.0, r.1.0, ready_left p k s table r.0 (value_vals (value_of x)) (block_vals rest) r.2)

  pub do_states : (old new : Table) (x : v.Value) (u : Fit) → FitsTo p k s owner old new (value_of x) Nothing u → StatesTo p k s owner old new (st.Do x) (stated_step (mark (value_of x)) TSeq u)
  do_states old new x u h = record {
    moves = moves_under p k s old new (value_vals (value_of x)) (FitStands u) (StepStands (stated_step (mark (value_of x)) TSeq u)) h.moves (stated_stands (mark (value_of x)) TSeq u);
    goes_on = λ stands rest r. (r.0, r.1.1, ready_right p k s old new r.0 (value_vals (value_of x)) (block_vals rest) (FitStands u) r.2 h.moves);
    judged = λ locals a.
        subst (λ z. Stated p k s locals owner (stmt_block (st.Do x)) z) (stated_step_fit (mark (value_of x)) TSeq u)
        (then_stated p k s (lawful p k s c owner) locals owner (value_of x) u (h.judged locals a (written Nothing) refl));
  }

  ------------------------------------------------------------
  -- A `val`: its initialiser is ready, and its own type is not known before

  module _ (q : Place) (n : ℕ) (typ : Option TypeRef) (x : v.Value) where
    pub val_ready : (table : Table) (rest : Block) → BlockReady p k s owner table (stmt_block (st.Val q n typ x) rest) → ValueReady p k s owner table (value_of x)
    val_ready table rest r = (
      r.0,
      r.1.1,
      ready_left p k s table r.0 (value_vals (value_of x)) (block_vals rest) (ready_other p k s table r.0 (n ∷ []) (value_vals (value_of x) ++ block_vals rest) r.2),
    )

    val_fresh : (old mid : Table) (rest : Block) (P : Type 0) → BlockReady p k s owner old (stmt_block (st.Val q n typ x) rest) → Moves p k s old mid (value_vals (value_of x)) P → IsKnown mid n → ⊥
    val_fresh old mid rest P r m known =
        elim (m.only n known) [
          | inl before ↦ r.2.fresh n (inl refl) before
          | inr among ↦ r.2.apart.0 (In-left n (value_vals (value_of x)) (block_vals rest) among)
        ]

    -- the rest of the block is ready when the type is put in
    val_goes_on : (old mid new : Table) (t : TypeRef) (P : Type 0) → Moves p k s old new (n ∷ value_vals (value_of x)) P → IsPut mid new n t → (rest : Block) →
        BlockReady p k s owner old (stmt_block (st.Val q n typ x) rest) → BlockReady p k s owner new rest
    val_goes_on old mid new t P m put rest r = (
      Local n ∷ r.0,
      r.1.2,
      sees_known p k s new r.0 (block_vals rest) n (t, put.here) (ready_right p k s old new r.0 (n ∷ value_vals (value_of x)) (block_vals rest) P r.2 m),
    )

    -- it stands
    val_done : (old mid new : Table) (t : TypeRef) (e : List ℕ) (rest : Block) → BlockReady p k s owner old (stmt_block (st.Val q n typ x) rest) → IsTypeOf p k t →
        Moves p k s old mid (value_vals (value_of x)) (Unit {0}) → IsPut mid new n t →
        ((locals : List (scope_reading p k s).Kind) → Agrees (scope_reading p k s) locals mid → slice_get locals n ≡ Some ((scope_reading p k s).read t) → Stated p k s locals owner (stmt_block (st.Val q n typ x)) (fit.Has e)) →
        StatesTo p k s owner old new (st.Val q n typ x) (step.Done e)
    val_done old mid new t e rest r fits m put states =
        let fresh = val_fresh old mid rest (Unit {0}) r m in
        let moves = put_moves p k s old mid new n t (value_vals (value_of x)) (Unit {0}) (Unit {0}) (λ z. z) fits fresh put m in
        record {
          moves = moves;
          goes_on = λ z other o. val_goes_on old mid new t (Unit {0}) moves put other o;
          judged = λ locals a. states locals (λ i u known. a i u (put_keeps mid new n t put fresh i u known)) (put_agrees mid new n t put (scope_reading p k s) locals a);
        }

    -- a node fails in it
    val_fails : (old new : Table) (fault : Fault) (P : Type 0) → Moves p k s old new (value_vals (value_of x)) P →
        ((locals : List (scope_reading p k s).Kind) → Agrees (scope_reading p k s) locals new → Stated p k s locals owner (stmt_block (st.Val q n typ x)) (fit.Fails fault)) →
        StatesTo p k s owner old new (st.Val q n typ x) (step.Fails fault)
    val_fails old new fault P m states = record {
      moves = moves_among p k s old new (value_vals (value_of x)) (n ∷ value_vals (value_of x)) P ⊥ m (λ i among. inr among) (λ z. z);
      goes_on = λ z other o. absurd z;
      judged = states;
    }

  ------------------------------------------------------------
  -- With a type

  module _ (q : Place) (n : ℕ) (t : TypeRef) (x : v.Value) where
    -- the type is in range
    pub typed_in_range : (table : Table) (rest : Block) → BlockReady p k s owner table (stmt_block (st.Val q n (Some t) x) rest) → IsTypeOf p k t
    typed_in_range table rest r = written_in_range p k s c t (r.1.0 t refl)

    pub typed_done : (old mid new : Table) (e : List ℕ) (rest : Block) → BlockReady p k s owner old (stmt_block (st.Val q n (Some t) x) rest) → FitsTo p k s owner old mid (value_of x) t (fit.Has e) → IsPut mid new n t →
        StatesTo p k s owner old new (st.Val q n (Some t) x) (step.Done e)
    typed_done old mid new e rest r h put =
        val_done q n (Some t) x old mid new t e rest r (typed_in_range old rest r) h.moves put
        (λ locals a i. typed_stated p k s (lawful p k s c owner) locals owner q n t (value_of x) (fit.Has e) i (h.judged locals a (written t) refl))

    pub typed_misfits : (old new : Table) → FitsTo p k s owner old new (value_of x) t fit.Misfit → StatesTo p k s owner old new (st.Val q n (Some t) x) (step.Fails (fault_at q TVal 1))
    typed_misfits old new h =
        val_fails q n (Some t) x old new (fault_at q TVal 1) (FitStands fit.Misfit) h.moves (λ locals a. typed_misfit p k s (lawful p k s c owner) locals owner q n t (value_of x) (h.judged locals a (written t) refl))

    pub typed_failing : (old new : Table) (fault : Fault) → FitsTo p k s owner old new (value_of x) t (fit.Fails fault) → StatesTo p k s owner old new (st.Val q n (Some t) x) (step.Fails fault)
    typed_failing old new fault h =
        val_fails q n (Some t) x old new fault ⊥ h.moves (λ locals a. typed_fails p k s (lawful p k s c owner) locals owner q n t (value_of x) fault (h.judged locals a (written t) refl))

  ------------------------------------------------------------
  -- Without a type

  module _ (q : Place) (n : ℕ) (x : v.Value) where
    pub untyped_done : (old mid new : Table) (y : Expr) (t : TypeRef) (e : List ℕ) (rest : Block) → value_of x ≡ Plain y → BlockReady p k s owner old (stmt_block (st.Val q n None x) rest) →
        InfersTo p k s owner old mid y (inferred.Least t e) → IsPut mid new n t → StatesTo p k s owner old new (st.Val q n None x) (step.Done e)
    untyped_done old mid new y t e rest is r h put =
        val_done q n None x old mid new t e rest r h.range (subst (λ z. Moves p k s old mid (value_vals z) (Unit {0})) (sym is) h.moves) put
        (λ locals a i. subst (λ z. Stated p k s locals owner (Val q n None z) (fit.Has e)) (sym is) (untyped_stated p k s (lawful p k s c owner) locals owner q n y t e i (h.judged locals a)))

    pub untyped_failing : (old new : Table) (y : Expr) (fault : Fault) → value_of x ≡ Plain y → InfersTo p k s owner old new y (inferred.Fails fault) → StatesTo p k s owner old new (st.Val q n None x) (step.Fails fault)
    untyped_failing old new y fault is h =
        val_fails q n None x old new fault ⊥ (subst (λ z. Moves p k s old new (value_vals z) ⊥) (sym is) h.moves)
        (λ locals a. subst (λ z. Stated p k s locals owner (Val q n None z) (fit.Fails fault)) (sym is) (untyped_fails p k s (lawful p k s c owner) locals owner q n y fault (h.judged locals a)))

    -- its initialiser is an `if`
    pub choice_states : (old new : Table) (place : Place) (test : Expr) (first second : Block) (o : Option Fault) → value_of x ≡ If place test first second → ProbesTo p k s owner old new (value_of x) o →
        StatesTo p k s owner old new (st.Val q n None x) (step.Fails (untyped_fault q o))
    choice_states old new place test first second o is h =
        let g = subst (λ z. ProbesTo p k s owner old new z o) is h in
        val_fails q n None x old new (untyped_fault q o) (NoFault o) h.moves
        (λ locals a.
        subst (λ z. Stated p k s locals owner (Val q n None z) (fit.Fails (untyped_fault q o))) (sym is)
        (untyped_choice p k s (lawful p k s c owner) locals owner q n place test first second o (g.judged locals a nothing refl)))
