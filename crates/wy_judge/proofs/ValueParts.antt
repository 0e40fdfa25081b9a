-- A value at the type that its place expects, and where none is expected, from what judging its parts does; each part is ready in
-- its turn.
use Rattle.std.proofs.Common.{◌≡◌, ℕ, List, ◌++◌, refl, sym, ◌∙◌, subst, Option, Some, None, Bool as Truth, true, false}
use Rattle.wy_text.specs.declared.fault.Place.{Place}
use Rattle.wy_text.specs.declared.fault.Fault.{Fault}
use Rattle.wy_types.specs.declared.types.TypeRef.{TypeRef}
use Rattle.wy_types.specs.declared.types.TypeRef.TheVariants.{Bool}
use Rattle.wy_types.specs.Code.{Expr, Plain, If, Block}
use Rattle.wy_types.specs.Program.{Program, Scope}
use Rattle.wy_types.specs.Types.{is_plain}
use Rattle.wy_types.specs.Vals.{expr_vals, value_vals, block_vals}
use Rattle.wy_rules.specs.Acceptance.{scope_reading}
use Rattle.wy_rules.specs.Nodes.{Spot, nothing}
use Rattle.wy_rules.proofs.Forms.{Lawful}
use Rattle.wy_rules.proofs.Standing.{reading_lawful}
use Rattle.wy_judge.specs.declared.outcomes.Fit as one
use Rattle.wy_judge.specs.declared.outcomes.Fit.TheVariants as at
use Rattle.wy_judge.specs.Inference.{Inference}
use Rattle.wy_judge.specs.Inference as inferred
use Rattle.wy_judge.specs.Fit.{Fit}
use Rattle.wy_judge.specs.Fit as fit
use Rattle.wy_judge.specs.Outcomes.{fitted_outcome, probed_outcome, chosen_fit, chosen_fault, fault_or}
use Rattle.wy_judge.specs.Results.{fit_of}
use Rattle.wy_judge.specs.Judged.{Inferred, Fitted}
use Rattle.wy_judge.specs.Tables.{Table, IsScopeOf, Moves, ExprReady, ValueReady, BlockReady}
use Rattle.wy_judge.specs.Targets.{mode_of, IsFittedIn}
use Rattle.wy_judge.specs.Judging.{InferenceStands, FitStands, NoFault, InfersTo, FitsTo, BlockFitsTo, ProbesTo, BlockProbesTo}
use Rattle.wy_judge.proofs.Choosing.{test_fails, first_fails, if_fitted, if_probed}
use Rattle.wy_judge.proofs.Contexts.{below_in_mode}
use Rattle.wy_judge.proofs.Fitting.{plain_fitted, plain_failed, plain_probed}
use Rattle.wy_judge.proofs.Moving.{agrees_before, moves_under, moves_both, moves_first, ready_left, ready_right}

------------------------------------------------------------
-- Where no node of the whole fails, none of a part does

failed_fit : (below : Truth) (fault : Fault) → fitted_outcome below (inferred.Fails fault) ≡ fit.Fails fault
failed_fit true fault = refl
failed_fit false fault = refl

probed_stands : (v : Inference) → NoFault (probed_outcome v) → InferenceStands v
probed_stands (inferred.Least t e) h = tt
probed_stands (inferred.Fails fault) h = absurd h

pub chosen_stands : (q : Place) (e m n : Fit) → FitStands (chosen_fit q e m n) → FitStands e × FitStands m × FitStands n
chosen_stands q (fit.Fails fault) m n h = absurd h
chosen_stands q fit.Misfit (fit.Fails fault) n h = absurd h
chosen_stands q fit.Misfit (fit.Has f) (fit.Has g) h = absurd h
chosen_stands q fit.Misfit (fit.Has f) fit.Misfit h = absurd h
chosen_stands q fit.Misfit (fit.Has f) (fit.Fails fault) h = absurd h
chosen_stands q fit.Misfit fit.Misfit (fit.Has g) h = absurd h
chosen_stands q fit.Misfit fit.Misfit fit.Misfit h = absurd h
chosen_stands q fit.Misfit fit.Misfit (fit.Fails fault) h = absurd h
chosen_stands q (fit.Has e) (fit.Fails fault) n h = absurd h
chosen_stands q (fit.Has e) fit.Misfit (fit.Has g) h = absurd h
chosen_stands q (fit.Has e) fit.Misfit fit.Misfit h = absurd h
chosen_stands q (fit.Has e) fit.Misfit (fit.Fails fault) h = absurd h
chosen_stands q (fit.Has e) (fit.Has f) (fit.Has g) h = (tt, tt, tt)
chosen_stands q (fit.Has e) (fit.Has f) fit.Misfit h = absurd h
chosen_stands q (fit.Has e) (fit.Has f) (fit.Fails fault) h = absurd h

-- a node fails in the second branch, and none before it
pub second_fails_last : (q : Place) (e m : one.Fit) (fault : Fault) → chosen_fit q (fit_of e) (fit_of m) (fit.Fails fault) ≡ fit.Fails fault
second_fails_last q (at.Has e) (at.Has f) fault = refl
second_fails_last q (at.Has e) at.Misfit fault = refl
second_fails_last q at.Misfit (at.Has f) fault = refl
second_fails_last q at.Misfit at.Misfit fault = refl

branches_stand : (m n : Option Fault) → NoFault (fault_or m n) → NoFault m × NoFault n
branches_stand (Some fault) n h = absurd h
branches_stand None (Some fault) h = absurd h
branches_stand None None h = (tt, tt)

pub chosen_has_none : (v : Inference) (m n : Option Fault) → NoFault (chosen_fault v m n) → InferenceStands v × NoFault m × NoFault n
chosen_has_none (inferred.Fails fault) m n h = absurd h
chosen_has_none (inferred.Least t e) m n h = (let b = branches_stand m n h in (tt, b.0, b.1))

module _ (p : Program) (k : ℕ) (s : Scope) (c : IsScopeOf p k s) (owner : Option ℕ) where
  pub lawful : Lawful (scope_reading p k s)
  lawful = reading_lawful p k (is_plain s.kind)

  ------------------------------------------------------------
  -- A value that is no `if`

  pub plain_ready : (table : Table) (x : Expr) → ValueReady p k s owner table (Plain x) → ExprReady p k s owner table x
  plain_ready table x r = r

  pub fitted_stands : (v : Inference) (t : TypeRef) (u : Fit) → IsFittedIn p k (mode_of (is_plain s.kind)) v t u → FitStands u → InferenceStands v
  fitted_stands (inferred.Least b e) t u f h = tt
  fitted_stands (inferred.Fails fault) t u f h = subst (λ z. FitStands z) (f.2 ∙ failed_fit f.0 fault) h

  -- over types that are given
  pub fitted_plain : (locals : List (scope_reading p k s).Kind) (x : Expr) (v : Inference) (t : TypeRef) (u : Fit) (spot : Spot) → Inferred p k s locals owner x v → IsFittedIn p k (mode_of (is_plain s.kind)) v t u →
      Fitted p k s locals owner spot (Plain x) t u
  fitted_plain locals x (inferred.Least b e) t u spot h f =
      let m = below_in_mode p k s c b t in
      subst (λ z. Fitted p k s locals owner spot (Plain x) t z) (sym f.2)
      (plain_fitted p k s lawful locals owner x spot b t e f.0 h (λ i. m.1 (f.1.0 i), λ i. f.1.1 (m.0 i)))
  fitted_plain locals x (inferred.Fails fault) t u spot h f =
      subst (λ z. Fitted p k s locals owner spot (Plain x) t z) (sym (f.2 ∙ failed_fit f.0 fault)) (plain_failed p k s lawful locals owner x spot t fault h)

  pub plain_fits : (old new : Table) (x : Expr) (v : Inference) (t : TypeRef) (u : Fit) → InfersTo p k s owner old new x v → IsFittedIn p k (mode_of (is_plain s.kind)) v t u → FitsTo p k s owner old new (Plain x) t u
  plain_fits old new x v t u h f = record {
    moves = moves_under p k s old new (expr_vals x) (InferenceStands v) (FitStands u) h.moves (fitted_stands v t u f);
    judged = λ locals a spot i. fitted_plain locals x v t u spot (h.judged locals a) f;
  }

  pub plain_probes : (old new : Table) (x : Expr) (v : Inference) → InfersTo p k s owner old new x v → ProbesTo p k s owner old new (Plain x) (probed_outcome v)
  plain_probes old new x v h = record {
    moves = moves_under p k s old new (expr_vals x) (InferenceStands v) (NoFault (probed_outcome v)) h.moves (probed_stands v);
    judged = λ locals a spot i. plain_probed p k s lawful locals owner x spot v (h.judged locals a);
  }

  ------------------------------------------------------------
  -- An `if`: its condition, and then its branches

  module _ (q : Place) (test : Expr) (first second : Block) where
    pub test_ready : (table : Table) → ValueReady p k s owner table (If q test first second) → ExprReady p k s owner table test
    test_ready table r = (r.0, r.1.0, ready_left p k s table r.0 (expr_vals test) (block_vals first ++ block_vals second) r.2)

    pub first_ready : (old new : Table) (v : Inference) → ValueReady p k s owner old (If q test first second) → InfersTo p k s owner old new test v → BlockReady p k s owner new first
    first_ready old new v r h = (
      r.0,
      r.1.1,
      ready_left p k s new r.0 (block_vals first) (block_vals second) (ready_right p k s old new r.0 (expr_vals test) (block_vals first ++ block_vals second) (InferenceStands v) r.2 h.moves),
    )

    after_first : (old mid new : Table) (v : Inference) (P : Type 0) → ValueReady p k s owner old (If q test first second) → InfersTo p k s owner old mid test v → Moves p k s mid new (block_vals first) P →
        BlockReady p k s owner new second
    after_first old mid new v P r h m = (
      r.0,
      r.1.2,
      ready_right p k s mid new r.0 (block_vals first) (block_vals second) P (ready_right p k s old mid r.0 (expr_vals test) (block_vals first ++ block_vals second) (InferenceStands v) r.2 h.moves) m,
    )

    pub second_ready : (old mid new : Table) (v : Inference) (t : TypeRef) (u : Fit) → ValueReady p k s owner old (If q test first second) → InfersTo p k s owner old mid test v →
        BlockFitsTo p k s owner mid new first t u → BlockReady p k s owner new second
    second_ready old mid new v t u r h g = after_first old mid new v (FitStands u) r h g.moves

    -- .. where no type is expected
    pub second_probe_ready : (old mid new : Table) (v : Inference) (o : Option Fault) → ValueReady p k s owner old (If q test first second) → InfersTo p k s owner old mid test v →
        BlockProbesTo p k s owner mid new first o → BlockReady p k s owner new second
    second_probe_ready old mid new v o r h g = after_first old mid new v (NoFault o) r h g.moves

    -- the `val`s of all three become known
    chosen_moves : (old a b new : Table) (P Q R W : Type 0) → Moves p k s old a (expr_vals test) P → Moves p k s a b (block_vals first) Q → Moves p k s b new (block_vals second) R → (W → P × Q × R) →
        Moves p k s old new (value_vals (If q test first second)) W
    chosen_moves old a b new P Q R W m n o f =
        moves_both p k s old a new (expr_vals test) (block_vals first ++ block_vals second) P W W m
        (moves_both p k s a b new (block_vals first) (block_vals second) Q R W n o (λ z. (f z).1) (λ z. (f z).2)) (λ z. (f z).0) (λ z. z)

    -- a node fails in the condition, or in the first branch
    pub if_fails_at_test : (old new : Table) (t : TypeRef) (fault : Fault) → InfersTo p k s owner old new test (inferred.Fails fault) → FitsTo p k s owner old new (If q test first second) t (fit.Fails fault)
    if_fails_at_test old new t fault h = record {
      moves = moves_first p k s old new (expr_vals test) (block_vals first ++ block_vals second) ⊥ ⊥ h.moves (λ z. z);
      judged = λ locals g spot i. test_fails p k s lawful locals owner q test first second spot t fault (h.judged locals g);
    }

    pub if_probe_fails_at_test : (old new : Table) (fault : Fault) → InfersTo p k s owner old new test (inferred.Fails fault) → ProbesTo p k s owner old new (If q test first second) (Some fault)
    if_probe_fails_at_test old new fault h = record {
      moves = moves_first p k s old new (expr_vals test) (block_vals first ++ block_vals second) ⊥ ⊥ h.moves (λ z. z);
      judged = λ locals g spot i. test_fails p k s lawful locals owner q test first second spot Bool fault (h.judged locals g);
    }

    first_moves : (old a b : Table) (P Q : Type 0) → Moves p k s old a (expr_vals test) P → Moves p k s a b (block_vals first) Q → Moves p k s old b (value_vals (If q test first second)) ⊥
    first_moves old a b P Q m n =
        moves_both p k s old a b (expr_vals test) (block_vals first ++ block_vals second) P ⊥ ⊥ m (moves_first p k s a b (block_vals first) (block_vals second) Q ⊥ n (λ z. z)) (λ z. absurd z) (λ z. z)

    pub if_fails_at_first : (old a b : Table) (t u : TypeRef) (e : List ℕ) (fault : Fault) → InfersTo p k s owner old a test (inferred.Least u e) → BlockFitsTo p k s owner a b first t (fit.Fails fault) →
        FitsTo p k s owner old b (If q test first second) t (fit.Fails fault)
    if_fails_at_first old a b t u e fault h x = record {
      moves = first_moves old a b (Unit {0}) ⊥ h.moves x.moves;
      judged = λ locals g spot i. (
          let at_a = agrees_before p k s (scope_reading p k s) locals a b (block_vals first) ⊥ x.moves g in
          first_fails p k s lawful locals owner q test first second spot t fault (h.judged locals at_a).1 (x.judged locals g spot i)
          );
    }

    pub if_probe_fails_at_first : (old a b : Table) (u : TypeRef) (e : List ℕ) (fault : Fault) → InfersTo p k s owner old a test (inferred.Least u e) → BlockProbesTo p k s owner a b first (Some fault) →
        ProbesTo p k s owner old b (If q test first second) (Some fault)
    if_probe_fails_at_first old a b u e fault h x = record {
      moves = first_moves old a b (Unit {0}) ⊥ h.moves x.moves;
      judged = λ locals g spot i. (
          let at_a = agrees_before p k s (scope_reading p k s) locals a b (block_vals first) ⊥ x.moves g in
          first_fails p k s lawful locals owner q test first second spot Bool fault (h.judged locals at_a).1 (x.judged locals g spot i)
          );
    }

    pub if_fits : (old a b new : Table) (v : Inference) (t : TypeRef) (e m n : Fit) → InfersTo p k s owner old a test v → IsFittedIn p k (mode_of (is_plain s.kind)) v Bool e →
        BlockFitsTo p k s owner a b first t m → BlockFitsTo p k s owner b new second t n → FitsTo p k s owner old new (If q test first second) t (chosen_fit q e m n)
    if_fits old a b new v t e m n h f x z = record {
      moves = chosen_moves old a b new (InferenceStands v) (FitStands m) (FitStands n) (FitStands (chosen_fit q e m n)) h.moves x.moves z.moves
          (λ i. (let all = chosen_stands q e m n i in (fitted_stands v Bool e f all.0, all.1, all.2)));
      judged = λ locals g spot i. (
          let at_b = agrees_before p k s (scope_reading p k s) locals b new (block_vals second) (FitStands n) z.moves g in
          let at_a = agrees_before p k s (scope_reading p k s) locals a b (block_vals first) (FitStands m) x.moves at_b in
          if_fitted p k s lawful locals owner q test first second spot t e m n i (fitted_plain locals test v Bool e nothing (h.judged locals at_a) f) (x.judged locals at_b spot i) (z.judged locals g spot i)
          );
    }

    pub if_probes : (old a b new : Table) (v : Inference) (m n : Option Fault) → InfersTo p k s owner old a test v →
        BlockProbesTo p k s owner a b first m → BlockProbesTo p k s owner b new second n → ProbesTo p k s owner old new (If q test first second) (chosen_fault v m n)
    if_probes old a b new v m n h x z = record {
      moves = chosen_moves old a b new (InferenceStands v) (NoFault m) (NoFault n) (NoFault (chosen_fault v m n)) h.moves x.moves z.moves (chosen_has_none v m n);
      judged = λ locals g spot i. (
          let at_b = agrees_before p k s (scope_reading p k s) locals b new (block_vals second) (NoFault n) z.moves g in
          let at_a = agrees_before p k s (scope_reading p k s) locals a b (block_vals first) (NoFault m) x.moves at_b in
          if_probed p k s lawful locals owner q test first second spot v m n i (h.judged locals at_a) (x.judged locals at_b spot i) (z.judged locals g spot i)
          );
    }
