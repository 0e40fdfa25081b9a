-- A block as plain data, from its last value, or from its first statement and the rest; and a statement from what its value comes to.
use Rattle.std.proofs.Common.{◌≡◌, ℕ, List, ◌∷◌, ◌++◌, inr, refl, sym, subst, Option, Some}
use Rattle.std.specs.Prelude.{slice_get}
use Rattle.wy_text.specs.declared.fault.Place.{Place}
use Rattle.wy_text.specs.declared.fault.Fault.{Fault}
use Rattle.wy_text.specs.declared.fault.RuleName.TheVariants.{TSeq}
use Rattle.wy_types.specs.declared.types.TypeRef.{TypeRef}
use Rattle.wy_types.specs.declared.types.TypeRef.TheVariants.{Unit as Nothing}
use Rattle.wy_types.specs.Code.{Value, Block, Last, Then, Val}
use Rattle.wy_types.specs.Vals.{value_vals, block_vals}
use Rattle.wy_types.specs.Program.{Program, Scope}
use Rattle.wy_types.specs.Fitting.{IsTypeOf}
use Rattle.wy_rules.specs.Derivations.{mark}
use Rattle.wy_rules.specs.Acceptance.{scope_reading}
use Rattle.wy_rules.specs.Nodes.{written}
use Rattle.wy_judge.specs.Fit.{Fit}
use Rattle.wy_judge.specs.Fit as fit
use Rattle.wy_judge.specs.Step.{Step}
use Rattle.wy_judge.specs.Step as step
use Rattle.wy_judge.specs.Outcomes.{followed_fit, stated_step}
use Rattle.wy_judge.specs.Judged.{Stated}
use Rattle.wy_judge.specs.Tables.{Table, IsKnown, Agrees, IsPut, Moves}
use Rattle.wy_judge.specs.Judging.{FitStands, NoFault, StepStands, step_fit, FitsTo, ProbesTo, BlockFitsTo, BlockProbesTo}
use Rattle.wy_judge.proofs.Blocks.{last_fitted, last_probed, then_stated}
use Rattle.wy_judge.proofs.BlockWalks.{followed_stands}
use Rattle.wy_judge.proofs.Contexts.{lawful}
use Rattle.wy_judge.proofs.Moving.{agrees_before, moves_under, moves_both, moves_first}
use Rattle.wy_judge.proofs.Putting.{put_keeps, put_agrees, put_moves, moves_among}
use Rattle.wy_judge.proofs.Statements.{stated_step_fit, stated_stands}

module _ (p : Program) (k : ℕ) (s : Scope) (owner : Option ℕ) where
  module _ (old new : Table) where
    -- a statement before the rest of a block, with its `val`s
    pub record StatementTo (before : Block → Block) (vals : List ℕ) (u : Step) : Type 0 where
      pub moves : Moves p k s old new vals (StepStands u)
      pub judged : (locals : List (scope_reading p k s).Kind) → Agrees (scope_reading p k s) locals new → Stated p k s locals owner before (step_fit u)

module _ (p : Program) (k : ℕ) (s : Scope) (owner : Option ℕ) where
  ------------------------------------------------------------
  -- Blocks

  pub last_fits : (old new : Table) (x : Value) (t : TypeRef) (u : Fit) → FitsTo p k s owner old new x t u → BlockFitsTo p k s owner old new (Last x) t u
  last_fits old new x t u h = record { moves = h.moves; judged = λ locals a spot i. last_fitted p k s (lawful p k s) locals owner spot x t u (h.judged locals a spot i) }

  pub last_probes : (old new : Table) (x : Value) (o : Option Fault) → ProbesTo p k s owner old new x o → BlockProbesTo p k s owner old new (Last x) o
  last_probes old new x o h = record { moves = h.moves; judged = λ locals a spot i. last_probed p k s (lawful p k s) locals owner spot x o (h.judged locals a spot i) }

  module _ (before : Block → Block) (vals : List ℕ) (rest : Block) (same : block_vals (before rest) ≡ vals ++ block_vals rest) where
    pub goes_on_fits : (old mid new : Table) (e : List ℕ) (t : TypeRef) (u : Fit) → StatementTo p k s owner old mid before vals (step.Done e) → BlockFitsTo p k s owner mid new rest t u →
        BlockFitsTo p k s owner old new (before rest) t (followed_fit e u)
    goes_on_fits old mid new e t u h g = record {
      moves = subst (λ z. Moves p k s old new z (FitStands (followed_fit e u))) (sym same)
          (moves_both p k s old mid new vals (block_vals rest) (Unit {0}) (FitStands u) (FitStands (followed_fit e u)) h.moves g.moves (λ z. tt) (followed_stands e u));
      judged = λ locals a spot i.
          let follows = h.judged locals (agrees_before p k s (scope_reading p k s) locals mid new (block_vals rest) (FitStands u) g.moves a) rest in
          follows.fits spot t u (g.judged locals a spot i);
    }

    pub goes_on_probes : (old mid new : Table) (e : List ℕ) (o : Option Fault) → StatementTo p k s owner old mid before vals (step.Done e) → BlockProbesTo p k s owner mid new rest o →
        BlockProbesTo p k s owner old new (before rest) o
    goes_on_probes old mid new e o h g = record {
      moves = subst (λ z. Moves p k s old new z (NoFault o)) (sym same) (moves_both p k s old mid new vals (block_vals rest) (Unit {0}) (NoFault o) (NoFault o) h.moves g.moves (λ z. tt) (λ z. z));
      judged = λ locals a spot i.
          let follows = h.judged locals (agrees_before p k s (scope_reading p k s) locals mid new (block_vals rest) (NoFault o) g.moves a) rest in
          follows.probes spot o (g.judged locals a spot i);
    }

    stopped : (old new : Table) → Moves p k s old new vals ⊥ → Moves p k s old new (block_vals (before rest)) ⊥
    stopped old new m = subst (λ z. Moves p k s old new z ⊥) (sym same) (moves_first p k s old new vals (block_vals rest) ⊥ ⊥ m (λ z. z))

    pub stops_fits : (old new : Table) (fault : Fault) (t : TypeRef) → StatementTo p k s owner old new before vals (step.Fails fault) → BlockFitsTo p k s owner old new (before rest) t (fit.Fails fault)
    stops_fits old new fault t h = record { moves = stopped old new h.moves; judged = λ locals a spot i. h.judged locals a rest spot }

    pub stops_probes : (old new : Table) (fault : Fault) → StatementTo p k s owner old new before vals (step.Fails fault) → BlockProbesTo p k s owner old new (before rest) (Some fault)
    stops_probes old new fault h = record { moves = stopped old new h.moves; judged = λ locals a spot i. h.judged locals a rest spot }

  ------------------------------------------------------------
  -- Statements

  pub do_at : (old new : Table) (x : Value) (u : Fit) → FitsTo p k s owner old new x Nothing u → StatementTo p k s owner old new (Then x) (value_vals x) (stated_step (mark x) TSeq u)
  do_at old new x u h = record {
    moves = moves_under p k s old new (value_vals x) (FitStands u) (StepStands (stated_step (mark x) TSeq u)) h.moves (stated_stands (mark x) TSeq u);
    judged = λ locals a.
        subst (λ z. Stated p k s locals owner (Then x) z) (stated_step_fit (mark x) TSeq u)
        (then_stated p k s (lawful p k s) locals owner x u (h.judged locals a (written Nothing) refl));
  }

  module _ (q : Place) (n : ℕ) (typ : Option TypeRef) (x : Value) where
    -- it stands, and its type is put in
    pub val_at : (old mid new : Table) (t : TypeRef) (e : List ℕ) → (IsKnown mid n → ⊥) → IsTypeOf p k t → Moves p k s old mid (value_vals x) (Unit {0}) → IsPut mid new n t →
        ((locals : List (scope_reading p k s).Kind) → Agrees (scope_reading p k s) locals mid → slice_get locals n ≡ Some ((scope_reading p k s).read t) → Stated p k s locals owner (Val q n typ x) (fit.Has e)) →
        StatementTo p k s owner old new (Val q n typ x) (n ∷ value_vals x) (step.Done e)
    val_at old mid new t e fresh fits m put states = record {
      moves = put_moves p k s old mid new n t (value_vals x) (Unit {0}) (Unit {0}) (λ z. z) fits fresh put m;
      judged = λ locals a. states locals (λ i u known. a i u (put_keeps mid new n t put fresh i u known)) (put_agrees mid new n t put (scope_reading p k s) locals a);
    }

    -- a node fails in it
    pub val_fails_at : (old new : Table) (fault : Fault) (P : Type 0) → Moves p k s old new (value_vals x) P →
        ((locals : List (scope_reading p k s).Kind) → Agrees (scope_reading p k s) locals new → Stated p k s locals owner (Val q n typ x) (fit.Fails fault)) →
        StatementTo p k s owner old new (Val q n typ x) (n ∷ value_vals x) (step.Fails fault)
    val_fails_at old new fault P m states = record {
      moves = moves_among p k s old new (value_vals x) (n ∷ value_vals x) P ⊥ m (λ i among. inr among) (λ z. z);
      judged = states;
    }
