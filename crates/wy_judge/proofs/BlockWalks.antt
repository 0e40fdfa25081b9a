-- A block judged statement after statement, and then its last value: the start, one more statement, one in which a node fails, the
-- end; and the block at the type that its place expects, and where none is expected.
use Rattle.std.proofs.Common.{◌≡◌, ℕ, ◌+◌, ◌≤◌, List, [], ◌++◌, sym, ◌∙◌, subst, Option, Some, take, drop, length, arith}
use Rattle.std.specs.Prelude.{slice_get}
use Rattle.std.proofs.lemmas.List.{take_all}
use Rattle.wy_text.specs.declared.fault.Fault.{Fault}
use Rattle.wy_effects.specs.EffSet.{union}
use Rattle.wy_text.proofs.Lists.{In-left}
use Rattle.wy_types.specs.declared.types.TypeRef.{TypeRef}
use Rattle.wy_types.specs.declared.code.Stmt as st
use Rattle.wy_types.specs.Code.{Value, Last}
use Rattle.wy_types.specs.Program.{Program, Scope}
use Rattle.wy_types.specs.View.{stmt_block, stmts_block}
use Rattle.wy_types.specs.Vals.{value_vals, block_vals}
use Rattle.wy_rules.specs.Acceptance.{scope_reading}
use Rattle.wy_judge.specs.Fit.{Fit}
use Rattle.wy_judge.specs.Fit as fit
use Rattle.wy_judge.specs.Step as step
use Rattle.wy_judge.specs.Outcomes.{followed_fit}
use Rattle.wy_judge.specs.Judged.{Follows}
use Rattle.wy_judge.specs.Tables.{Table, IsScopeOf, Moves, ValueReady, BlockReady}
use Rattle.wy_judge.specs.Judging.{FitStands, NoFault, stmt_vals, stmts_vals, FitsTo, ProbesTo, BlockFitsTo, BlockProbesTo, StatesTo, StepsTo, Stepping}
use Rattle.wy_judge.proofs.Dropping.{drop_there, drop_past}
use Rattle.wy_judge.proofs.Moving.{agrees_before, moves_none, moves_both}
use Rattle.wy_judge.proofs.PartVals.{stmts_vals_there, stmts_vals_within, stmts_block_vals}
use Rattle.wy_judge.proofs.Putting.{moves_among}
use Rattle.wy_judge.proofs.Stepping.{steps_start, steps_more, steps_fail, steps_fitted, steps_probed}
use Rattle.wy_judge.proofs.ValueParts.{lawful}

pub followed_stands : (e : List ℕ) (u : Fit) → FitStands (followed_fit e u) → FitStands u
followed_stands e (fit.Has f) h = tt
followed_stands e fit.Misfit h = tt
followed_stands e (fit.Fails fault) h = absurd h

module _ (p : Program) (k : ℕ) (s : Scope) (c : IsScopeOf p k s) (owner : Option ℕ) (xs : List st.Stmt) (last : Value) where
  ------------------------------------------------------------
  -- Statements

  pub stepping_start : (table : Table) → BlockReady p k s owner table (stmts_block xs (Last last)) → Stepping p k s owner table table xs last 0 []
  stepping_start table r = record {
    moves = moves_none p k s table (Unit {0}) r.2.range;
    ready = r;
    judged = λ locals a. steps_start p k s (lawful p k s c owner) locals owner xs last;
  }

  -- the statement of a number and the rest are ready
  pub stepping_ready : (old new : Table) (i : ℕ) (e : List ℕ) (x : st.Stmt) → Stepping p k s owner old new xs last i e → slice_get xs i ≡ Some x →
      BlockReady p k s owner new (stmt_block x (stmts_block (drop (i + 1) xs) (Last last)))
  stepping_ready old new i e x l there = subst (λ z. BlockReady p k s owner new (stmts_block z (Last last))) (drop_there xs i x there) l.ready

  pub stepping_more : (old mid new : Table) (i : ℕ) (e f : List ℕ) (x : st.Stmt) → Stepping p k s owner old mid xs last i e → slice_get xs i ≡ Some x → StatesTo p k s owner mid new x (step.Done f) →
      Stepping p k s owner old new xs last (i + 1) (union e f)
  stepping_more old mid new i e f x l there h = record {
    moves = subst (λ z. Moves p k s old new z (Unit {0})) (stmts_vals_there xs i x there)
        (moves_both p k s old mid new (stmts_vals (take i xs)) (stmt_vals x) (Unit {0}) (Unit {0}) (Unit {0}) l.moves h.moves (λ z. z) (λ z. z));
    ready = h.goes_on tt (stmts_block (drop (i + 1) xs) (Last last)) (stepping_ready old mid i e x l there);
    judged = λ locals a.
        steps_more p k s (lawful p k s c owner) locals owner xs last i x e f there (h.judged locals a)
        (l.judged locals (agrees_before p k s (scope_reading p k s) locals mid new (stmt_vals x) (Unit {0}) h.moves a));
  }

  pub stepping_fails : (old mid new : Table) (i : ℕ) (e : List ℕ) (x : st.Stmt) (fault : Fault) → Stepping p k s owner old mid xs last i e → slice_get xs i ≡ Some x → StatesTo p k s owner mid new x (step.Fails fault) →
      StepsTo p k s owner old new xs last (step.Fails fault)
  stepping_fails old mid new i e x fault l there h = record {
    moves = moves_among p k s old new (stmts_vals (take (i + 1) xs)) (stmts_vals xs) ⊥ ⊥
        (subst (λ z. Moves p k s old new z ⊥) (stmts_vals_there xs i x there)
        (moves_both p k s old mid new (stmts_vals (take i xs)) (stmt_vals x) (Unit {0}) ⊥ ⊥ l.moves h.moves (λ z. tt) (λ z. z)))
        (λ j among. stmts_vals_within xs (i + 1) j among) (λ z. z);
    ready = tt;
    judged = λ locals a.
        steps_fail p k s (lawful p k s c owner) locals owner xs last i x e fault there (h.judged locals a)
        (l.judged locals (agrees_before p k s (scope_reading p k s) locals mid new (stmt_vals x) ⊥ h.moves a));
  }

  pub stepping_end : (old new : Table) (i : ℕ) (e : List ℕ) → length xs ≤ i → Stepping p k s owner old new xs last i e → StepsTo p k s owner old new xs last (step.Done e)
  stepping_end old new i e short l = record {
    moves = subst (λ z. Moves p k s old new (stmts_vals z) (Unit {0})) (take_all i xs short) l.moves;
    ready = subst (λ z. BlockReady p k s owner new (stmts_block z (Last last))) (drop_past xs i short) l.ready;
    judged = λ locals a.
        subst (λ z. Follows p k s locals owner (stmts_block z (Last last)) (stmts_block xs (Last last)) e) (drop_past xs i short ∙ sym (drop_past xs (length xs) (omega arith))) (l.judged locals a);
  }

  ------------------------------------------------------------
  -- The whole block

  pub last_ready : (old new : Table) (e : List ℕ) → StepsTo p k s owner old new xs last (step.Done e) → ValueReady p k s owner new last
  last_ready old new e h = h.ready

  done_moves : (old mid new : Table) (P R : Type 0) → Moves p k s old mid (stmts_vals xs) (Unit {0}) → Moves p k s mid new (value_vals last) P → (R → P) → Moves p k s old new (block_vals (stmts_block xs (Last last))) R
  done_moves old mid new P R m n f =
      subst (λ z. Moves p k s old new z R) (stmts_block_vals xs (Last last)) (moves_both p k s old mid new (stmts_vals xs) (value_vals last) (Unit {0}) P R m n (λ z. tt) f)

  failed_moves : (old new : Table) → Moves p k s old new (stmts_vals xs) ⊥ → Moves p k s old new (block_vals (stmts_block xs (Last last))) ⊥
  failed_moves old new m =
      subst (λ z. Moves p k s old new z ⊥) (stmts_block_vals xs (Last last))
      (moves_among p k s old new (stmts_vals xs) (stmts_vals xs ++ value_vals last) ⊥ ⊥ m (λ j among. In-left j (stmts_vals xs) (value_vals last) among) (λ z. z))

  pub block_fits : (old mid new : Table) (e : List ℕ) (t : TypeRef) (u : Fit) → StepsTo p k s owner old mid xs last (step.Done e) → FitsTo p k s owner mid new last t u →
      BlockFitsTo p k s owner old new (stmts_block xs (Last last)) t (followed_fit e u)
  block_fits old mid new e t u h g = record {
    moves = done_moves old mid new (FitStands u) (FitStands (followed_fit e u)) h.moves g.moves (followed_stands e u);
    judged = λ locals a spot i.
        steps_fitted p k s (lawful p k s c owner) locals owner xs last (length xs) e spot t u (omega arith)
        (h.judged locals (agrees_before p k s (scope_reading p k s) locals mid new (value_vals last) (FitStands u) g.moves a)) (g.judged locals a spot i);
  }

  pub block_fails : (old new : Table) (t : TypeRef) (fault : Fault) → StepsTo p k s owner old new xs last (step.Fails fault) → BlockFitsTo p k s owner old new (stmts_block xs (Last last)) t (fit.Fails fault)
  block_fails old new t fault h = record {
    moves = failed_moves old new h.moves;
    judged = λ locals a spot i. h.judged locals a spot;
  }

  -- .. where no type is expected
  pub block_probes : (old mid new : Table) (e : List ℕ) (o : Option Fault) → StepsTo p k s owner old mid xs last (step.Done e) → ProbesTo p k s owner mid new last o → BlockProbesTo p k s owner old new (stmts_block xs (Last last)) o
  block_probes old mid new e o h g = record {
    moves = done_moves old mid new (NoFault o) (NoFault o) h.moves g.moves (λ z. z);
    judged = λ locals a spot i.
        steps_probed p k s (lawful p k s c owner) locals owner xs last (length xs) e spot o (omega arith)
        (h.judged locals (agrees_before p k s (scope_reading p k s) locals mid new (value_vals last) (NoFault o) g.moves a)) (g.judged locals a spot i);
  }

  pub block_probe_fails : (old new : Table) (fault : Fault) → StepsTo p k s owner old new xs last (step.Fails fault) → BlockProbesTo p k s owner old new (stmts_block xs (Last last)) (Some fault)
  block_probe_fails old new fault h = record {
    moves = failed_moves old new h.moves;
    judged = λ locals a spot i. h.judged locals a spot;
  }
