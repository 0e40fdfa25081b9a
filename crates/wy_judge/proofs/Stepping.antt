-- A block's statements, as the code judges them one after the other: the effect of those before a number is carried on.
use Rattle.std.proofs.Common.{◌≡◌, ℕ, ◌+◌, ◌≤◌, List, [], sym, subst, Option, Some, drop, length}
use Rattle.std.specs.Prelude.{slice_get}
use Rattle.wy_text.specs.declared.fault.Fault.{Fault}
use Rattle.wy_effects.specs.EffSet.{union}
use Rattle.wy_types.specs.declared.types.TypeRef.{TypeRef}
use Rattle.wy_types.specs.declared.code.Stmt.{Stmt}
use Rattle.wy_types.specs.Code.{Value, Block, Last}
use Rattle.wy_types.specs.Program.{Program, Scope}
use Rattle.wy_types.specs.View.{stmt_block, stmts_block}
use Rattle.wy_rules.specs.Acceptance.{scope_reading}
use Rattle.wy_rules.specs.Nodes.{Spot, block_nodes}
use Rattle.wy_rules.specs.Failing.{FirstFailing}
use Rattle.wy_rules.proofs.Forms.{Lawful}
use Rattle.wy_judge.specs.Fit.{Fit}
use Rattle.wy_judge.specs.Fit as fit
use Rattle.wy_judge.specs.Outcomes.{followed_fit}
use Rattle.wy_judge.specs.Judged.{Fitted, BlockFitted, Probed, BlockProbed, Follows, Stated, Steps}
use Rattle.wy_judge.proofs.Blocks.{last_fitted, last_probed}
use Rattle.wy_judge.proofs.Dropping.{drop_there, drop_past}
use Rattle.wy_judge.proofs.Unions.{union_grouped}

module _ (p : Program) (k : ℕ) (s : Scope) (w : Lawful (scope_reading p k s)) (locals : List (scope_reading p k s).Kind) (owner : Option ℕ) where
  same_block : (b : Block) (spot : Spot) (t : TypeRef) (u : Fit) → BlockFitted p k s locals owner spot b t u → BlockFitted p k s locals owner spot b t (followed_fit [] u)
  same_block b spot t (fit.Has f) h = h
  same_block b spot t fit.Misfit h = h
  same_block b spot t (fit.Fails fault) h = h

  -- two parts, one before the other
  both_follow : (a b : List ℕ) (block : Block) (spot : Spot) (t : TypeRef) (u : Fit) → BlockFitted p k s locals owner spot block t (followed_fit a (followed_fit b u)) → BlockFitted p k s locals owner spot block t (followed_fit (union a b) u)
  both_follow a b block spot t (fit.Has f) h = subst (λ v. BlockFitted p k s locals owner spot block t (fit.Has v)) (union_grouped a b f) h
  both_follow a b block spot t fit.Misfit h = h
  both_follow a b block spot t (fit.Fails fault) h = h

  pub follow : (rest middle whole : Block) (a b : List ℕ) → Follows p k s locals owner middle whole a → Follows p k s locals owner rest middle b → Follows p k s locals owner rest whole (union a b)
  follow rest middle whole a b f g = record {
    fits = λ spot t u h. both_follow a b whole spot t u (f.fits spot t (followed_fit b u) (g.fits spot t u h));
    probes = λ spot o h. f.probes spot o (g.probes spot o h);
  }

  module _ (statements : List Stmt) (last : Value) where
    pub steps_start : Steps p k s locals owner statements last 0 []
    steps_start = record { fits = λ spot t u h. same_block (stmts_block statements (Last last)) spot t u h; probes = λ spot o h. h }

    pub steps_more : (i : ℕ) (x : Stmt) (e f : List ℕ) → slice_get statements i ≡ Some x → Stated p k s locals owner (stmt_block x) (fit.Has f) → Steps p k s locals owner statements last i e → Steps p k s locals owner statements last (i + 1) (union e f)
    steps_more i x e f there h c =
        let rest = stmts_block (drop (i + 1) statements) (Last last) in
        follow rest (stmts_block (drop i statements) (Last last)) (stmts_block statements (Last last)) e f c
        (subst (λ z. Follows p k s locals owner rest (stmts_block z (Last last)) f) (sym (drop_there statements i x there)) (h rest))

    -- a statement that fails: so does the block, wherever it stands
    pub steps_fail : (i : ℕ) (x : Stmt) (e : List ℕ) (fault : Fault) → slice_get statements i ≡ Some x → Stated p k s locals owner (stmt_block x) (fit.Fails fault) → Steps p k s locals owner statements last i e →
        (spot : Spot) → FirstFailing p k s locals (block_nodes s owner spot (stmts_block statements (Last last))) fault
    steps_fail i x e fault there h c spot =
        c.probes spot (Some fault)
        (subst (λ z. BlockProbed p k s locals owner spot (stmts_block z (Last last)) (Some fault)) (sym (drop_there statements i x there)) (h (stmts_block (drop (i + 1) statements) (Last last)) spot))

    -- no statement is left
    pub steps_end : (i : ℕ) (e : List ℕ) → length statements ≤ i → Steps p k s locals owner statements last i e → Follows p k s locals owner (Last last) (stmts_block statements (Last last)) e
    steps_end i e short c = subst (λ z. Follows p k s locals owner (stmts_block z (Last last)) (stmts_block statements (Last last)) e) (drop_past statements i short) c

    pub steps_fitted : (i : ℕ) (e : List ℕ) (spot : Spot) (t : TypeRef) (u : Fit) → length statements ≤ i → Steps p k s locals owner statements last i e → Fitted p k s locals owner spot last t u →
        BlockFitted p k s locals owner spot (stmts_block statements (Last last)) t (followed_fit e u)
    steps_fitted i e spot t u short c h = (steps_end i e short c).fits spot t u (last_fitted p k s w locals owner spot last t u h)

    pub steps_probed : (i : ℕ) (e : List ℕ) (spot : Spot) (o : Option Fault) → length statements ≤ i → Steps p k s locals owner statements last i e → Probed p k s locals owner spot last o →
        BlockProbed p k s locals owner spot (stmts_block statements (Last last)) o
    steps_probed i e spot o short c h = (steps_end i e short c).probes spot o (last_probed p k s w locals owner spot last o h)
