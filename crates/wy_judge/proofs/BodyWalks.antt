-- The bodies of a scope one after the other, as the code has them.
use Rattle.std.proofs.Common.{◌≡◌, ℕ, ◌+◌, ◌≤◌, List, ◌++◌, sym, ap, ◌∙◌, subst, arith, Some, None, map, take, length}
use Rattle.std.specs.Prelude.{slice_get}
use Rattle.std.specs.Option.{option_map}
use Rattle.std.proofs.lemmas.List.{length-map, take_all}
use Rattle.std.proofs.lemmas.Option.{slice_get-map}
use Rattle.wy_text.specs.declared.fault.Fault.{Fault}
use Rattle.wy_text.specs.Members.{In}
use Rattle.wy_types.specs.declared.resolved.Body as b
use Rattle.wy_types.specs.Program.{Program, Scope, Body, body_of}
use Rattle.wy_types.specs.Vals.{start_vals, bodies_vals, block_vals}
use Rattle.wy_rules.specs.Acceptance.{scope_reading}
use Rattle.wy_rules.specs.Nodes.{bodies_nodes}
use Rattle.wy_judge.specs.Judged.{NodesJudged}
use Rattle.wy_judge.specs.Judging.{NoFault}
use Rattle.wy_judge.specs.Tables.{Table, IsScopeOf, BlockReady}
use Rattle.wy_judge.specs.Walking.{Walked, BodyTo, BodiesTo, BodiesWalked}
use Rattle.wy_judge.proofs.Bodies.{bodies_start, bodies_more, bodies_fail, bodies_end}
use Rattle.wy_judge.proofs.Contexts.{lawful}
use Rattle.wy_judge.proofs.Moving.{agrees_before}
use Rattle.wy_judge.proofs.Walks.{body_ready, walked_more}

module _ (p : Program) (k : ℕ) (s : Scope) (c : IsScopeOf p k s) (bodies : List b.Body) (same : s.bodies ≡ map body_of bodies) where
  -- a body of the scope
  pub body_there : (i : ℕ) (x : b.Body) → slice_get bodies i ≡ Some x → slice_get s.bodies i ≡ Some (body_of x)
  body_there i x e = ap (λ l. slice_get l i) same ∙ slice_get-map body_of bodies i ∙ ap (option_map body_of) e

  -- no body yet
  pub bodies_walked_start : (table : Table) → Walked p k s table 0 → BodiesWalked p k s bodies table table 0
  bodies_walked_start table w = record {
    keeps = λ n t e. e;
    walked = w;
    judged = λ locals agrees. bodies_start p k s (lawful p k s) locals bodies;
  }

  module _ (old table : Table) (i : ℕ) (x : b.Body) (e : slice_get bodies i ≡ Some x) (w : BodiesWalked p k s bodies old table i) where
    -- the next one can be judged
    pub next_ready : BlockReady p k s (Some x.owner) table (body_of x).block
    next_ready = body_ready p k s c table i (body_of x) w.walked (body_there i x e)

    -- no node of it fails
    pub bodies_walked_more : (new : Table) → BodyTo p k s table new (body_of x) None → BodiesWalked p k s bodies old new (i + 1)
    bodies_walked_more new h = record {
      keeps = λ n t known. h.moves.keeps n t (w.keeps n t known);
      walked = walked_more p k s c table i (body_of x) w.walked (body_there i x e) new h;
      judged = λ locals agrees.
          bodies_more p k s (lawful p k s) locals bodies i x e (h.judged locals agrees)
          (w.judged locals (agrees_before p k s (scope_reading p k s) locals table new (block_vals (body_of x).block) (NoFault None) h.moves agrees));
    }

    -- a node of it fails
    pub bodies_walked_fail : (new : Table) (fault : Fault) → BodyTo p k s table new (body_of x) (Some fault) → BodiesTo p k s old new (Some fault)
    bodies_walked_fail new fault h = record {
      keeps = λ n t known. h.moves.keeps n t (w.keeps n t known);
      walked = tt;
      judged = λ locals agrees.
          subst (λ l. NodesJudged p k s locals (bodies_nodes s l) (Some fault)) (sym same)
          (bodies_fail p k s (lawful p k s) locals bodies i x fault e (h.judged locals agrees)
          (w.judged locals (agrees_before p k s (scope_reading p k s) locals table new (block_vals (body_of x).block) (NoFault (Some fault)) h.moves agrees)));
    }

  -- past the last body
  walked_all : (table : Table) (i : ℕ) → length s.bodies ≤ i → Walked p k s table i → Walked p k s table (length s.bodies)
  walked_all table i short w =
      let all : take i s.bodies ≡ take (length s.bodies) s.bodies = take_all i s.bodies short ∙ sym (take_all (length s.bodies) s.bodies (omega arith)) in
      record {
        range = w.range;
        known = λ n h. w.known n (subst (λ (l : List Body). In n (start_vals s.start ++ bodies_vals l)) (sym all) h);
        only = λ n h. subst (λ (l : List Body). In n (start_vals s.start ++ bodies_vals l)) all (w.only n h);
        ends = w.ends;
      }

  pub bodies_walked_end : (old table : Table) (i : ℕ) → length bodies ≤ i → BodiesWalked p k s bodies old table i → BodiesTo p k s old table None
  bodies_walked_end old table i short w = record {
    keeps = w.keeps;
    walked = walked_all table i (let many : length s.bodies ≡ length bodies = ap (λ (l : List Body). length l) same ∙ length-map bodies body_of in omega (arith, short, many)) w.walked;
    judged = λ locals agrees.
        subst (λ l. NodesJudged p k s locals (bodies_nodes s l) None) (sym same)
        (bodies_end p k s (lawful p k s) locals bodies i short (w.judged locals agrees));
  }
