-- A body from what its block comes to at the result's type, and the start of a scope; bodies one after the other.
use Rattle.std.proofs.Common.{◌≡◌, ℕ, ◌+◌, ◌≤◌, List, [], ◌∷◌, ◌++◌, map, inl, inr, refl, sym, subst, Option, Some, None, drop, length}
use Rattle.std.specs.Prelude.{slice_get}
use Rattle.wy_text.specs.declared.fault.Place.{Place}
use Rattle.wy_text.specs.declared.fault.Fault.{Fault}
use Rattle.wy_text.specs.declared.fault.RuleName.TheVariants.{TBody}
use Rattle.wy_types.specs.declared.types.TypeRef.{TypeRef}
use Rattle.wy_types.specs.declared.types.TypeRef.TheVariants.{Unit as Nothing}
use Rattle.wy_types.specs.declared.resolved.Body as b
use Rattle.wy_types.specs.Code.{Values, Block}
use Rattle.wy_types.specs.Program.{Program, Scope, Body, Init, Run, body_of}
use Rattle.wy_rules.specs.Typing.{field_types, AllHaveAt}
use Rattle.wy_rules.specs.Acceptance.{scope_reading}
use Rattle.wy_rules.specs.Nodes.{nothing, written, body, init, Node, node, written_spots, values_nodes, block_nodes, start_nodes, body_nodes, bodies_nodes}
use Rattle.wy_rules.proofs.Forms.{Lawful}
use Rattle.wy_judge.specs.Fit.{Fit}
use Rattle.wy_judge.specs.Fit as fit
use Rattle.wy_judge.specs.Fits.{Fits}
use Rattle.wy_judge.specs.Fits as fits
use Rattle.wy_judge.specs.Outcomes.{fault_at, lacking, fault_or, body_fault, init_fault}
use Rattle.wy_judge.specs.Judged.{BlockFitted, AllFitted, NodesJudged, FitLacks, FitsLack, BodiesPassed}
use Rattle.wy_judge.proofs.Dropping.{drop_there, drop_past}
use Rattle.wy_judge.proofs.Several.{first_have}
use Rattle.wy_judge.proofs.Lists.{pass_both, fail_left, fail_right, pass_last, fail_last}

module _ (p : Program) (k : ℕ) (s : Scope) (locals : List (scope_reading p k s).Kind) where
  -- some nodes, and others after them
  pub both_judged : (ns ms : List Node) (o q : Option Fault) → NodesJudged p k s locals ns o → NodesJudged p k s locals ms q → NodesJudged p k s locals (ns ++ ms) (fault_or o q)
  both_judged ns ms (Some fault) q h g = fail_left p k s locals ns ms fault h
  both_judged ns ms None (Some fault) h g = fail_right p k s locals ns ms fault h g
  both_judged ns ms None None h g = pass_both p k s locals ns ms h g

module _ (p : Program) (k : ℕ) (s : Scope) (w : Lawful (scope_reading p k s)) (locals : List (scope_reading p k s).Kind) where
  ------------------------------------------------------------
  -- A block at a type, with a declared effect

  module _ (owner : Option ℕ) (place : Place) (x : Block) (t : TypeRef) (declared : List ℕ) where
    pub whole_judged : (u : Fit) (lack : Option ℕ) → BlockFitted p k s locals owner (written t) x t u → FitLacks p k s u declared lack →
        NodesJudged p k s locals (block_nodes s owner (written t) x ++ node place TBody owner nothing (body x t declared) ∷ []) (body_fault place s.atoms lack u)
    whole_judged (fit.Has f) None h l =
        pass_last p k s locals (block_nodes s owner (written t) x) (node place TBody owner nothing (body x t declared)) h.1
        (record { expected = None; spot = refl; stands = (f, h.0.has, l); settles = tt })
    whole_judged (fit.Has f) (Some a) h l =
        fail_last p k s locals (block_nodes s owner (written t) x) (node place TBody owner nothing (body x t declared)) (lacking place TBody (slice_get s.atoms a)) h.1
        (record {
          expected = None;
          atom = Some a;
          spot = refl;
          stands_not = λ g. l.0 (w.onward f g.0 ((scope_reading p k s).effect declared) (h.0.least g.0 g.1) g.2);
          premise = inr (f, a, h.0, l.1, refl, refl);
          place = refl;
          rule = refl;
          lacks = refl;
        })
    whole_judged fit.Misfit lack h l =
        fail_last p k s locals (block_nodes s owner (written t) x) (node place TBody owner nothing (body x t declared)) (fault_at place TBody 1) h.1
        (record {
          expected = None;
          atom = None;
          spot = refl;
          stands_not = λ g. h.0 (record { effect = g.0; has = g.1 });
          premise = inl (inl (h.0, refl), refl);
          place = refl;
          rule = refl;
          lacks = refl;
        })
    whole_judged (fit.Fails fault) lack h l = fail_left p k s locals (block_nodes s owner (written t) x) (node place TBody owner nothing (body x t declared) ∷ []) fault h

  pub body_judged : (x : Body) (u : Fit) (lack : Option ℕ) → BlockFitted p k s locals (Some x.owner) (written x.signature.result) x.block x.signature.result u → FitLacks p k s u x.signature.effect lack →
      NodesJudged p k s locals (body_nodes s x) (body_fault x.place s.atoms lack u)
  body_judged x u lack h l = whole_judged (Some x.owner) x.place x.block x.signature.result x.signature.effect u lack h l

  ------------------------------------------------------------
  -- The start: the program's block, or the initialisers of a module's fields

  pub run_judged : (x : Block) (u : Fit) (lack : Option ℕ) → BlockFitted p k s locals None (written Nothing) x Nothing u → FitLacks p k s u s.start_effect lack →
      NodesJudged p k s locals (start_nodes s (Run x)) (body_fault s.start_place s.atoms lack u)
  run_judged x u lack h l = whole_judged None s.start_place x Nothing s.start_effect u lack h l

  pub init_judged : (xs : Values) (u : Fits) (lack : Option ℕ) → AllFitted p k s locals None (written_spots (field_types s 0)) xs (field_types s 0) u → FitsLack p k s u s.start_effect lack →
      NodesJudged p k s locals (start_nodes s (Init xs)) (init_fault s.start_place s.atoms lack u)
  init_judged xs (fits.Have f) None h l =
      pass_last p k s locals (values_nodes s None (written_spots (field_types s 0)) xs) (node s.start_place TBody None nothing (init xs s.start_effect)) h.1
      (record { expected = None; spot = refl; stands = (f, h.0.have, l); settles = tt })
  init_judged xs (fits.Have f) (Some a) h l =
      fail_last p k s locals (values_nodes s None (written_spots (field_types s 0)) xs) (node s.start_place TBody None nothing (init xs s.start_effect)) (lacking s.start_place TBody (slice_get s.atoms a)) h.1
      (record {
        expected = None;
        atom = Some a;
        spot = refl;
        stands_not = λ g. l.0 (w.onward f g.0 ((scope_reading p k s).effect s.start_effect) (h.0.least g.0 g.1) g.2);
        premise = inr (f, a, h.0, l.1, refl, refl);
        place = refl;
        rule = refl;
        lacks = refl;
      })
  init_judged xs (fits.Misfit n) lack h l =
      let refuted = λ (g : AllHaveAt (scope_reading p k s) s locals None xs (map (scope_reading p k s).read (field_types s 0))). h.1 (first_have (scope_reading p k s) w s locals None (n + 1) xs (field_types s 0) g) in
      fail_last p k s locals (values_nodes s None (written_spots (field_types s 0)) xs) (node s.start_place TBody None nothing (init xs s.start_effect)) (fault_at s.start_place TBody 1) h.2
      (record {
        expected = None;
        atom = None;
        spot = refl;
        stands_not = λ g. refuted (record { effect = g.0; have = g.1 });
        premise = inl (inl (refuted, refl), refl);
        place = refl;
        rule = refl;
        lacks = refl;
      })
  init_judged xs (fits.Fails fault) lack h l = fail_left p k s locals (values_nodes s None (written_spots (field_types s 0)) xs) (node s.start_place TBody None nothing (init xs s.start_effect) ∷ []) fault h

  ------------------------------------------------------------
  -- Bodies one after the other

  module _ (bodies : List b.Body) where
    pub bodies_start : BodiesPassed p k s locals bodies 0
    bodies_start = record { carries = λ rest h. h }

    from_here : (i : ℕ) (x : b.Body) (o : Option Fault) → slice_get bodies i ≡ Some x → NodesJudged p k s locals (body_nodes s (body_of x) ++ bodies_nodes s (map body_of (drop (i + 1) bodies))) o →
        NodesJudged p k s locals (bodies_nodes s (map body_of (drop i bodies))) o
    from_here i x o e h = subst (λ z. NodesJudged p k s locals (bodies_nodes s (map body_of z)) o) (sym (drop_there bodies i x e)) h

    pub bodies_more : (i : ℕ) (x : b.Body) → slice_get bodies i ≡ Some x → NodesJudged p k s locals (body_nodes s (body_of x)) None → BodiesPassed p k s locals bodies i → BodiesPassed p k s locals bodies (i + 1)
    bodies_more i x e h c = record {
      carries = λ rest r. c.carries rest (from_here i x rest e (both_judged p k s locals (body_nodes s (body_of x)) (bodies_nodes s (map body_of (drop (i + 1) bodies))) None rest h r));
    }

    pub bodies_fail : (i : ℕ) (x : b.Body) (fault : Fault) → slice_get bodies i ≡ Some x → NodesJudged p k s locals (body_nodes s (body_of x)) (Some fault) → BodiesPassed p k s locals bodies i →
        NodesJudged p k s locals (bodies_nodes s (map body_of bodies)) (Some fault)
    bodies_fail i x fault e h c = c.carries (Some fault) (from_here i x (Some fault) e (fail_left p k s locals (body_nodes s (body_of x)) (bodies_nodes s (map body_of (drop (i + 1) bodies))) fault h))

    pub bodies_end : (i : ℕ) → length bodies ≤ i → BodiesPassed p k s locals bodies i → NodesJudged p k s locals (bodies_nodes s (map body_of bodies)) None
    bodies_end i short c = c.carries None (subst (λ z. NodesJudged p k s locals (bodies_nodes s (map body_of z)) None) (sym (drop_past bodies i short)) tt)
