-- An `if` from its condition and its branches: at the type that its place expects, and where none is expected.
use Rattle.std.proofs.Common.{ℕ, List, [], ◌∷◌, ◌++◌, inl, inr, refl, Option, Some, None}
use Rattle.wy_text.specs.declared.fault.Place.{Place}
use Rattle.wy_text.specs.declared.fault.Fault.{Fault}
use Rattle.wy_text.specs.declared.fault.RuleName.TheVariants.{TIf}
use Rattle.wy_effects.specs.EffSet.{union}
use Rattle.wy_types.specs.declared.types.TypeRef.{TypeRef}
use Rattle.wy_types.specs.declared.types.TypeRef.TheVariants.{Bool}
use Rattle.wy_types.specs.Code.{Expr, Plain, If, Block}
use Rattle.wy_types.specs.Program.{Program, Scope}
use Rattle.wy_rules.specs.Typing.{HasAt}
use Rattle.wy_rules.specs.Acceptance.{scope_reading}
use Rattle.wy_rules.specs.Nodes.{Spot, nothing, part, Node, node, expr_nodes, block_nodes}
use Rattle.wy_rules.specs.Failing.{IsExpected, IfFails, Passes, FirstFailing, AllPass}
use Rattle.wy_rules.proofs.Forms.{Lawful}
use Rattle.wy_rules.proofs.Least.{choice_parts, choice_least}
use Rattle.wy_judge.specs.Inference.{Inference}
use Rattle.wy_judge.specs.Inference as inferred
use Rattle.wy_judge.specs.Fit.{Fit}
use Rattle.wy_judge.specs.Fit as fit
use Rattle.wy_judge.specs.Outcomes.{fault_at, chosen_fit, chosen_fault, fault_or}
use Rattle.wy_judge.specs.Judged.{Inferred, Fitted, BlockFitted, Probed, BlockProbed}
use Rattle.wy_judge.proofs.Fitting.{least_of, least_at}
use Rattle.wy_judge.proofs.Lists.{pass_both, fail_left, fail_right}

module _ (p : Program) (k : ℕ) (s : Scope) (w : Lawful (scope_reading p k s)) (locals : List (scope_reading p k s).Kind) (owner : Option ℕ) where
  module _ (q : Place) (test : Expr) (first second : Block) (spot : Spot) where
    ------------------------------------------------------------
    -- Where a part fails

    abbrev own : Node
    own = node q TIf owner spot (part (If q test first second))

    pub test_fails : (t : TypeRef) (fault : Fault) → FirstFailing p k s locals (expr_nodes s owner test) fault → Fitted p k s locals owner spot (If q test first second) t (fit.Fails fault)
    test_fails t fault f = fail_left p k s locals (expr_nodes s owner test) _ fault f

    pub first_fails : (t : TypeRef) (fault : Fault) → AllPass p k s locals (expr_nodes s owner test) → FirstFailing p k s locals (block_nodes s owner spot first) fault →
        Fitted p k s locals owner spot (If q test first second) t (fit.Fails fault)
    first_fails t fault a f = fail_right p k s locals (expr_nodes s owner test) _ fault a (fail_left p k s locals (block_nodes s owner spot first) _ fault f)

    pub second_fails : (t : TypeRef) (fault : Fault) → AllPass p k s locals (expr_nodes s owner test) → AllPass p k s locals (block_nodes s owner spot first) → FirstFailing p k s locals (block_nodes s owner spot second) fault →
        Fitted p k s locals owner spot (If q test first second) t (fit.Fails fault)
    second_fails t fault a b f =
        fail_right p k s locals (expr_nodes s owner test) _ fault a
        (fail_right p k s locals (block_nodes s owner spot first) _ fault b (fail_left p k s locals (block_nodes s owner spot second) _ fault f))

    ------------------------------------------------------------
    -- Its own node

    own_fails : (t : TypeRef) (n : ℕ) → IsExpected (scope_reading p k s) s locals owner spot (Some ((scope_reading p k s).read t)) →
        AllPass p k s locals (expr_nodes s owner test) → AllPass p k s locals (block_nodes s owner spot first) → AllPass p k s locals (block_nodes s owner spot second) →
        IfFails (scope_reading p k s) s locals owner test first second ((scope_reading p k s).read t) n →
        (HasAt (scope_reading p k s) s locals owner (If q test first second) ((scope_reading p k s).read t) → ⊥) →
        Fitted p k s locals owner spot (If q test first second) t (fit.Fails (fault_at q TIf n))
    own_fails t n i a b c h refuted =
        fail_right p k s locals (expr_nodes s owner test) _ (fault_at q TIf n) a
        (fail_right p k s locals (block_nodes s owner spot first) _ (fault_at q TIf n) b
        (fail_right p k s locals (block_nodes s owner spot second) (own ∷ []) (fault_at q TIf n) c
        (inl (record {
          expected = Some ((scope_reading p k s).read t);
          atom = None;
          spot = i;
          stands_not = refuted;
          premise = (h, refl);
          place = refl;
          rule = refl;
          lacks = refl;
        }))))

    all_pass : AllPass p k s locals (expr_nodes s owner test) → AllPass p k s locals (block_nodes s owner spot first) → AllPass p k s locals (block_nodes s owner spot second) → Passes p k s locals own →
        AllPass p k s locals (expr_nodes s owner test ++ (block_nodes s owner spot first ++ (block_nodes s owner spot second ++ own ∷ [])))
    all_pass a b c n =
        pass_both p k s locals (expr_nodes s owner test) _ a
        (pass_both p k s locals (block_nodes s owner spot first) _ b (pass_both p k s locals (block_nodes s owner spot second) (own ∷ []) c (n, tt)))

    -- the condition is no truth value
    test_misfit : (t : TypeRef) → IsExpected (scope_reading p k s) s locals owner spot (Some ((scope_reading p k s).read t)) → Fitted p k s locals owner nothing (Plain test) Bool fit.Misfit →
        AllPass p k s locals (block_nodes s owner spot first) → AllPass p k s locals (block_nodes s owner spot second) → Fitted p k s locals owner spot (If q test first second) t (fit.Fails (fault_at q TIf 1))
    test_misfit t i c a b = own_fails t 1 i c.1 a b (inl (c.0, refl)) (λ h. c.0 (choice_parts (scope_reading p k s) w s locals owner q test first second ((scope_reading p k s).read t) h).test_has)

    first_misfit : (t : TypeRef) (e : List ℕ) → IsExpected (scope_reading p k s) s locals owner spot (Some ((scope_reading p k s).read t)) → Fitted p k s locals owner nothing (Plain test) Bool (fit.Has e) →
        BlockFitted p k s locals owner spot first t fit.Misfit → AllPass p k s locals (block_nodes s owner spot second) → Fitted p k s locals owner spot (If q test first second) t (fit.Fails (fault_at q TIf 2))
    first_misfit t e i c a b =
        own_fails t 2 i c.1 a.1 b (inr (record { effect = e; has = c.0.has }, inl (a.0, refl)))
        (λ h. a.0 (choice_parts (scope_reading p k s) w s locals owner q test first second ((scope_reading p k s).read t) h).first_has)

    second_misfit : (t : TypeRef) (e f : List ℕ) → IsExpected (scope_reading p k s) s locals owner spot (Some ((scope_reading p k s).read t)) → Fitted p k s locals owner nothing (Plain test) Bool (fit.Has e) →
        BlockFitted p k s locals owner spot first t (fit.Has f) → BlockFitted p k s locals owner spot second t fit.Misfit → Fitted p k s locals owner spot (If q test first second) t (fit.Fails (fault_at q TIf 3))
    second_misfit t e f i c a b =
        own_fails t 3 i c.1 a.1 b.1 (inr (record { effect = e; has = c.0.has }, inr (record { effect = f; has = a.0.has }, inl (b.0, refl))))
        (λ h. b.0 (choice_parts (scope_reading p k s) w s locals owner q test first second ((scope_reading p k s).read t) h).second_has)

    all_fit : (t : TypeRef) (e f g : List ℕ) → IsExpected (scope_reading p k s) s locals owner spot (Some ((scope_reading p k s).read t)) → Fitted p k s locals owner nothing (Plain test) Bool (fit.Has e) →
        BlockFitted p k s locals owner spot first t (fit.Has f) → BlockFitted p k s locals owner spot second t (fit.Has g) → Fitted p k s locals owner spot (If q test first second) t (fit.Has (union e (union f g)))
    all_fit t e f g i c a b =
        let l = choice_least (scope_reading p k s) w s locals owner q test first second ((scope_reading p k s).read t) e f g (least_at p k s w locals owner (Plain test) ((scope_reading p k s).read Bool) e c.0) a.0 b.0 in (
          least_of p k s w locals owner (If q test first second) ((scope_reading p k s).read t) (union e (union f g)) l,
          all_pass c.1 a.1 b.1 (record { expected = Some ((scope_reading p k s).read t); spot = i; stands = record { effect = union e (union f g); has = l.has }; settles = tt }),
        )

    ------------------------------------------------------------
    -- From what the parts came to

    pub if_fitted : (t : TypeRef) (c a b : Fit) → IsExpected (scope_reading p k s) s locals owner spot (Some ((scope_reading p k s).read t)) → Fitted p k s locals owner nothing (Plain test) Bool c →
        BlockFitted p k s locals owner spot first t a → BlockFitted p k s locals owner spot second t b → Fitted p k s locals owner spot (If q test first second) t (chosen_fit q c a b)
    if_fitted t (fit.Fails fault) a b i h m n = test_fails t fault h
    if_fitted t fit.Misfit (fit.Fails fault) b i h m n = first_fails t fault h.1 m
    if_fitted t fit.Misfit (fit.Has f) (fit.Has g) i h m n = test_misfit t i h m.1 n.1
    if_fitted t fit.Misfit (fit.Has f) fit.Misfit i h m n = test_misfit t i h m.1 n.1
    if_fitted t fit.Misfit (fit.Has f) (fit.Fails fault) i h m n = second_fails t fault h.1 m.1 n
    if_fitted t fit.Misfit fit.Misfit (fit.Has g) i h m n = test_misfit t i h m.1 n.1
    if_fitted t fit.Misfit fit.Misfit fit.Misfit i h m n = test_misfit t i h m.1 n.1
    if_fitted t fit.Misfit fit.Misfit (fit.Fails fault) i h m n = second_fails t fault h.1 m.1 n
    if_fitted t (fit.Has e) (fit.Fails fault) b i h m n = first_fails t fault h.1 m
    if_fitted t (fit.Has e) fit.Misfit (fit.Has g) i h m n = first_misfit t e i h m n.1
    if_fitted t (fit.Has e) fit.Misfit fit.Misfit i h m n = first_misfit t e i h m n.1
    if_fitted t (fit.Has e) fit.Misfit (fit.Fails fault) i h m n = second_fails t fault h.1 m.1 n
    if_fitted t (fit.Has e) (fit.Has f) (fit.Has g) i h m n = all_fit t e f g i h m n
    if_fitted t (fit.Has e) (fit.Has f) fit.Misfit i h m n = second_misfit t e f i h m n
    if_fitted t (fit.Has e) (fit.Has f) (fit.Fails fault) i h m n = second_fails t fault h.1 m.1 n

    -- an `if` where no type is expected is no failing node
    branches_probed : (a b : Option Fault) → IsExpected (scope_reading p k s) s locals owner spot None → AllPass p k s locals (expr_nodes s owner test) →
        BlockProbed p k s locals owner spot first a → BlockProbed p k s locals owner spot second b → Probed p k s locals owner spot (If q test first second) (fault_or a b)
    branches_probed (Some fault) b i h m n = first_fails Bool fault h m
    branches_probed None (Some fault) i h m n = second_fails Bool fault h m n
    branches_probed None None i h m n = all_pass h m n (record { expected = None; spot = i; stands = tt; settles = tt })

    pub if_probed : (v : Inference) (a b : Option Fault) → IsExpected (scope_reading p k s) s locals owner spot None → Inferred p k s locals owner test v →
        BlockProbed p k s locals owner spot first a → BlockProbed p k s locals owner spot second b → Probed p k s locals owner spot (If q test first second) (chosen_fault v a b)
    if_probed (inferred.Fails fault) a b i h m n = test_fails Bool fault h
    if_probed (inferred.Least t e) a b i h m n = branches_probed a b i h.1 m n
