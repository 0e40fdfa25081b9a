-- A block, from its last value, or from a statement and the rest: at the type that its place expects, and where none is expected.
use Rattle.std.proofs.Common.{◌≡◌, ℕ, List, ◌∷◌, ◌++◌, inl, inr, refl, Option, Some, None}
use Rattle.std.specs.Prelude.{slice_get}
use Rattle.wy_text.specs.declared.fault.Place.{Place}
use Rattle.wy_text.specs.declared.fault.Fault.{Fault}
use Rattle.wy_text.specs.declared.fault.RuleName.TheVariants.{TSeq, TVal}
use Rattle.wy_effects.specs.EffSet.{union}
use Rattle.wy_types.specs.declared.types.TypeRef.{TypeRef}
use Rattle.wy_types.specs.declared.types.TypeRef.TheVariants.{Unit as Nothing}
use Rattle.wy_types.specs.Code.{Expr, Value, Plain, If, Block, Last, Then, Val}
use Rattle.wy_types.specs.Program.{Program, Scope}
use Rattle.wy_rules.specs.Derivations.{mark}
use Rattle.wy_rules.specs.Typing.{BlockHasAt}
use Rattle.wy_rules.specs.Acceptance.{scope_reading}
use Rattle.wy_rules.specs.Nodes.{Spot, nothing, written, statement, val, Node, node, value_nodes, block_nodes, val_spot}
use Rattle.wy_rules.specs.Failing.{IsLeastAt, ValStands, ValFails, Passes, FailsBy, FirstFailing, AllPass}
use Rattle.wy_rules.proofs.Forms.{Lawful, block_bare}
use Rattle.wy_rules.proofs.Least.{raise_block, last_least, last_has, then_least, val_least, at_type}
use Rattle.wy_judge.specs.Inference as inferred
use Rattle.wy_judge.specs.Fit.{Fit}
use Rattle.wy_judge.specs.Fit as fit
use Rattle.wy_judge.specs.Outcomes.{fault_at, followed_fit, stated_fit, untyped_fault}
use Rattle.wy_judge.specs.Judged.{Inferred, Fitted, BlockFitted, Probed, BlockProbed, Stated}
use Rattle.wy_judge.proofs.Fitting.{least_at}
use Rattle.wy_judge.proofs.Lists.{pass_both, fail_left, fail_right}

module _ (p : Program) (k : ℕ) (s : Scope) (w : Lawful (scope_reading p k s)) (locals : List (scope_reading p k s).Kind) (owner : Option ℕ) where
  ------------------------------------------------------------
  -- The last value

  pub last_fitted : (spot : Spot) (x : Value) (t : TypeRef) (u : Fit) → Fitted p k s locals owner spot x t u → BlockFitted p k s locals owner spot (Last x) t u
  last_fitted spot x t (fit.Has f) h = (last_least (scope_reading p k s) w s locals owner x ((scope_reading p k s).read t) f (least_at p k s w locals owner x ((scope_reading p k s).read t) f h.0), h.1)
  last_fitted spot x t fit.Misfit h = (λ b. h.0 (last_has (scope_reading p k s) w s locals owner x ((scope_reading p k s).read t) b), h.1)
  last_fitted spot x t (fit.Fails fault) h = h

  pub last_probed : (spot : Spot) (x : Value) (o : Option Fault) → Probed p k s locals owner spot x o → BlockProbed p k s locals owner spot (Last x) o
  last_probed spot x None h = h
  last_probed spot x (Some fault) h = h

  ------------------------------------------------------------
  -- Nodes of a first value, one node and the nodes of the rest

  all_pass : (ns : List Node) (n : Node) (ms : List Node) → AllPass p k s locals ns → Passes p k s locals n → AllPass p k s locals ms → AllPass p k s locals (ns ++ n ∷ ms)
  all_pass ns n ms a b c = pass_both p k s locals ns (n ∷ ms) a (b, c)

  rest_fails : (ns : List Node) (n : Node) (ms : List Node) (fault : Fault) → AllPass p k s locals ns → Passes p k s locals n → FirstFailing p k s locals ms fault → FirstFailing p k s locals (ns ++ n ∷ ms) fault
  rest_fails ns n ms fault a b f = fail_right p k s locals ns (n ∷ ms) fault a (inr (b, f))

  node_fails : (ns : List Node) (n : Node) (ms : List Node) (fault : Fault) → AllPass p k s locals ns → FailsBy p k s locals n fault → FirstFailing p k s locals (ns ++ n ∷ ms) fault
  node_fails ns n ms fault a f = fail_right p k s locals ns (n ∷ ms) fault a (inl f)

  ------------------------------------------------------------
  -- A statement that is no `val`

  module _ (x : Value) where
    abbrev then_node : Node
    then_node = node (mark x) TSeq owner nothing (statement x)

    then_rest : (b : Block) (t : TypeRef) → BlockHasAt (scope_reading p k s) s locals owner (Then x b) ((scope_reading p k s).read t) → BlockHasAt (scope_reading p k s) s locals owner b ((scope_reading p k s).read t)
    then_rest b t h =
        let c = block_bare (scope_reading p k s) w s locals owner (Then x b) ((scope_reading p k s).read t) h.effect h.has in
        record { effect = c.formed.1; has = raise_block (scope_reading p k s) w s locals owner b c.typ ((scope_reading p k s).read t) c.formed.1 c.above c.formed.3 }

    then_passes : (e : List ℕ) → Fitted p k s locals owner (written Nothing) x Nothing (fit.Has e) → Passes p k s locals then_node
    then_passes e h = record { expected = None; spot = refl; stands = record { effect = e; has = h.0.has }; settles = tt }

    then_fitted : (b : Block) (e : List ℕ) (spot : Spot) (t : TypeRef) (v : Fit) → Fitted p k s locals owner (written Nothing) x Nothing (fit.Has e) → BlockFitted p k s locals owner spot b t v →
        BlockFitted p k s locals owner spot (Then x b) t (followed_fit e v)
    then_fitted b e spot t (fit.Has f) h g = (
      then_least (scope_reading p k s) w s locals owner x b ((scope_reading p k s).read t) e f (least_at p k s w locals owner x ((scope_reading p k s).read Nothing) e h.0) g.0,
      all_pass (value_nodes s owner (written Nothing) x) then_node (block_nodes s owner spot b) h.1 (then_passes e h) g.1,
    )
    then_fitted b e spot t fit.Misfit h g = (λ i. g.0 (then_rest b t i), all_pass (value_nodes s owner (written Nothing) x) then_node (block_nodes s owner spot b) h.1 (then_passes e h) g.1)
    then_fitted b e spot t (fit.Fails fault) h g = rest_fails (value_nodes s owner (written Nothing) x) then_node (block_nodes s owner spot b) fault h.1 (then_passes e h) g

    then_probed : (b : Block) (e : List ℕ) (spot : Spot) (o : Option Fault) → Fitted p k s locals owner (written Nothing) x Nothing (fit.Has e) → BlockProbed p k s locals owner spot b o → BlockProbed p k s locals owner spot (Then x b) o
    then_probed b e spot None h g = all_pass (value_nodes s owner (written Nothing) x) then_node (block_nodes s owner spot b) h.1 (then_passes e h) g
    then_probed b e spot (Some fault) h g = rest_fails (value_nodes s owner (written Nothing) x) then_node (block_nodes s owner spot b) fault h.1 (then_passes e h) g

    pub then_stated : (u : Fit) → Fitted p k s locals owner (written Nothing) x Nothing u → Stated p k s locals owner (Then x) (stated_fit (mark x) TSeq u)
    then_stated (fit.Has e) h = λ b. record { fits = λ spot t v g. then_fitted b e spot t v h g; probes = λ spot o g. then_probed b e spot o h g }
    then_stated fit.Misfit h = λ b spot.
        node_fails (value_nodes s owner (written Nothing) x) then_node (block_nodes s owner spot b) (fault_at (mark x) TSeq 1) h.1
        (record { expected = None; atom = None; spot = refl; stands_not = h.0; premise = (inl (h.0, refl), refl); place = refl; rule = refl; lacks = refl })
    then_stated (fit.Fails fault) h = λ b spot. fail_left p k s locals (value_nodes s owner (written Nothing) x) _ fault h

  ------------------------------------------------------------
  -- A `val`

  module _ (q : Place) (n : ℕ) (typ : Option TypeRef) (x : Value) where
    abbrev val_node : Node
    val_node = node q TVal owner nothing (val n typ x)

    val_rest : (b : Block) (t : TypeRef) → BlockHasAt (scope_reading p k s) s locals owner (Val q n typ x b) ((scope_reading p k s).read t) → BlockHasAt (scope_reading p k s) s locals owner b ((scope_reading p k s).read t)
    val_rest b t h =
        let c = block_bare (scope_reading p k s) w s locals owner (Val q n typ x b) ((scope_reading p k s).read t) h.effect h.has in
        record { effect = c.formed.2; has = raise_block (scope_reading p k s) w s locals owner b c.typ ((scope_reading p k s).read t) c.formed.2 c.above c.formed.6 }

    -- its nodes and its own node pass, and its initialiser has this least effect at the type that it takes
    val_follows : (e : List ℕ) → AllPass p k s locals (value_nodes s owner (val_spot typ) x) → Passes p k s locals val_node →
        ((b : Block) (t : TypeRef) (f : List ℕ) → IsLeastAt (scope_reading p k s) s locals owner b ((scope_reading p k s).read t) f → IsLeastAt (scope_reading p k s) s locals owner (Val q n typ x b) ((scope_reading p k s).read t) (union e f)) →
        Stated p k s locals owner (Val q n typ x) (fit.Has e)
    val_follows e a c least = λ b. record { fits = λ spot t v g. fitted b spot t v g; probes = λ spot o g. probed b spot o g }
      where
        fitted : (b : Block) (spot : Spot) (t : TypeRef) (v : Fit) → BlockFitted p k s locals owner spot b t v → BlockFitted p k s locals owner spot (Val q n typ x b) t (followed_fit e v)
        fitted b spot t (fit.Has f) g = (least b t f g.0, all_pass (value_nodes s owner (val_spot typ) x) val_node (block_nodes s owner spot b) a c g.1)
        fitted b spot t fit.Misfit g = (λ i. g.0 (val_rest b t i), all_pass (value_nodes s owner (val_spot typ) x) val_node (block_nodes s owner spot b) a c g.1)
        fitted b spot t (fit.Fails fault) g = rest_fails (value_nodes s owner (val_spot typ) x) val_node (block_nodes s owner spot b) fault a c g

        probed : (b : Block) (spot : Spot) (o : Option Fault) → BlockProbed p k s locals owner spot b o → BlockProbed p k s locals owner spot (Val q n typ x b) o
        probed b spot None g = all_pass (value_nodes s owner (val_spot typ) x) val_node (block_nodes s owner spot b) a c g
        probed b spot (Some fault) g = rest_fails (value_nodes s owner (val_spot typ) x) val_node (block_nodes s owner spot b) fault a c g

    -- its own node fails
    val_fails : AllPass p k s locals (value_nodes s owner (val_spot typ) x) → (ValStands (scope_reading p k s) s locals owner typ x → ⊥) → ValFails (scope_reading p k s) s locals owner typ x 1 →
        Stated p k s locals owner (Val q n typ x) (fit.Fails (fault_at q TVal 1))
    val_fails a refuted f = λ b spot.
        node_fails (value_nodes s owner (val_spot typ) x) val_node (block_nodes s owner spot b) (fault_at q TVal 1) a
        (record { expected = None; atom = None; spot = refl; stands_not = refuted; premise = (f, refl); place = refl; rule = refl; lacks = refl })

    -- a node of its initialiser fails
    initialiser_fails : (fault : Fault) → FirstFailing p k s locals (value_nodes s owner (val_spot typ) x) fault → Stated p k s locals owner (Val q n typ x) (fit.Fails fault)
    initialiser_fails fault f = λ b spot. fail_left p k s locals (value_nodes s owner (val_spot typ) x) _ fault f

  -- with a type
  pub typed_stated : (q : Place) (n : ℕ) (t : TypeRef) (x : Value) (u : Fit) → slice_get locals n ≡ Some ((scope_reading p k s).read t) → Fitted p k s locals owner (written t) x t u →
      Stated p k s locals owner (Val q n (Some t) x) (stated_fit q TVal u)
  typed_stated q n t x (fit.Has e) i h =
      val_follows q n (Some t) x e h.1 (record { expected = None; spot = refl; stands = record { effect = e; has = h.0.has }; settles = i })
      (λ b v f g.
      val_least (scope_reading p k s) w s locals owner q n (Some t) x b ((scope_reading p k s).read t) ((scope_reading p k s).read v) e f i refl (least_at p k s w locals owner x ((scope_reading p k s).read t) e h.0) g)
  typed_stated q n t x fit.Misfit i h = val_fails q n (Some t) x h.1 h.0 (inl (h.0, refl))
  typed_stated q n t x (fit.Fails fault) i h = initialiser_fails q n (Some t) x fault h

  -- .. whose initialiser has not that type or fails, whatever type stands for the `val`
  pub typed_misfit : (q : Place) (n : ℕ) (t : TypeRef) (x : Value) → Fitted p k s locals owner (written t) x t fit.Misfit → Stated p k s locals owner (Val q n (Some t) x) (fit.Fails (fault_at q TVal 1))
  typed_misfit q n t x h = val_fails q n (Some t) x h.1 h.0 (inl (h.0, refl))

  pub typed_fails : (q : Place) (n : ℕ) (t : TypeRef) (x : Value) (fault : Fault) → Fitted p k s locals owner (written t) x t (fit.Fails fault) → Stated p k s locals owner (Val q n (Some t) x) (fit.Fails fault)
  typed_fails q n t x fault h = initialiser_fails q n (Some t) x fault h

  -- without a type
  pub untyped_stated : (q : Place) (n : ℕ) (x : Expr) (t : TypeRef) (e : List ℕ) → slice_get locals n ≡ Some ((scope_reading p k s).read t) → Inferred p k s locals owner x (inferred.Least t e) →
      Stated p k s locals owner (Val q n None (Plain x)) (fit.Has e)
  untyped_stated q n x t e i h =
      val_follows q n None (Plain x) e h.1
      (record { expected = None; spot = refl; stands = record { typ = (scope_reading p k s).read t; effect = e; has = h.0.has }; settles = ((scope_reading p k s).read t, e, h.0, i) })
      (λ b v f g.
      val_least (scope_reading p k s) w s locals owner q n None (Plain x) b ((scope_reading p k s).read t) ((scope_reading p k s).read v) e f i tt
      (at_type (scope_reading p k s) w s locals owner (Plain x) ((scope_reading p k s).read t) ((scope_reading p k s).read t) e h.0 (inl refl)) g)

  pub untyped_fails : (q : Place) (n : ℕ) (x : Expr) (fault : Fault) → Inferred p k s locals owner x (inferred.Fails fault) → Stated p k s locals owner (Val q n None (Plain x)) (fit.Fails fault)
  untyped_fails q n x fault h = initialiser_fails q n None (Plain x) fault h

  -- .. whose initialiser is an `if`
  pub untyped_choice : (q : Place) (n : ℕ) (place : Place) (test : Expr) (first second : Block) (o : Option Fault) → Probed p k s locals owner nothing (If place test first second) o →
      Stated p k s locals owner (Val q n None (If place test first second)) (fit.Fails (untyped_fault q o))
  untyped_choice q n place test first second None h = val_fails q n None (If place test first second) h (λ z. z) refl
  untyped_choice q n place test first second (Some fault) h = initialiser_fails q n None (If place test first second) fault h
