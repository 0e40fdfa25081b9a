-- The nodes of an expression end with its own: it passes where the expression has a type, and fails by a false premise.
use Rattle.std.proofs.Common.{ℕ, List, [], ◌∷◌, ◌++◌, refl, Option, None}
use Rattle.wy_text.specs.declared.fault.Place.{Place}
use Rattle.wy_text.specs.declared.fault.RuleName.{RuleName}
use Rattle.wy_types.specs.Code.{Expr, Plain}
use Rattle.wy_types.specs.Program.{Program, Scope}
use Rattle.wy_rules.specs.Typing.{Has, HasSome}
use Rattle.wy_rules.specs.Acceptance.{scope_reading}
use Rattle.wy_rules.specs.Nodes.{nothing, part, Node, node}
use Rattle.wy_rules.specs.Failing.{ExprFails, Passes, FailsBy, AllPass, FirstFailing}
use Rattle.wy_judge.specs.Outcomes.{fault_at}
use Rattle.wy_judge.proofs.Lists.{pass_last, fail_last}

module _ (p : Program) (k : ℕ) (s : Scope) (locals : List (scope_reading p k s).Kind) (owner : Option ℕ) where
  abbrev pub own_node : Place → RuleName → Expr → Node
  own_node place rule x = node place rule owner nothing (part (Plain x))

  own_passes : (place : Place) (rule : RuleName) (x : Expr) (t : (scope_reading p k s).Kind) (f : List ℕ) →
      Has (scope_reading p k s) s locals owner (Plain x) t f → Passes p k s locals (own_node place rule x)
  own_passes place rule x t f h = record { expected = None; spot = refl; stands = record { typ = t; effect = f; has = h }; settles = tt }

  own_fails : (place : Place) (rule : RuleName) (x : Expr) (n : ℕ) →
      (HasSome (scope_reading p k s) s locals owner (Plain x) → ⊥) → ExprFails (scope_reading p k s) s locals owner x n → FailsBy p k s locals (own_node place rule x) (fault_at place rule n)
  own_fails place rule x n h f = record { expected = None; atom = None; spot = refl; stands_not = h; premise = (f, refl); place = refl; rule = refl; lacks = refl }

  pub ends_passing : (ns : List Node) (place : Place) (rule : RuleName) (x : Expr) (t : (scope_reading p k s).Kind) (f : List ℕ) →
      AllPass p k s locals ns → Has (scope_reading p k s) s locals owner (Plain x) t f → AllPass p k s locals (ns ++ own_node place rule x ∷ [])
  ends_passing ns place rule x t f a h = pass_last p k s locals ns (own_node place rule x) a (own_passes place rule x t f h)

  pub ends_failing : (ns : List Node) (place : Place) (rule : RuleName) (x : Expr) (n : ℕ) →
      AllPass p k s locals ns → (HasSome (scope_reading p k s) s locals owner (Plain x) → ⊥) → ExprFails (scope_reading p k s) s locals owner x n →
      FirstFailing p k s locals (ns ++ own_node place rule x ∷ []) (fault_at place rule n)
  ends_failing ns place rule x n a h f = fail_last p k s locals ns (own_node place rule x) (fault_at place rule n) a (own_fails place rule x n h f)
