-- A scope's nodes from its parts: what a pure module may not have, its start, its bodies and its seal, of which the first is judged here.
use Rattle.std.proofs.Common.{ℕ, List, [], ◌∷◌, ◌++◌, inl, refl, Option, Some, None, true, false}
use Rattle.std.specs.Prelude.{if◌then◌else◌}
use Rattle.wy_text.specs.declared.fault.Place.{Place}
use Rattle.wy_text.specs.declared.fault.Fault.{Fault}
use Rattle.wy_text.specs.declared.fault.RuleName.TheVariants.{MPure}
use Rattle.wy_types.specs.declared.resolved.Field.{Field}
use Rattle.wy_types.specs.declared.resolved.OwnName.{OwnName}
use Rattle.wy_types.specs.declared.resolved.Origin.{Origin}
use Rattle.wy_types.specs.declared.resolved.Origin.TheVariants.{Parameter, Grant, Use, Instance, Import}
use Rattle.wy_types.specs.declared.resolved.ScopeKind.{ScopeKind}
use Rattle.wy_types.specs.declared.resolved.ScopeKind.TheVariants.{Pure, Resource, Plain, Program as Main}
use Rattle.wy_types.specs.Program.{Program, Scope}
use Rattle.wy_rules.specs.Typing.{fields_of}
use Rattle.wy_rules.specs.Acceptance.{scope_reading}
use Rattle.wy_rules.specs.Nodes.{nothing, impure, node, start_nodes, bodies_nodes, var_nodes, impure_line, impure_lines, pure_nodes, seal_nodes, scope_nodes}
use Rattle.wy_rules.specs.Failing.{FailsBy, FirstFailing, AllPass, IsScopeFault}
use Rattle.wy_judge.specs.Outcomes.{fault_at, fault_or, var_fault, is_line, line_fault, pure_fault}
use Rattle.wy_judge.specs.Judged.{NodesJudged}
use Rattle.wy_judge.proofs.Bodies.{both_judged}
use Rattle.wy_judge.proofs.Lists.{fail_left, fail_right}

module _ (p : Program) (k : ℕ) (s : Scope) (locals : List (scope_reading p k s).Kind) where
  ------------------------------------------------------------
  -- M-Pure

  impure_fails : (place : Place) (n : ℕ) → FailsBy p k s locals (node place MPure None nothing (impure n)) (fault_at place MPure n)
  impure_fails place n = record { expected = None; atom = None; spot = refl; stands_not = λ z. z; premise = (refl, refl); place = refl; rule = refl; lacks = refl }

  pub vars_judged : (fs : List Field) → NodesJudged p k s locals (var_nodes s fs) (var_fault fs)
  vars_judged [] = tt
  vars_judged (f ∷ fs) =
      elim f.mutable as (λ b. NodesJudged p k s locals (if b then node f.place MPure None nothing (impure 1) ∷ var_nodes s fs else var_nodes s fs) (if b then Some (fault_at f.place MPure 1) else var_fault fs)) [
        | true ↦ inl (impure_fails f.place 1)
        | false ↦ vars_judged fs
      ]

  line_judged : (n : OwnName) (o : Origin) (ns : List OwnName) → NodesJudged p k s locals (impure_lines s ns) (line_fault ns) →
      NodesJudged p k s locals (impure_line s n o ++ impure_lines s ns) (if is_line o then Some (fault_at n.place MPure 2) else line_fault ns)
  line_judged n (Parameter bare) ns h = h
  line_judged n Grant ns h = h
  line_judged n (Use m) ns h = h
  line_judged n (Instance m arguments) ns h = inl (impure_fails n.place 2)
  line_judged n (Import m arguments bound) ns h = inl (impure_fails n.place 2)

  pub lines_judged : (ns : List OwnName) → NodesJudged p k s locals (impure_lines s ns) (line_fault ns)
  lines_judged [] = tt
  lines_judged (n ∷ ns) = line_judged n n.origin ns (lines_judged ns)

  pub pure_judged : (kind : ScopeKind) → NodesJudged p k s locals (pure_nodes s kind) (pure_fault kind (fields_of s 0) s.names)
  pure_judged Pure = both_judged p k s locals (var_nodes s (fields_of s 0)) (impure_lines s s.names) (var_fault (fields_of s 0)) (line_fault s.names) (vars_judged (fields_of s 0)) (lines_judged s.names)
  pure_judged Resource = tt
  pure_judged Plain = tt
  pure_judged Main = tt

  ------------------------------------------------------------
  -- All nodes

  pub scope_judged : (pure start bodies sealed : Option Fault) → NodesJudged p k s locals (pure_nodes s s.kind) pure → NodesJudged p k s locals (start_nodes s s.start) start → NodesJudged p k s locals (bodies_nodes s s.bodies) bodies →
      NodesJudged p k s locals (seal_nodes s s.ascribed) sealed → NodesJudged p k s locals (scope_nodes s) (fault_or pure (fault_or start (fault_or bodies sealed)))
  scope_judged pure start bodies sealed a b c d =
      both_judged p k s locals (pure_nodes s s.kind) (start_nodes s s.start ++ (bodies_nodes s s.bodies ++ seal_nodes s s.ascribed)) pure (fault_or start (fault_or bodies sealed)) a
      (both_judged p k s locals (start_nodes s s.start) (bodies_nodes s s.bodies ++ seal_nodes s s.ascribed) start (fault_or bodies sealed) b
      (both_judged p k s locals (bodies_nodes s s.bodies) (seal_nodes s s.ascribed) bodies sealed c d))

  -- a part that fails, after those that pass: what comes after it does not matter
  pub pure_fails : (fault : Fault) → FirstFailing p k s locals (pure_nodes s s.kind) fault → FirstFailing p k s locals (scope_nodes s) fault
  pure_fails fault f = fail_left p k s locals (pure_nodes s s.kind) _ fault f

  pub start_fails : (fault : Fault) → AllPass p k s locals (pure_nodes s s.kind) → FirstFailing p k s locals (start_nodes s s.start) fault → FirstFailing p k s locals (scope_nodes s) fault
  start_fails fault a f = fail_right p k s locals (pure_nodes s s.kind) _ fault a (fail_left p k s locals (start_nodes s s.start) _ fault f)

  pub body_fails : (fault : Fault) → AllPass p k s locals (pure_nodes s s.kind) → AllPass p k s locals (start_nodes s s.start) → FirstFailing p k s locals (bodies_nodes s s.bodies) fault → FirstFailing p k s locals (scope_nodes s) fault
  body_fails fault a b f =
      fail_right p k s locals (pure_nodes s s.kind) _ fault a
      (fail_right p k s locals (start_nodes s s.start) _ fault b (fail_left p k s locals (bodies_nodes s s.bodies) (seal_nodes s s.ascribed) fault f))

  pub scope_fault : (fault : Fault) → NodesJudged p k s locals (scope_nodes s) (Some fault) → IsScopeFault p k s fault
  scope_fault fault f = record { locals = locals; first = f }
