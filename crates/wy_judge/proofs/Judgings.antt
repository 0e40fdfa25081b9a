-- What judging a whole scope comes to, from its four parts: it passes over the types that are known in the end, or the first part that
-- has a fault gives the scope's.
use Rattle.std.proofs.Common.{◌≡◌, ℕ, zero, suc, List, [], ◌∷◌, ◌++◌, length, take, ap, subst, Option, Some, None, map, arith}
use Rattle.std.proofs.lemmas.List.{take_all}
use Rattle.wy_text.specs.declared.fault.Fault.{Fault}
use Rattle.wy_text.specs.Members.{In}
use Rattle.wy_types.specs.Core.{AreNumbered}
use Rattle.wy_types.specs.Vals.{start_vals, bodies_vals, scope_vals}
use Rattle.wy_types.specs.Program.{Program, Scope, Body}
use Rattle.wy_rules.specs.Readings.{Reading}
use Rattle.wy_rules.specs.Typing.{fields_of}
use Rattle.wy_rules.specs.Acceptance.{scope_reading}
use Rattle.wy_rules.specs.Nodes.{start_nodes, pure_nodes, scope_nodes}
use Rattle.wy_judge.specs.declared.scopes.Judged.TheVariants.{Passes, Fails}
use Rattle.wy_judge.specs.Outcomes.{pure_fault}
use Rattle.wy_judge.specs.Judged.{NodesJudged}
use Rattle.wy_judge.specs.Tables.{Table, IsKnown, Agrees}
use Rattle.wy_judge.specs.Walking.{settled_types, StartsTo, BodiesTo, IsSealFault, IsJudged}
use Rattle.wy_judge.proofs.Rooms.{known_room}
use Rattle.wy_judge.proofs.Seals.{seal_judged}
use Rattle.wy_judge.proofs.Whole.{pure_judged, scope_judged, pure_fails, start_fails, body_fails, scope_fault}

-- the types that are known, in a list of types for all `val`s
pub settled_agrees : (y : Reading) (table : Table) → Agrees y (map y.read (settled_types table)) table
settled_agrees y [] n t e = absurd (cc)
settled_agrees y (None ∷ table) zero t e = absurd (cc)
settled_agrees y (Some u ∷ table) zero t e = let same : u ≡ t = cc in ap (λ v. Some (y.read v)) same
settled_agrees y (o ∷ table) (suc n) t e = settled_agrees y table n t e

module _ (p : Program) (k : ℕ) (s : Scope) where
  abbrev AllTypes : Table → List (scope_reading p k s).Kind
  AllTypes table = map (scope_reading p k s).read (settled_types table)

  -- types that go on from what is known after the bodies do so from what is known after the start
  agrees_still : (old new : Table) (o : Option Fault) (locals : List (scope_reading p k s).Kind) → BodiesTo p k s old new o → Agrees (scope_reading p k s) locals new → Agrees (scope_reading p k s) locals old
  agrees_still old new o locals h agrees n t e = agrees n t (h.keeps n t e)

  pure_part : (locals : List (scope_reading p k s).Kind) (o : Option Fault) → pure_fault s.kind (fields_of s 0) s.names ≡ o → NodesJudged p k s locals (pure_nodes s s.kind) o
  pure_part locals o e = subst (NodesJudged p k s locals (pure_nodes s s.kind)) e (pure_judged p k s locals s.kind)

  start_part : (a b : Table) (o : Option Fault) → StartsTo p k s [] a None → BodiesTo p k s a b o → NodesJudged p k s (AllTypes b) (start_nodes s s.start) None
  start_part a b o h g = h.judged (AllTypes b) (agrees_still a b o (AllTypes b) g (settled_agrees (scope_reading p k s) b))

  all_parts : (a b : Table) (o : Option Fault) → pure_fault s.kind (fields_of s 0) s.names ≡ None → StartsTo p k s [] a None → BodiesTo p k s a b None → IsSealFault p k s o → NodesJudged p k s (AllTypes b) (scope_nodes s) o
  all_parts a b o pure starts bodies sealed =
      scope_judged p k s (AllTypes b) None None None o (pure_part (AllTypes b) None pure) (start_part a b None starts bodies) (bodies.judged (AllTypes b) (settled_agrees (scope_reading p k s) b))
      (seal_judged p k s (AllTypes b) o sealed)

  ------------------------------------------------------------
  -- The scope

  pub judged_passes : (a b : Table) → AreNumbered (scope_vals s) → pure_fault s.kind (fields_of s 0) s.names ≡ None → StartsTo p k s [] a None → BodiesTo p k s a b None → IsSealFault p k s None →
      IsJudged p k s (Passes (settled_types b))
  judged_passes a b numbered pure starts bodies sealed = record {
    nodes = all_parts a b None pure starts bodies sealed;
    size =
        let all : take (length s.bodies) s.bodies ≡ s.bodies = take_all (length s.bodies) s.bodies (omega arith) in
        let w = subst (λ (l : List Body). ((n : ℕ) → In n (start_vals s.start ++ bodies_vals l) → IsKnown b n) × ((n : ℕ) → IsKnown b n → In n (start_vals s.start ++ bodies_vals l))) all (bodies.walked.known, bodies.walked.only) in
        known_room b (scope_vals s) numbered w.0 w.1 bodies.walked.ends;
  }

  pub judged_pure : (fault : Fault) → pure_fault s.kind (fields_of s 0) s.names ≡ Some fault → IsJudged p k s (Fails fault)
  judged_pure fault e = scope_fault p k s [] fault (pure_fails p k s [] fault (pure_part [] (Some fault) e))

  pub judged_start : (a : Table) (fault : Fault) → pure_fault s.kind (fields_of s 0) s.names ≡ None → StartsTo p k s [] a (Some fault) → IsJudged p k s (Fails fault)
  judged_start a fault pure starts =
      scope_fault p k s (AllTypes a) fault (start_fails p k s (AllTypes a) fault (pure_part (AllTypes a) None pure) (starts.judged (AllTypes a) (settled_agrees (scope_reading p k s) a)))

  pub judged_body : (a b : Table) (fault : Fault) → pure_fault s.kind (fields_of s 0) s.names ≡ None → StartsTo p k s [] a None → BodiesTo p k s a b (Some fault) → IsJudged p k s (Fails fault)
  judged_body a b fault pure starts bodies =
      scope_fault p k s (AllTypes b) fault
      (body_fails p k s (AllTypes b) fault (pure_part (AllTypes b) None pure) (start_part a b (Some fault) starts bodies) (bodies.judged (AllTypes b) (settled_agrees (scope_reading p k s) b)))

  pub judged_seal : (a b : Table) (fault : Fault) → pure_fault s.kind (fields_of s 0) s.names ≡ None → StartsTo p k s [] a None → BodiesTo p k s a b None → IsSealFault p k s (Some fault) → IsJudged p k s (Fails fault)
  judged_seal a b fault pure starts bodies sealed = scope_fault p k s (AllTypes b) fault (all_parts a b (Some fault) pure starts bodies sealed)
