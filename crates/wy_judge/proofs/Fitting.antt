-- A value that is no `if` at the type that its place expects, and where none is expected.
use Rattle.std.proofs.Common.{◌≡◌, ◌↔◌, ℕ, List, inr, refl, Option, Bool as Truth, true, false}
use Rattle.wy_text.specs.declared.fault.Fault.{Fault}
use Rattle.wy_types.specs.declared.types.TypeRef.{TypeRef}
use Rattle.wy_types.specs.Code.{Expr, Value, Plain}
use Rattle.wy_types.specs.Program.{Program, Scope}
use Rattle.wy_rules.specs.Readings.{IsBelow}
use Rattle.wy_rules.specs.Acceptance.{scope_reading}
use Rattle.wy_rules.specs.Nodes.{Spot}
use Rattle.wy_rules.proofs.Forms.{Lawful}
use Rattle.wy_rules.proofs.Least.{LeastAt, at_type, not_at}
use Rattle.wy_judge.specs.Inference.{Inference}
use Rattle.wy_judge.specs.Inference as inferred
use Rattle.wy_judge.specs.Fit as fit
use Rattle.wy_judge.specs.Outcomes.{fitted_outcome, probed_outcome}
use Rattle.wy_judge.specs.Judged.{IsLeastOf, Inferred, Fitted, Probed}

module _ (p : Program) (k : ℕ) (s : Scope) (w : Lawful (scope_reading p k s)) (locals : List (scope_reading p k s).Kind) (owner : Option ℕ) where
  -- a least effect at a type in the words of either layer
  pub least_of : (x : Value) (t : (scope_reading p k s).Kind) (f : List ℕ) → LeastAt (scope_reading p k s) w s locals owner x t f → IsLeastOf (scope_reading p k s) s locals owner x t f
  least_of x t f l = record { has = l.has; least = l.least }

  pub least_at : (x : Value) (t : (scope_reading p k s).Kind) (f : List ℕ) → IsLeastOf (scope_reading p k s) s locals owner x t f → LeastAt (scope_reading p k s) w s locals owner x t f
  least_at x t f l = record { has = l.has; least = l.least }

  pub plain_fitted : (x : Expr) (spot : Spot) (t u : TypeRef) (e : List ℕ) (below : Truth) → Inferred p k s locals owner x (inferred.Least t e) →
      (below ≡ true) ↔ IsBelow (scope_reading p k s) ((scope_reading p k s).read t) ((scope_reading p k s).read u) →
      Fitted p k s locals owner spot (Plain x) u (fitted_outcome below (inferred.Least t e))
  plain_fitted x spot t u e true h b = (
    least_of (Plain x) ((scope_reading p k s).read u) e
        (at_type (scope_reading p k s) w s locals owner (Plain x) ((scope_reading p k s).read t) ((scope_reading p k s).read u) e h.0 (inr (b.0 refl))),
    h.1,
  )
  plain_fitted x spot t u e false h b = (
    not_at (scope_reading p k s) w s locals owner (Plain x) ((scope_reading p k s).read t) ((scope_reading p k s).read u) e h.0 (λ i. differ (b.1 i)),
    h.1,
  )
    where
      differ : ◌≡◌ {A = Truth} false true → ⊥
      differ i = cc

  pub plain_failed : (x : Expr) (spot : Spot) (u : TypeRef) (fault : Fault) → Inferred p k s locals owner x (inferred.Fails fault) → Fitted p k s locals owner spot (Plain x) u (fit.Fails fault)
  plain_failed x spot u fault h = h

  pub plain_probed : (x : Expr) (spot : Spot) (v : Inference) → Inferred p k s locals owner x v → Probed p k s locals owner spot (Plain x) (probed_outcome v)
  plain_probed x spot (inferred.Least t e) h = h.1
  plain_probed x spot (inferred.Fails fault) h = h
