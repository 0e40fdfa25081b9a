use Rattle.std.proofs.Common.{subst, sym, refl}
use Rattle.std.proofs.lemmas.Bool.{eq-eqb}
use Rattle.wy_verify.specs.Turns.{IsFlow}
use Rattle.wy_verify.proofs.Flows.{jump_to_next}
use Rattle.wy_verify.proofs.flow.flow_passes.Goals as goal

pub returns-then-to-at-clause-decided : goal.returns-then-to-at-clause-decided
returns-then-to-at-clause-decided c = λ js known are. (
  (λ t. subst (λ i. IsFlow c.args.site.now c.args.at known js i) (sym c.in-Jump.is)
      (jump_to_next c.args.site.now c.args.at c.in-Jump.to known js (c.if-goes_forward.ensures.0 refl) c.if-to-at.true)),
  (λ h. eq-eqb _ _ c.if-to-at.true),
)
