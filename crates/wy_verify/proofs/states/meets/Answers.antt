use Rattle.std.proofs.Common.{◌≡◌, true, false, sym, ◌∙◌, subst}
use Rattle.wy_verify.specs.Turns.{IsSameSet}
use Rattle.wy_verify.proofs.states.meets.Goals as goal

pub returns-then-meets_state : goal.returns-then-meets_state
returns-then-meets_state c = λ s. (
  (λ t. (
    (c.meets_state.ensures s).0 c.if-meets_state.true,
    subst (λ n. IsSameSet s n c.args.noted) c.set_count.ensures ((c.is_same.ensures s).0 t),
  )),
  (λ h. (c.is_same.ensures s).1 (subst (λ n. IsSameSet s n c.args.noted) (sym c.set_count.ensures) h.1)),
)

pub returns-else-meets_state : goal.returns-else-meets_state
returns-else-meets_state c = λ s. (
  (λ t. absurd (let z : true ≡ false = sym t ∙ c.if-meets_state.false in cc)),
  (λ h. (c.meets_state.ensures s).1 h.0),
)
