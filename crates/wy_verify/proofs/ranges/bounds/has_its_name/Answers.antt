use Rattle.wy_verify.proofs.RangeTests.{refuted, reworded}
use Rattle.wy_verify.proofs.ranges.bounds.has_its_name.Goals as goal

pub returns-then-not-is_printed : goal.returns-then-not-is_printed
returns-then-not-is_printed c =
    λ file t. refuted c.is_printed.result c.if-not-is_printed.true c.is_printed.ensures (λ p. p.0)

pub returns : goal.returns
returns c =
    λ file t. reworded c.is_name.result (c.is_name.ensures file t) (λ e. (c.is_printed.ensures.0 c.if-not-is_printed.false, e)) (λ p. p.1)
