use Rattle.wy_verify.proofs.RangeTests.{reworded}
use Rattle.wy_verify.proofs.ranges.scopes.are_all_below.Goals as goal

pub returns : goal.returns
returns c = reworded c.are_below.result c.are_below.ensures (λ h. (c.if-numbers-count.false, h)) (λ p. p.1)
