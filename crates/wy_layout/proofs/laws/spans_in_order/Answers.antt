use Rattle.wy_layout.proofs.SpanOrder.{spans_are}
use Rattle.wy_layout.proofs.laws.spans_in_order.Goals as goal

pub returns : goal.returns
returns c = spans_are
