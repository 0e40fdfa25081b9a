use Rattle.wy_layout.proofs.OpenWidths.{one_out_for_each}
use Rattle.wy_layout.proofs.laws.one_out_for_each.Goals as goal

pub returns : goal.returns
returns c = one_out_for_each
