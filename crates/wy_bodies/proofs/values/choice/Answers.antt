use Rattle.wy_types.proofs.Rows.{value_if}
use Rattle.wy_bodies.proofs.values.choice.Goals as goal

pub returns : goal.returns
returns c = value_if c.args.place c.args.test c.args.first c.args.second
