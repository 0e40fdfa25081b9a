use Rattle.std.proofs.Common.{ap}
use Rattle.wy_types.specs.Code as plain
use Rattle.wy_types.proofs.Rows.{expr_new}
use Rattle.wy_bodies.proofs.values.object.Goals as goal

pub returns : goal.returns
returns c = ap plain.Plain (expr_new c.args.place c.args.literal c.args.values)
