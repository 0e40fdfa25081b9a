use Rattle.std.proofs.Common.{ap}
use Rattle.wy_types.specs.Code as plain
use Rattle.wy_types.proofs.Rows.{expr_call}
use Rattle.wy_bodies.proofs.values.call.Goals as goal

pub returns : goal.returns
returns c = ap plain.Plain (expr_call c.args.place c.args.receiver c.args.name c.args.values)
