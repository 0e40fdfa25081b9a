use Rattle.std.proofs.Common.{ap}
use Rattle.wy_types.specs.Code as plain
use Rattle.wy_types.proofs.Rows.{expr_text_call}
use Rattle.wy_bodies.proofs.values.text_call.Goals as goal

pub returns : goal.returns
returns c = ap plain.Plain (expr_text_call c.args.place c.args.operator c.args.values)
