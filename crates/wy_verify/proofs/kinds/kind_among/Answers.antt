use Rattle.std.proofs.Common.{sym}
use Rattle.wy_verify.proofs.Reading.{none_written}
use Rattle.wy_verify.proofs.kinds.kind_among.Goals as goal

pub returns : goal.returns
returns c = sym (none_written c.args.x c.args.references.now c.args.at c.if-at-references.false)
