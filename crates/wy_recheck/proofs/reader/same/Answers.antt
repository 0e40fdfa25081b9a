use Rattle.std.proofs.Common.{◌≡◌}
use Rattle.wy_rules.specs.Canonical.{same_type}
use Rattle.wy_rules.proofs.SameTypes.{types_are_told_apart}
use Rattle.wy_recheck.proofs.NodesTested.{same_answer}
use Rattle.wy_recheck.proofs.reader.same.Goals as goal

pub returns : goal.returns
returns c = same_answer c.same.result (same_type c.args.left.now c.args.right.now) (c.args.left.now ≡ c.args.right.now) c.same.ensures (types_are_told_apart c.args.left.now c.args.right.now)
