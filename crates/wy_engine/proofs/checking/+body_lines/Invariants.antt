use Rattle.std.proofs.Common.{length}
use Rattle.wy_engine.proofs.checking.+body_lines.Given as goal

abbrev pub decreases-body_lines : goal.decreases-body_lines
decreases-body_lines l = length l.rows.now
