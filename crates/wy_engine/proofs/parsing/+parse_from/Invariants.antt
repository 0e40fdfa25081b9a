use Rattle.std.proofs.Common.{length}
use Rattle.wy_engine.proofs.parsing.+parse_from.Given as goal

abbrev pub decreases-parse_from : goal.decreases-parse_from
decreases-parse_from l = length l.texts.now
