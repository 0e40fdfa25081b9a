use Rattle.std.proofs.Common.{rules}
use Rattle.wy_engine.proofs.Outcomes.{wrote_part}
use Rattle.wy_engine.proofs.writing.write_report_out.Goals as goal

pub returns-in-Err-Memory : goal.returns-in-Err-Memory
returns-in-Err-Memory g c = wrote_part _ _ _ (search rules)
