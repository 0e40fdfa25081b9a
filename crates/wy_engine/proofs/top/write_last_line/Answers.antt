use Rattle.wy_engine.proofs.LinesClosed.{begun_of_told, closes_untold, on_error}
use Rattle.wy_engine.proofs.top.write_last_line.Goals as goal

pub returns-in_err-end_report-in-Err-clause-starved : goal.returns-in_err-end_report-in-Err-clause-starved
returns-in_err-end_report-in-Err-clause-starved g c = on_error _ (closes_untold _ _ _ _ c.in_err-end_report-in-Err.ensures.starved)

pub returns-in_ok-end_report-in-Err-clause-starved : goal.returns-in_ok-end_report-in-Err-clause-starved
returns-in_ok-end_report-in-Err-clause-starved g c = closes_untold _ _ _ _ (begun_of_told _ _ _ c.in_ok-end_report-in-Err.ensures.told)
