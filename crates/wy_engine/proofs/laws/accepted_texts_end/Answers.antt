use Rattle.wy_engine.proofs.CompletenessLaws.{runs_end, writes_end}
use Rattle.wy_engine.proofs.laws.accepted_texts_end.Goals as goal

pub returns : goal.returns
returns c = record {
  runs = runs_end c.resolved_is_core.ensures c.certificates_have_one_size.ensures c.spent_takes_all.ensures c.accepted_run_as_meant.ensures;
  writes = writes_end c.resolved_is_core.ensures c.certificates_have_one_size.ensures;
}
