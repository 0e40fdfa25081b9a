use Rattle.wy_engine.proofs.TextsTold.{texts_told}
use Rattle.wy_engine.proofs.laws.texts_are_told.Goals as goal

pub returns : goal.returns
returns c = texts_told c.resolved_is_core.ensures c.certificates_have_one_size.ensures
