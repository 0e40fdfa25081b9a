use Rattle.wy_meaning.proofs.Extending.{meaning_extends}
use Rattle.wy_meaning.proofs.laws.answers_extend_only.Goals as goal

pub returns : goal.returns
returns c = meaning_extends
