use Rattle.wy_meaning.proofs.UsedLemmas.{said_of_each_use}
use Rattle.wy_meaning.proofs.laws.used_is_said_of_each_deed.Goals as goal

pub returns : goal.returns
returns c = said_of_each_use
