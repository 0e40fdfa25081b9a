use Rattle.wy_meaning.proofs.Bounding.{said_of_each_deed}
use Rattle.wy_meaning.proofs.laws.bounded_is_said_of_each_deed.Goals as goal

pub returns : goal.returns
returns c = said_of_each_deed
