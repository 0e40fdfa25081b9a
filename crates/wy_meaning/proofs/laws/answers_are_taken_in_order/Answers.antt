use Rattle.wy_meaning.proofs.Taking.{meaning_takes}
use Rattle.wy_meaning.proofs.laws.answers_are_taken_in_order.Goals as goal

pub returns : goal.returns
returns c n p s tapes kind = meaning_takes n p s tapes kind
