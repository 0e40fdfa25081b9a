use Rattle.wy_proving.proofs.ExactLists.{lists_are_exact}
use Rattle.wy_proving.proofs.laws.lists_are_exact.Goals as goal

pub returns : goal.returns
returns c = lists_are_exact
