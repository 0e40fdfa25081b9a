use Rattle.std.proofs.Common.{[]}
use Rattle.wy_verify.proofs.tables.Places.of_typings.Goals as goal

pub returns : goal.returns
returns c = c.in_ok-add_typings.ensures [] c.new-places.ensures
