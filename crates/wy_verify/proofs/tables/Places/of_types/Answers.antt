use Rattle.std.proofs.Common.{[]}
use Rattle.wy_verify.proofs.tables.Places.of_types.Goals as goal

pub returns : goal.returns
returns c = c.in_ok-add_types.ensures [] c.new-places.ensures
