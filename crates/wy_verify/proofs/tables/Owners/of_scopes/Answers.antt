use Rattle.std.proofs.Common.{[]}
use Rattle.wy_verify.proofs.tables.Owners.of_scopes.Goals as goal

pub returns : goal.returns
returns c = c.in_ok-add_scopes.ensures [] c.new-owners.ensures
