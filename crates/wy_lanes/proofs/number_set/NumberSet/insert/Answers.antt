use Rattle.std.proofs.Common.{ap, ◌∙◌}
use Rattle.wy_lanes.specs.Numbers.{with_number}
use Rattle.wy_lanes.proofs.NumbersOf.{numbers_of-set}
use Rattle.wy_lanes.proofs.number_set.NumberSet.insert.Goals as goal

pub returns : goal.returns
returns c = numbers_of-set c.self.inside.words c.args.number c.self.told c.requires ∙ ap (with_number c.args.number) c.self.view_is
