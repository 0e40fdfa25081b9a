use Rattle.std.proofs.Common.{ap, ap₂, ◌∙◌}
use Rattle.wy_lanes.specs.Numbers.{numbers_of, union_numbers}
use Rattle.wy_lanes.proofs.NumbersOf.{numbers_of-union_of}
use Rattle.wy_lanes.proofs.number_set.NumberSet.unite.Goals as goal

pub returns : goal.returns
returns c =
    ap numbers_of c.union_words.ensures ∙ numbers_of-union_of c.self.inside.words c.other.inside.words c.self.told c.other.told ∙ ap₂ union_numbers c.other.view_is c.self.view_is
