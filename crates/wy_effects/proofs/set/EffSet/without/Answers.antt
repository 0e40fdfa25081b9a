use Rattle.wy_effects.proofs.Numbers.{without_is}
use Rattle.wy_effects.proofs.set.EffSet.without.Goals as goal

pub returns : goal.returns
returns c = rw (c.without.ensures, c.self.view_is, c.other.view_is) (without_is c.args.self.now c.args.other.now)
