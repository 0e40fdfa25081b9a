use Rattle.wy_effects.proofs.Numbers.{union_is}
use Rattle.wy_effects.proofs.set.EffSet.union_into.Goals as goal

pub returns-clause-ok : goal.returns-clause-ok
returns-clause-ok c = rw (c.unite.ensures, c.self.view_is, c.target.view_is) (union_is c.args.self.now c.args.target.now)
