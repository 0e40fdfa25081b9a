use Rattle.wy_verify.proofs.EffectSets.{within_sets}
use Rattle.wy_verify.proofs.effects.Effect.has_all.Goals as goal

pub returns : goal.returns
returns c = λ xs e small. within_sets c.includes.result c.args.set.now c.self.inside.set xs c.self.inside.atoms.now c.args.self.now e c.self.invariant.0 small c.self.invariant.1 c.self.view_is c.includes.ensures
