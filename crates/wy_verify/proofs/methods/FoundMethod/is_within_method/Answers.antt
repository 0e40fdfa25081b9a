use Rattle.std.proofs.Common.{refl}
use Rattle.wy_verify.proofs.EffectSets.{within_sets}
use Rattle.wy_verify.proofs.methods.FoundMethod.is_within_method.Goals as goal

pub returns : goal.returns
returns c =
    within_sets c.includes.result c.effect_set-2.result c.effect_set.result c.args.self.now.effect c.args.other.now.effect c.args.other.now.effect
    c.effect_set-2.ensures.numbers c.effect_set.ensures.numbers c.effect_set-2.ensures.small c.effect_set.ensures.small refl c.includes.ensures
