use Rattle.wy_verify.proofs.methods.FoundMethod.is_within.Goals as goal

pub returns : goal.returns
returns c = c.has_all.ensures c.args.self.now.effect c.effect_set.ensures.numbers c.effect_set.ensures.small
