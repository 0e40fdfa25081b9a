use Rattle.std.proofs.Common.{subst}
use Rattle.wy_verified.specs.Kinds.{MethodType}
use Rattle.wy_verify.specs.Effects.{AreSmall}
use Rattle.wy_verify.proofs.Finding.{small_found}
use Rattle.wy_verify.proofs.methods.FoundMethod.effect_set.Goals as goal

pub returns-in-Listed-clause-small : goal.returns-in-Listed-clause-small
returns-in-Listed-clause-small c = subst (λ (t : MethodType). AreSmall t.effect) c.self.view_is (small_found c.self.inside.found c.self.invariant)

pub returns-in-Stated-clause-small : goal.returns-in-Stated-clause-small
returns-in-Stated-clause-small c = subst (λ (t : MethodType). AreSmall t.effect) c.self.view_is (small_found c.self.inside.found c.self.invariant)
