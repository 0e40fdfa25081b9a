use Rattle.std.proofs.Common.{◌≡◌, ◌∙◌, ap, Some, rules}
use Rattle.wy_effects.specs.Widened.{with_bounded}
use Rattle.wy_effects.proofs.Widening.{with_inside, with_outside}
use Rattle.wy_effects.proofs.set.EffSet.add_bounded.Goals as goal

pub returns-then-includes : goal.returns-then-includes
returns-then-includes c =
    let there : Some c.in-Some.bound ≡ c.args.bound.now = search rules in
    c.add.ensures ∙ with_inside c.args.atom c.in-Some.bound c.args.self.now c.includes.result c.includes.ensures (search rules) ∙ ap (λ o. with_bounded c.args.atom o c.args.self.now) there

pub returns-else-includes : goal.returns-else-includes
returns-else-includes c =
    let there : Some c.in-Some.bound ≡ c.args.bound.now = search rules in
    with_outside c.args.atom c.in-Some.bound c.args.self.now c.includes.result c.includes.ensures (search rules) ∙ ap (λ o. with_bounded c.args.atom o c.args.self.now) there
