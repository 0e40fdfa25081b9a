use Rattle.std.proofs.Common.{◌≡◌, ◌∙◌, sym, ap, subst}
use Rattle.wy_effects.specs.Bounds.{IsWidened}
use Rattle.wy_effects.specs.Widened.{widened_from, widened_set}
use Rattle.wy_effects.proofs.Walks.{drop_none}
use Rattle.wy_effects.proofs.Widening.{widened_is}
use Rattle.wy_effects.proofs.set.EffSet.widened.Goals as goal

pub returns-clause-exact : goal.returns-clause-exact
returns-clause-exact c down =
    let bounds = c.args.bounds.now in
    let self = c.args.self.now in
    let past = drop_none bounds c.loop-atom.atom c.loop-atom-test.false in
    let is : widened_set bounds self ≡ c.loop-atom.wide = sym c.loop-atom.invariant ∙ ap (λ l. widened_from c.loop-atom.atom l c.loop-atom.wide) past in
    subst (λ l. IsWidened bounds self l) is (widened_is bounds down self)
