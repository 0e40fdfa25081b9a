use Rattle.std.proofs.Common.{◌<◌, ◌∙◌, ap, map}
use Rattle.wy_effects.specs.declared.atom.Atom.{Atom}
use Rattle.wy_text.proofs.Lists.{each_more, each_all}
use Rattle.wy_core_tests.proofs.RangeLemmas.{set_below}
use Rattle.wy_core_tests.proofs.ranges.set_fits.Goals as goal

pub loop-atom-preserved : goal.loop-atom-preserved
loop-atom-preserved c =
    let P : Atom → Type 0 = λ a. a.0 < c.args.number in
    each_more P c.deref-atom-items.result.now c.loop-atom.atom-index _ c.loop-atom-test.true c.loop-atom.invariant c.if-atom-number.false

pub returns : goal.returns
returns c = λ _.
    let P : Atom → Type 0 = λ a. a.0 < c.args.number in
    set_below c.args.number c.args.set.now c.deref-atom-items.result.now c.is_set.ensures (ap (map (λ a. a.0)) c.deref-atom-items.ensures.value ∙ c.in_ok-atoms.ensures)
    (each_all P c.deref-atom-items.result.now c.loop-atom.atom-index c.loop-atom-test.false c.loop-atom.invariant)
