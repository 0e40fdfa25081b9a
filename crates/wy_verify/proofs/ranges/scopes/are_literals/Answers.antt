use Rattle.std.proofs.Common.{◌↔◌, IsTrue, List, subst}
use Rattle.wy_image.specs.declared.file.Literal.{Literal}
use Rattle.wy_image.specs.declared.file.Entry.{Entry}
use Rattle.wy_verified.specs.Ranges.{EntriesInRange}
use Rattle.wy_verify.proofs.RangeTests.{item_fails, item_more, none_fails}
use Rattle.wy_verify.proofs.ranges.scopes.are_literals.Goals as goal

pub returns-then-not-fits : goal.returns-then-not-fits
returns-then-not-fits c =
    item_fails ((λ (x : Literal). EntriesInRange c.args.file.now x.entries)) c.args.literals.now c.loop-literal.literal-index c.literal-item.result _ c.loop-literal-test.true c.literal-item.is c.if-not-fits.true
    (subst (λ (t : List Entry). IsTrue c.in_ok-fits.fits ↔ EntriesInRange c.args.file.now t) c.as_slice.ensures c.in_ok-fits.ensures)

pub loop-literal-preserved : goal.loop-literal-preserved
loop-literal-preserved c =
    item_more ((λ (x : Literal). EntriesInRange c.args.file.now x.entries)) c.args.literals.now c.loop-literal.literal-index c.literal-item.result _ c.loop-literal-test.true c.literal-item.is c.loop-literal.invariant c.if-not-fits.false
    (subst (λ (t : List Entry). IsTrue c.in_ok-fits.fits ↔ EntriesInRange c.args.file.now t) c.as_slice.ensures c.in_ok-fits.ensures)

pub returns : goal.returns
returns c = none_fails ((λ (x : Literal). EntriesInRange c.args.file.now x.entries)) c.args.literals.now c.loop-literal.literal-index c.loop-literal-test.false c.loop-literal.invariant
