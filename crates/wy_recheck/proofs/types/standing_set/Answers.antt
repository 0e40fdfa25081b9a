use Rattle.std.proofs.Common.{get_or, refl}
use Rattle.wy_recheck.proofs.Atoms.{listing_more}
use Rattle.wy_recheck.proofs.types.standing_set.Goals as goal

pub loop-number-preserved : goal.loop-number-preserved
loop-number-preserved c =
    listing_more c.args.atoms c.args.listed.now c.loop-number.number-index c.loop-number.least c.loop-number.set c.loop-number.invariant (get_or c.args.listed.now c.loop-number.number-index 0) c.loop-number-test.true refl
    c.if-atom-least.false c.if-atom-atoms.false c.insert.new.self c.in_ok-insert.ensures.ok
