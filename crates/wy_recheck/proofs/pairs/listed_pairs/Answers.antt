use Rattle.std.proofs.Common.{get_or, refl}
use Rattle.wy_cert.specs.declared.certificate.CertPair.{CertPair}
use Rattle.wy_recheck.proofs.ListedPairs.{gathered_more, gathered_all}
use Rattle.wy_recheck.proofs.pairs.listed_pairs.Goals as goal

pub loop-pair-preserved : goal.loop-pair-preserved
loop-pair-preserved c =
    let d : CertPair = record { left = 0; right = 0 } in
    gathered_more c.args.types.now c.args.pairs.now c.loop-pair.pair-index c.loop-pair.set c.loop-pair.invariant d (get_or c.args.pairs.now c.loop-pair.pair-index d) c.loop-pair-test.true refl c.add_pair.new.set c.in_ok-add_pair.ensures

pub returns : goal.returns
returns c = gathered_all c.args.types.now c.args.pairs.now c.loop-pair.pair-index c.loop-pair.set c.loop-pair.invariant c.loop-pair-test.false
