use Rattle.std.proofs.Common.{List, refl}
use Rattle.wy_certify.specs.declared.pair.TypePair.{TypePair}
use Rattle.wy_certify.specs.Pair.{pair_of}
use Rattle.wy_certify.specs.Pair.{pair_of}
use Rattle.wy_recheck.specs.Closing.{looked_up}
use Rattle.wy_certify.specs.Closed.{pairs_in}
use Rattle.wy_certify.proofs.PairsMet.{grown_next}
use Rattle.wy_certify.proofs.closing.Work.add_asked.Goals as goal

pub loop-pair-preserved : goal.loop-pair-preserved
loop-pair-preserved c =
    let xs : List TypePair = c.args.asked.now in
    record {
      kept = c.in_ok-add.ensures.kept;
      grown = grown_next pair_of c.args.mode xs c.loop-pair.pair-index c.pair-item.result c.loop-pair-test.true c.pair-item.is (pairs_in c.args.self.now) (pairs_in c.loop-pair.self) (pairs_in c.add.new.self)
          c.loop-pair.invariant.grown (looked_up c.args.mode (pair_of c.pair-item.result)) refl c.in_ok-add.ensures.grown;
    }
