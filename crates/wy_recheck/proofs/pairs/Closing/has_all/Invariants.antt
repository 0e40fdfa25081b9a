use Rattle.std.proofs.Common.{List, take}
use Rattle.wy_text.specs.Members.{In}
use Rattle.wy_subtype.specs.declared.unfolding.UnfoldedPair.{UnfoldedPair}
use Rattle.wy_subtype.specs.Unfolding.{sides}
use Rattle.wy_proving.specs.Certified.{Pair}
use Rattle.wy_recheck.specs.PairSet.{StandsFor}
use Rattle.wy_recheck.specs.Closing.{looked_up}
use Rattle.wy_recheck.proofs.pairs.Closing.has_all.Given as goal

abbrev pub invariant-loop-pair : goal.invariant-loop-pair
invariant-loop-pair l = (pairs : List Pair) → StandsFor l.self.listed.now pairs → (c : UnfoldedPair) → In c (take l.pair-index l.asked) → In {X = Pair} (looked_up l.self.mode (sides c)) pairs
