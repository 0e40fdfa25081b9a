use Rattle.std.proofs.Common.{map, take}
use Rattle.wy_subtype.specs.Unfolding.{sides}
use Rattle.wy_certify.specs.Closed.{all_looked_up, pairs_in, IsKept, IsGrown}
use Rattle.wy_certify.proofs.closing.Work.add_unfolded.Given as goal

abbrev pub invariant-loop-pair : goal.invariant-loop-pair
invariant-loop-pair l = record {
  kept : IsKept l.self;
  grown : IsGrown (all_looked_up l.mode (map sides (take l.pair-index l.asked))) (pairs_in l.initial.self) (pairs_in l.self);
}
