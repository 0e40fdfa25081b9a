use Rattle.std.proofs.Common.{map, take}
use Rattle.wy_subtype.specs.Unfolding.{sides}
use Rattle.wy_subtype.specs.Nodes.{node_pair, AreMore, AreNumbersOf}
use Rattle.wy_subtype.proofs.nodes.Nodes.numbers_of.Given as goal

abbrev pub invariant-loop-pair : goal.invariant-loop-pair
invariant-loop-pair l = record {
  more : AreMore l.initial.self l.self;
  numbers : AreNumbersOf (map node_pair l.self) (map sides (take l.pair-index l.asked)) l.numbers;
}
