use Rattle.std.proofs.Common.{take}
use Rattle.wy_verify.specs.Closing.{IsCovered}
use Rattle.wy_verify.specs.Judging.{kind_numbers}
use Rattle.wy_verify.proofs.pairs.Pairs.cover_all.Given as goal

abbrev pub invariant-loop-at : goal.invariant-loop-at
invariant-loop-at l = IsCovered l.judged l.left l.right (take l.at (kind_numbers l.judged l.right)) l.initial.self l.self
