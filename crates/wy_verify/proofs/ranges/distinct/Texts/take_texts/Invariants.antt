use Rattle.std.proofs.Common.{take}
use Rattle.std.proofs.Common.{ℕ, List}
use Rattle.wy_verify.proofs.RangeLists.{IsMet}
use Rattle.wy_verify.proofs.ranges.distinct.Texts.take_texts.Given as goal

abbrev pub invariant-loop-text : goal.invariant-loop-text
invariant-loop-text l = IsMet (λ (t : List ℕ). t) l.fn.self (take l.text-index l.texts) l.self
