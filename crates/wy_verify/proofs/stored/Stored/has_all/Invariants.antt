use Rattle.std.proofs.Common.{take}
use Rattle.wy_text.specs.Members.{Within}
use Rattle.wy_verify.proofs.stored.Stored.has_all.Given as goal

abbrev pub invariant-loop-index : goal.invariant-loop-index
invariant-loop-index l = Within (take l.index l.slots) l.self
