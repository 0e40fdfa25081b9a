use Rattle.std.proofs.Common.{◌≡◌, ◌-◌, drop}
use Rattle.wy_verify.proofs.stored.Stored.assign.Given as goal

abbrev pub invariant-loop-index : goal.invariant-loop-index
invariant-loop-index l = l.self ≡ drop (l.count - l.index) l.slots
