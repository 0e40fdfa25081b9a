use Rattle.std.proofs.Common.{◌≡◌, ◌-◌, length}
use Rattle.wy_verify.proofs.Jumping.{AreFirstFrom}
use Rattle.wy_verify.proofs.targets.Targets.new.Given as goal

abbrev pub invariant-loop-index : goal.invariant-loop-index
invariant-loop-index l = record {
  long : length l.targets ≡ l.count;
  first : AreFirstFrom l.targets l.bounds.targets (l.many - l.index);
}
