use Rattle.std.proofs.Common.{◌≡◌, take}
use Rattle.wy_heads.specs.Leading.{Adds}
use Rattle.wy_heads.proofs.marked.Marked.add_all.Given as goal

abbrev pub invariant-loop-number : goal.invariant-loop-number
invariant-loop-number l = record {
  bound : l.self.below ≡ l.initial.self.below;
  added : Adds l.initial.self.list (take l.number-index l.numbers) l.self.list;
}
