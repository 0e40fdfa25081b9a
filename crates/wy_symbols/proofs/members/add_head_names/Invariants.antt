use Rattle.std.proofs.Common.{◌≡◌, ◌++◌, drop}
use Rattle.wy_symbols.specs.Atoms.{head_names}
use Rattle.wy_symbols.proofs.members.add_head_names.Given as goal

abbrev pub invariant-loop-head : goal.invariant-loop-head
invariant-loop-head l = l.names.items ++ head_names (drop l.head-index l.heads) ≡ l.initial.names.items ++ head_names l.heads
