use Rattle.std.proofs.Common.{List, drop}
use Rattle.wy_subtype.specs.declared.entry.Entry.{Entry}
use Rattle.wy_subtype.specs.Work.{AreAdded}
use Rattle.wy_subtype.proofs.work.Work.add_all.Given as goal

abbrev pub invariant-loop-node : goal.invariant-loop-node
invariant-loop-node l = (new : List Entry) → AreAdded l.self (drop l.node-index l.nodes) l.parent new → AreAdded l.initial.self l.nodes l.parent new
