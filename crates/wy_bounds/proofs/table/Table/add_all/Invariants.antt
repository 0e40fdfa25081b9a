use Rattle.std.proofs.Common.{List}
use Rattle.std.specs.Vec.Iter.{into_iter_items}
use Rattle.wy_bounds.specs.declared.entry.Entry.{Entry}
use Rattle.wy_bounds.specs.Table.{AreAdded}
use Rattle.wy_bounds.proofs.table.Table.add_all.Given as goal

abbrev pub invariant-loop-entry : goal.invariant-loop-entry
invariant-loop-entry l = (new : List Entry) → AreAdded l.self (into_iter_items l.entry-iterator) new → AreAdded l.initial.self l.fn.entries.items new
