use Rattle.std.proofs.Common.{◌≡◌, drop}
use Rattle.wy_lower.specs.Parts.{each_once_after}
use Rattle.wy_lower.proofs.entries.put_names.Given as goal

abbrev pub invariant-loop-name : goal.invariant-loop-name
invariant-loop-name l = each_once_after l.table.keys (drop l.name-index l.names) ≡ each_once_after l.initial.table.keys l.names
