use Rattle.std.proofs.Common.{◌≡◌, map, drop}
use Rattle.wy_types.specs.Program.{scope_of}
use Rattle.wy_lower.specs.Parts.{each_once_after}
use Rattle.wy_lower.specs.Lowering.{entry_names}
use Rattle.wy_lower.proofs.entries.put_entries.Given as goal

abbrev pub invariant-loop-scope : goal.invariant-loop-scope
invariant-loop-scope l = each_once_after l.table.keys (entry_names (map scope_of (drop l.scope-index l.scopes))) ≡ each_once_after l.initial.table.keys (entry_names (map scope_of l.scopes))
