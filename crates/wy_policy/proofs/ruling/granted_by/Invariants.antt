use Rattle.std.proofs.Common.{◌≡◌, take}
use Rattle.std.specs.List.{list_any}
use Rattle.wy_text.specs.declared.fault.AtomName.{AtomName}
use Rattle.wy_policy.specs.Allowed.{entry_allows}
use Rattle.wy_policy.specs.Judging.{grants}
use Rattle.wy_policy.proofs.ruling.granted_by.Given as goal

abbrev pub invariant-loop-entry : goal.invariant-loop-entry
invariant-loop-entry l = (atom : AtomName) → grants l.granted atom ≡ list_any (entry_allows atom) (take l.entry-index l.entries)
