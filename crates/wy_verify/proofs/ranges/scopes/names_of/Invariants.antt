use Rattle.std.proofs.Common.{◌≡◌, map, take}
use Rattle.wy_image.specs.declared.file.Entry.{Entry}
use Rattle.wy_verify.proofs.ranges.scopes.names_of.Given as goal

abbrev pub invariant-loop-entry : goal.invariant-loop-entry
invariant-loop-entry l = l.names.items ≡ map (λ (m : Entry). m.method) (take l.entry-index l.entries)
