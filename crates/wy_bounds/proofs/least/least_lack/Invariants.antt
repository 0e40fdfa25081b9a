use Rattle.std.proofs.Common.{◌≡◌, drop, None}
use Rattle.wy_types.specs.Program.{program_of}
use Rattle.wy_bounds.specs.Gathering.{lack_of_entries}
use Rattle.wy_bounds.proofs.least.least_lack.Given as goal

abbrev pub invariant-loop-at : goal.invariant-loop-at
invariant-loop-at l =
    lack_of_entries (program_of l.core) l.scope l.positive l.set l.at (drop l.at l.entries) l.least ≡
    lack_of_entries (program_of l.core) l.scope l.positive l.set 0 l.entries None
