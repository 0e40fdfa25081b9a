use Rattle.std.proofs.Common.{◌≡◌, drop, true, false}
use Rattle.wy_types.specs.Program.{program_of}
use Rattle.wy_bounds.specs.Matrix.{no_effects, side_of}
use Rattle.wy_bounds.proofs.matrix.Matrix.build.Given as goal

abbrev pub invariant-loop-entry : goal.invariant-loop-entry
invariant-loop-entry l =
    (side_of (program_of l.core) l.scope true (drop l.entry-index l.entry-items) l.positive ≡ side_of (program_of l.core) l.scope true l.entry-items no_effects) ×
    (side_of (program_of l.core) l.scope false (drop l.entry-index l.entry-items) l.negative ≡ side_of (program_of l.core) l.scope false l.entry-items no_effects)
