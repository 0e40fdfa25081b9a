use Rattle.std.proofs.Common.{◌≡◌, drop, map}
use Rattle.wy_types.specs.Types.{signature}
use Rattle.wy_types.specs.Program.{program_of}
use Rattle.wy_bounds.specs.Gathering.{wide_of}
use Rattle.wy_bounds.specs.Matrix.{with_effects}
use Rattle.wy_bounds.proofs.matrix.Side.add_all.Given as goal

abbrev pub invariant-loop-m : goal.invariant-loop-m
invariant-loop-m l = with_effects (wide_of (program_of l.core) l.scope) (map signature (drop l.m-index l.methods)) l.self ≡ with_effects (wide_of (program_of l.core) l.scope) (map signature l.methods) l.initial.self
