use Rattle.std.proofs.Common.{◌≡◌, drop, map}
use Rattle.wy_types.specs.Program.{program_of}
use Rattle.wy_types.specs.Types.{signature}
use Rattle.wy_bounds.specs.Gathering.{wide_of, lack_of_methods}
use Rattle.wy_bounds.proofs.least.with_methods.Given as goal

abbrev pub invariant-loop-m : goal.invariant-loop-m
invariant-loop-m l = lack_of_methods (wide_of (program_of l.core) l.scope) l.set l.at (map signature (drop l.m-index l.methods)) l.least ≡ lack_of_methods (wide_of (program_of l.core) l.scope) l.set l.at (map signature l.methods) l.fn.lack
