use Rattle.std.proofs.Common.{◌≡◌, map, take}
use Rattle.wy_lower.specs.Lowering.{argument_of}
use Rattle.wy_lower.proofs.starting.arguments_of.Given as goal

abbrev pub invariant-loop-actual : goal.invariant-loop-actual
invariant-loop-actual l = l.arguments ≡ map argument_of (take l.actual-index l.actuals)
