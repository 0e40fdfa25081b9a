use Rattle.std.proofs.Common.{◌≡◌, map, take}
use Rattle.wy_verified.specs.CodeOf.{argument_of}
use Rattle.wy_verify.proofs.coding.units.arguments_of.Given as goal

abbrev pub invariant-loop-argument : goal.invariant-loop-argument
invariant-loop-argument l = l.list ≡ map argument_of (take l.argument-index l.arguments)
