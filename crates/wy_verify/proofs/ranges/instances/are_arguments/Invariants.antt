use Rattle.std.proofs.Common.{take}
use Rattle.wy_image.specs.declared.file.Argument.{Argument}
use Rattle.wy_text.specs.Members.{In}
use Rattle.wy_verified.specs.Ranges.{ArgumentInRange}
use Rattle.wy_verify.proofs.ranges.instances.are_arguments.Given as goal

abbrev pub invariant-loop-argument : goal.invariant-loop-argument
invariant-loop-argument l = (x : Argument) → In x (take l.argument-index l.arguments) → ArgumentInRange l.file l.number x
