use Rattle.std.proofs.Common.{take}
use Rattle.wy_image.specs.declared.typing.Target.{Target}
use Rattle.wy_text.specs.Members.{In}
use Rattle.wy_verified.specs.Ranges.{TargetInRange}
use Rattle.wy_verify.proofs.ranges.bounds.are_targets.Given as goal

abbrev pub invariant-loop-target : goal.invariant-loop-target
invariant-loop-target l = (x : Target) → In x (take l.target-index l.targets) → TargetInRange l.writer.file.now l.writer.instance l.writer.scope.now l.body l.vals x
