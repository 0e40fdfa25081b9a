use Rattle.std.proofs.Common.{take}
use Rattle.wy_image.specs.declared.typing.Bounds.{Bounds}
use Rattle.wy_text.specs.Members.{In}
use Rattle.wy_verify.specs.RangeParts.{BoundsFit}
use Rattle.wy_verify.proofs.ranges.bounds.fit_their_bodies.Given as goal

abbrev pub invariant-loop-bounds : goal.invariant-loop-bounds
invariant-loop-bounds l = (x : Bounds) → In x (take l.bounds-index l.bodies) → BoundsFit l.writer.file.now l.writer.instance l.writer.scope.now x
