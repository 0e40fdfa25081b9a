use Rattle.std.proofs.Common.{take}
use Rattle.std.proofs.Common.{List}
use Rattle.wy_image.specs.declared.typing.Signature.{Signature}
use Rattle.wy_text.specs.Members.{In}
use Rattle.wy_verified.specs.Ranges.{TypeInRange}
use Rattle.wy_verify.proofs.ranges.types.are_types.Given as goal

abbrev pub invariant-loop-listed : goal.invariant-loop-listed
invariant-loop-listed l = (x : List Signature) → In x (take l.listed-index l.types) → TypeInRange l.file x
