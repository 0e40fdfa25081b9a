use Rattle.std.proofs.Common.{take}
use Rattle.wy_image.specs.declared.typing.Reference.{Reference}
use Rattle.wy_text.specs.Members.{In}
use Rattle.wy_verified.specs.Ranges.{IsPlain}
use Rattle.wy_verify.proofs.ranges.references.are_plain.Given as goal

abbrev pub invariant-loop-reference : goal.invariant-loop-reference
invariant-loop-reference l = (x : Reference) → In x (take l.reference-index l.references) → IsPlain l.file x
