use Rattle.std.proofs.Common.{take}
use Rattle.wy_image.specs.declared.typing.Signature.{Signature}
use Rattle.wy_text.specs.Members.{In}
use Rattle.wy_verified.specs.Ranges.{SignatureInRange}
use Rattle.wy_verify.proofs.ranges.types.are_signatures.Given as goal

abbrev pub invariant-loop-signature : goal.invariant-loop-signature
invariant-loop-signature l = (x : Signature) → In x (take l.signature-index l.signatures) → SignatureInRange l.file x
