use Rattle.std.proofs.Common.{◌≡◌, map, take}
use Rattle.wy_image.specs.declared.typing.Signature.{Signature}
use Rattle.wy_verify.proofs.ranges.types.names_of.Given as goal

abbrev pub invariant-loop-signature : goal.invariant-loop-signature
invariant-loop-signature l = l.names.items ≡ map (λ (g : Signature). g.method) (take l.signature-index l.signatures)
