use Rattle.std.proofs.Common.{◌≡◌, map, take}
use Rattle.wy_certify.specs.Parts.{said}
use Rattle.wy_certify.proofs.certifying.numbered.Given as goal

abbrev pub invariant-loop-part : goal.invariant-loop-part
invariant-loop-part l = l.certificate ≡ map said (take l.part-index l.parts)
