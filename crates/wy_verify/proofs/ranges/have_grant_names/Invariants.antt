use Rattle.std.proofs.Common.{take}
use Rattle.wy_image.specs.declared.file.Grant.{Grant}
use Rattle.wy_text.specs.Members.{In}
use Rattle.wy_verified.specs.Ranges.{IsGrantName}
use Rattle.wy_verify.proofs.ranges.have_grant_names.Given as goal

abbrev pub invariant-loop-grant : goal.invariant-loop-grant
invariant-loop-grant l = (x : Grant) → In x (take l.grant-index l.grants) → (λ (g : Grant). IsGrantName g.name) x
