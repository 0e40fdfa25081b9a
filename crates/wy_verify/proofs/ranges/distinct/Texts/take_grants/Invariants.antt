use Rattle.std.proofs.Common.{take}
use Rattle.wy_image.specs.declared.file.Grant.{Grant}
use Rattle.wy_verify.proofs.RangeLists.{IsMet}
use Rattle.wy_verify.proofs.ranges.distinct.Texts.take_grants.Given as goal

abbrev pub invariant-loop-grant : goal.invariant-loop-grant
invariant-loop-grant l = IsMet (λ (g : Grant). g.name) l.fn.self (take l.grant-index l.grants) l.self
