use Rattle.std.proofs.Common.{take}
use Rattle.wy_image.specs.declared.file.Instance.{Instance}
use Rattle.wy_verify.proofs.RangeLists.{IsMet}
use Rattle.wy_verify.proofs.ranges.distinct.Texts.take_instances.Given as goal

abbrev pub invariant-loop-instance : goal.invariant-loop-instance
invariant-loop-instance l = IsMet (λ (i : Instance). i.name) l.fn.self (take l.instance-index l.instances) l.self
