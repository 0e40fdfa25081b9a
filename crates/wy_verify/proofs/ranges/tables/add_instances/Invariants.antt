use Rattle.std.proofs.Common.{◌≡◌, ℕ, nat_eq, map, take}
use Rattle.indexmap.specs.IndexMap.{get}
use Rattle.wy_image.specs.declared.file.Instance.{Instance}
use Rattle.wy_verify.specs.RangeParts.{or_other, first_name}
use Rattle.wy_verify.proofs.ranges.tables.add_instances.Given as goal

abbrev pub invariant-loop-instance : goal.invariant-loop-instance
invariant-loop-instance l = (b : ℕ) → get nat_eq l.names b ≡ or_other (get nat_eq l.fn.names b) (first_name b (map (λ (i : Instance). i.typing) (take l.instance-index l.instances)))
