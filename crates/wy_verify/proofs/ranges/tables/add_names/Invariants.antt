use Rattle.std.proofs.Common.{◌≡◌, ℕ, nat_eq, take}
use Rattle.indexmap.specs.IndexMap.{get}
use Rattle.wy_verified.specs.Kinds.{stated_in}
use Rattle.wy_verify.specs.RangeParts.{or_other, stated_name}
use Rattle.wy_verify.proofs.ranges.tables.add_names.Given as goal

abbrev pub invariant-loop-bounds : goal.invariant-loop-bounds
invariant-loop-bounds l = (b : ℕ) → get nat_eq l.names b ≡ or_other (get nat_eq l.fn.names b) (stated_name (stated_in b (take l.bounds-index l.bodies)))
