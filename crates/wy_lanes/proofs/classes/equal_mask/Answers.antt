use Rattle.std.proofs.Common.{nat_eq, arith, w8}
use Rattle.std.proofs.lemmas.Simd.{bitmask_splat}
use Rattle.wy_lanes.proofs.classes.equal_mask.Goals as goal

pub returns : goal.returns
returns c = bitmask_splat w8 nat_eq c.args.block 64 c.args.byte c.fits-block.0 (omega arith)
