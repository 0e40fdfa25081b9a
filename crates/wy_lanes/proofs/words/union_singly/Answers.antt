use Rattle.std.proofs.Common.{◌∙◌, sym, arith}
use Rattle.wy_lanes.proofs.Blocks.{united_next, united_to-zero, united_to_all}
use Rattle.wy_lanes.proofs.words.union_singly.Goals as goal

pub loop-at-init : goal.loop-at-init
loop-at-init c = sym (united_to-zero c.args.into.now c.args.from.now)

pub loop-at-preserved : goal.loop-at-preserved
loop-at-preserved c = united_next c.loop-at.at c.args.into.now c.args.from.now c.loop-at.into c.requires c.loop-at.invariant

pub returns : goal.returns
returns c = c.loop-at.invariant ∙ united_to_all c.args.into.now c.args.from.now c.loop-at.at (omega arith) c.requires
