use Rattle.std.proofs.Common.{◌*◌, ◌/◌, sym, length, arith}
use Rattle.std.proofs.lemmas.List.{take_rest}
use Rattle.wy_lanes.proofs.Blocks.{united_block, united_rest, united_to-zero}
use Rattle.wy_lanes.proofs.words.union_words.Goals as goal

pub loop-block-init : goal.loop-block-init
loop-block-init c = sym (united_to-zero c.args.into.now c.args.from.now)

pub loop-block-preserved : goal.loop-block-preserved
loop-block-preserved c =
    united_block c.loop-block.block c.args.into.now c.args.from.now c.loop-block.into c.union_block.new.into c.requires c.loop-block.invariant c.union_block.ensures

pub returns : goal.returns
returns c =
    let start = 8 * (length c.args.into.now / 8) in
    united_rest start (8 * c.loop-block.block) c.args.into.now c.args.from.now c.loop-block.into c.union_singly.new.into _ _ c.requires (omega arith) c.loop-block.invariant
    (take_rest c.loop-block.into start) (take_rest c.args.from.now start) c.union_singly.ensures
