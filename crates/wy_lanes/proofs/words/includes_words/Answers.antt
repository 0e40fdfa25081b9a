use Rattle.std.proofs.Common.{◌*◌, ◌/◌, length, refl, arith}
use Rattle.std.proofs.lemmas.Bool.{false≢true}
use Rattle.std.proofs.lemmas.List.{take_rest}
use Rattle.wy_lanes.proofs.Blocks.{AllInside-chunk, AllInside-from_rest, AllInside-take_block, not_all}
use Rattle.wy_lanes.proofs.words.includes_words.Goals as goal

pub returns-then-not-is_block_inside : goal.returns-then-not-is_block_inside
returns-then-not-is_block_inside c =
    let inner = c.args.inner.now in
    let outer = c.args.outer.now in
    not_all inner outer (λ all. false≢true (c.if-not-is_block_inside.ensures.1 (AllInside-chunk (8 * c.loop-block.block) 8 inner outer all)))

pub loop-block-preserved : goal.loop-block-preserved
loop-block-preserved c = AllInside-take_block c.loop-block.block c.args.inner.now c.args.outer.now c.loop-block.invariant (c.if-not-is_block_inside.ensures.0 refl)

pub returns : goal.returns
returns c =
    let inner = c.args.inner.now in
    let outer = c.args.outer.now in
    let start = 8 * (length inner / 8) in
    AllInside-from_rest start (8 * c.loop-block.block) inner outer _ _ _ (omega arith) (take_rest inner start) (take_rest outer start) c.loop-block.invariant c.includes_singly.ensures
