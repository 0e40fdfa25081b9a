use Rattle.wy_verify.specs.Judging.{operation_numbers}
use Rattle.std.proofs.Common.{◌++◌}
use Rattle.wy_verify.proofs.Walks.{numbers_step}
use Rattle.wy_verify.proofs.granted.add_numbers.Goals as goal

pub loop-at-preserved : goal.loop-at-preserved
loop-at-preserved c =
    numbers_step c.args.first c.loop-at.at c.in_ok-number_behind.field-0 c.loop-at.granted c.add_number.new.granted c.args.names.now c.item_at.result.now
    (c.args.granted.now ++ operation_numbers c.args.first c.args.names.now) c.item_at.ensures c.in_ok-number_behind.ensures c.in_ok-add_number.ensures c.loop-at.invariant
