use Rattle.std.proofs.Common.{arith, string_bytes}
use Rattle.wy_sample.specs.Sample.{later_instance}
use Rattle.wy_sample.proofs.Numbers.{none_written, one_written, all_written}
use Rattle.wy_sample.proofs.making.push_instances.Goals as goal

pub loop-number-init : goal.loop-number-init
loop-number-init c = none_written later_instance c.args.last (string_bytes c.args.text.now)

pub loop-number-preserved : goal.loop-number-preserved
loop-number-preserved c =
    one_written later_instance c.loop-number.number c.args.last (string_bytes c.loop-number.text) _ _ (omega (arith, c.loop-number-test.true)) c.loop-number.invariant c.in_ok-push_instance.ensures

pub returns : goal.returns
returns c = all_written later_instance c.loop-number.number c.args.last (string_bytes c.loop-number.text) _ (omega (arith, c.loop-number-test.false)) c.loop-number.invariant
