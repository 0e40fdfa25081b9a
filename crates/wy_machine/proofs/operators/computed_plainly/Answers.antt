use Rattle.std.proofs.Common.{refl}
use Rattle.wy_device.specs.Operators.{operate_within}
use Rattle.wy_code.specs.declared.instruction.Operator.TheVariants as operator
use Rattle.wy_machine.proofs.Operating.{plainly_given}
use Rattle.wy_machine.proofs.operators.computed_plainly.Goals as goal

pub returns-in-Add : goal.returns-in-Add
unfolding operate_within
returns-in-Add c = plainly_given c.args.operator operator.Add c.in-Add.is refl c.args.stack.now.running.operands _ _ c.operand.ensures c.operand-in-Add.ensures _ (λ w. c.sum.ensures w) _ c.plain.ensures

pub returns-in-Subtract : goal.returns-in-Subtract
unfolding operate_within
returns-in-Subtract c = plainly_given c.args.operator operator.Subtract c.in-Subtract.is refl c.args.stack.now.running.operands _ _ c.operand-in-Subtract.ensures c.operand-in-Subtract-2.ensures _ (λ w. c.difference.ensures w) _ c.plain-in-Subtract.ensures

pub returns-in-Less : goal.returns-in-Less
unfolding operate_within
returns-in-Less c = plainly_given c.args.operator operator.Less c.in-Less.is refl c.args.stack.now.running.operands _ _ c.operand-in-Less.ensures c.operand-in-Less-2.ensures _ (λ w. c.less.ensures w) _ c.plain-in-Less.ensures

pub returns-in-LessOrEqual : goal.returns-in-LessOrEqual
unfolding operate_within
returns-in-LessOrEqual c = plainly_given c.args.operator operator.LessOrEqual c.in-LessOrEqual.is refl c.args.stack.now.running.operands _ _ c.operand-in-LessOrEqual.ensures c.operand-in-LessOrEqual-2.ensures _ (λ w. c.less_or_equal.ensures w) _ c.plain-in-LessOrEqual.ensures

pub returns-in-Greater : goal.returns-in-Greater
unfolding operate_within
returns-in-Greater c = plainly_given c.args.operator operator.Greater c.in-Greater.is refl c.args.stack.now.running.operands _ _ c.operand-in-Greater.ensures c.operand-in-Greater-2.ensures _ (λ w. c.greater.ensures w) _ c.plain-in-Greater.ensures

pub returns-in-GreaterOrEqual : goal.returns-in-GreaterOrEqual
unfolding operate_within
returns-in-GreaterOrEqual c = plainly_given c.args.operator operator.GreaterOrEqual c.in-GreaterOrEqual.is refl c.args.stack.now.running.operands _ _ c.operand-in-GreaterOrEqual.ensures c.operand-in-GreaterOrEqual-2.ensures _ (λ w. c.greater_or_equal.ensures w) _ c.plain-in-GreaterOrEqual.ensures
