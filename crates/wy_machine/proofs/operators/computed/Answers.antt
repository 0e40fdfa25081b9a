use Rattle.std.proofs.Common.{refl, ◌∙◌}
use Rattle.wy_device.specs.Operators.{operate_within}
use Rattle.wy_code.specs.declared.instruction.Operator.TheVariants as operator
use Rattle.wy_machine.specs.States.{store_of}
use Rattle.wy_machine.proofs.Operating.{if_ok, one_given, two_given, three_given}
use Rattle.wy_machine.proofs.operators.computed.Goals as goal

pub returns-in-Negate-clause-gives : goal.returns-in-Negate-clause-gives
unfolding operate_within
returns-in-Negate-clause-gives c = λ tapes. c.negated.ensures (store_of c.args.code.now c.args.store.now tapes) ∙ one_given (store_of c.args.code.now c.args.store.now tapes) c.args.operator operator.Negate c.in-Negate.is c.args.stack.now.running.operands _ refl c.operand.ensures

pub returns-in-Not-clause-gives : goal.returns-in-Not-clause-gives
unfolding operate_within
returns-in-Not-clause-gives c = λ tapes. c.negation.ensures (store_of c.args.code.now c.args.store.now tapes) ∙ one_given (store_of c.args.code.now c.args.store.now tapes) c.args.operator operator.Not c.in-Not.is c.args.stack.now.running.operands _ refl c.operand-in-Not.ensures

pub returns-in-Size-clause-gives : goal.returns-in-Size-clause-gives
unfolding operate_within
returns-in-Size-clause-gives c = λ tapes. c.size.ensures tapes ∙ one_given (store_of c.args.code.now c.args.store.now tapes) c.args.operator operator.Size c.in-Size.is c.args.stack.now.running.operands _ refl c.operand-in-Size.ensures

pub returns-in-Byte-clause-gives : goal.returns-in-Byte-clause-gives
unfolding operate_within
returns-in-Byte-clause-gives c = if_ok c.byte.result c.byte.ensures (λ x p tapes. p (store_of c.args.code.now c.args.store.now tapes) ∙ one_given (store_of c.args.code.now c.args.store.now tapes) c.args.operator operator.Byte c.in-Byte.is c.args.stack.now.running.operands _ refl c.operand-in-Byte.ensures)

pub returns-in-Show-clause-gives : goal.returns-in-Show-clause-gives
unfolding operate_within
returns-in-Show-clause-gives c = if_ok c.shown.result c.shown.ensures (λ x p tapes. p (store_of c.args.code.now c.args.store.now tapes) ∙ one_given (store_of c.args.code.now c.args.store.now tapes) c.args.operator operator.Show c.in-Show.is c.args.stack.now.running.operands _ refl c.operand-in-Show.ensures)

pub returns-in-Add-clause-gives : goal.returns-in-Add-clause-gives
unfolding operate_within
returns-in-Add-clause-gives c = λ tapes. c.sum.ensures (store_of c.args.code.now c.args.store.now tapes) ∙ two_given (store_of c.args.code.now c.args.store.now tapes) c.args.operator operator.Add c.in-Add.is c.args.stack.now.running.operands _ _ refl c.operand-in-Add.ensures c.operand-in-Add-2.ensures

pub returns-in-Subtract-clause-gives : goal.returns-in-Subtract-clause-gives
unfolding operate_within
returns-in-Subtract-clause-gives c = λ tapes. c.difference.ensures (store_of c.args.code.now c.args.store.now tapes) ∙ two_given (store_of c.args.code.now c.args.store.now tapes) c.args.operator operator.Subtract c.in-Subtract.is c.args.stack.now.running.operands _ _ refl c.operand-in-Subtract.ensures c.operand-in-Subtract-2.ensures

pub returns-in-Multiply-clause-gives : goal.returns-in-Multiply-clause-gives
unfolding operate_within
returns-in-Multiply-clause-gives c = λ tapes. c.product.ensures (store_of c.args.code.now c.args.store.now tapes) ∙ two_given (store_of c.args.code.now c.args.store.now tapes) c.args.operator operator.Multiply c.in-Multiply.is c.args.stack.now.running.operands _ _ refl c.operand-in-Multiply.ensures c.operand-in-Multiply-2.ensures

pub returns-in-Divide-clause-gives : goal.returns-in-Divide-clause-gives
unfolding operate_within
returns-in-Divide-clause-gives c = λ tapes. c.quotient.ensures (store_of c.args.code.now c.args.store.now tapes) ∙ two_given (store_of c.args.code.now c.args.store.now tapes) c.args.operator operator.Divide c.in-Divide.is c.args.stack.now.running.operands _ _ refl c.operand-in-Divide.ensures c.operand-in-Divide-2.ensures

pub returns-in-Remainder-clause-gives : goal.returns-in-Remainder-clause-gives
unfolding operate_within
returns-in-Remainder-clause-gives c = λ tapes. c.remainder.ensures (store_of c.args.code.now c.args.store.now tapes) ∙ two_given (store_of c.args.code.now c.args.store.now tapes) c.args.operator operator.Remainder c.in-Remainder.is c.args.stack.now.running.operands _ _ refl c.operand-in-Remainder.ensures c.operand-in-Remainder-2.ensures

pub returns-in-Join-clause-gives : goal.returns-in-Join-clause-gives
unfolding operate_within
returns-in-Join-clause-gives c = if_ok c.joined.result c.joined.ensures (λ x p tapes. p tapes ∙ two_given (store_of c.args.code.now c.args.store.now tapes) c.args.operator operator.Join c.in-Join.is c.args.stack.now.running.operands _ _ refl c.operand-in-Join.ensures c.operand-in-Join-2.ensures)

pub returns-in-Less-clause-gives : goal.returns-in-Less-clause-gives
unfolding operate_within
returns-in-Less-clause-gives c = λ tapes. c.less.ensures (store_of c.args.code.now c.args.store.now tapes) ∙ two_given (store_of c.args.code.now c.args.store.now tapes) c.args.operator operator.Less c.in-Less.is c.args.stack.now.running.operands _ _ refl c.operand-in-Less.ensures c.operand-in-Less-2.ensures

pub returns-in-LessOrEqual-clause-gives : goal.returns-in-LessOrEqual-clause-gives
unfolding operate_within
returns-in-LessOrEqual-clause-gives c = λ tapes. c.less_or_equal.ensures (store_of c.args.code.now c.args.store.now tapes) ∙ two_given (store_of c.args.code.now c.args.store.now tapes) c.args.operator operator.LessOrEqual c.in-LessOrEqual.is c.args.stack.now.running.operands _ _ refl c.operand-in-LessOrEqual.ensures c.operand-in-LessOrEqual-2.ensures

pub returns-in-Greater-clause-gives : goal.returns-in-Greater-clause-gives
unfolding operate_within
returns-in-Greater-clause-gives c = λ tapes. c.greater.ensures (store_of c.args.code.now c.args.store.now tapes) ∙ two_given (store_of c.args.code.now c.args.store.now tapes) c.args.operator operator.Greater c.in-Greater.is c.args.stack.now.running.operands _ _ refl c.operand-in-Greater.ensures c.operand-in-Greater-2.ensures

pub returns-in-GreaterOrEqual-clause-gives : goal.returns-in-GreaterOrEqual-clause-gives
unfolding operate_within
returns-in-GreaterOrEqual-clause-gives c = λ tapes. c.greater_or_equal.ensures (store_of c.args.code.now c.args.store.now tapes) ∙ two_given (store_of c.args.code.now c.args.store.now tapes) c.args.operator operator.GreaterOrEqual c.in-GreaterOrEqual.is c.args.stack.now.running.operands _ _ refl c.operand-in-GreaterOrEqual.ensures c.operand-in-GreaterOrEqual-2.ensures

pub returns-in-Equal-clause-gives : goal.returns-in-Equal-clause-gives
unfolding operate_within
returns-in-Equal-clause-gives c = λ tapes. c.compared.ensures tapes ∙ two_given (store_of c.args.code.now c.args.store.now tapes) c.args.operator operator.Equal c.in-Equal.is c.args.stack.now.running.operands _ _ refl c.operand-in-Equal.ensures c.operand-in-Equal-2.ensures

pub returns-in-NotEqual-clause-gives : goal.returns-in-NotEqual-clause-gives
unfolding operate_within
returns-in-NotEqual-clause-gives c = λ tapes. c.compared-in-NotEqual.ensures tapes ∙ two_given (store_of c.args.code.now c.args.store.now tapes) c.args.operator operator.NotEqual c.in-NotEqual.is c.args.stack.now.running.operands _ _ refl c.operand-in-NotEqual.ensures c.operand-in-NotEqual-2.ensures

pub returns-in-Code-clause-gives : goal.returns-in-Code-clause-gives
unfolding operate_within
returns-in-Code-clause-gives c = λ tapes. c.byte_in.ensures tapes ∙ two_given (store_of c.args.code.now c.args.store.now tapes) c.args.operator operator.Code c.in-Code.is c.args.stack.now.running.operands _ _ refl c.operand-in-Code.ensures c.operand-in-Code-2.ensures

pub returns-in-Part-clause-gives : goal.returns-in-Part-clause-gives
unfolding operate_within
returns-in-Part-clause-gives c = if_ok c.part.result c.part.ensures (λ x p tapes. p tapes ∙ three_given (store_of c.args.code.now c.args.store.now tapes) c.args.operator operator.Part c.in-Part.is c.args.stack.now.running.operands _ _ _ refl c.operand-in-Part.ensures c.operand-in-Part-2.ensures c.operand-in-Part-3.ensures)
