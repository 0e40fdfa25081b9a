use Rattle.wy_certify.proofs.rows.binary_row.Goals as goal

pub returns-in-Equal-clause-operand : goal.returns-in-Equal-clause-operand
returns-in-Equal-clause-operand c = λ w. rw c.in-Equal.is (c.equality_row.ensures.equal w)

pub returns-in-NotEqual-clause-operand : goal.returns-in-NotEqual-clause-operand
returns-in-NotEqual-clause-operand c = λ w. rw c.in-NotEqual.is (c.equality_row-in-NotEqual.ensures.not_equal w)
