use Rattle.wy_verify.proofs.RangeJoins.{row_of}
use Rattle.wy_verify.proofs.RangeTests.{refuted, reworded}
use Rattle.wy_verify.proofs.ranges.rows.is_row.Goals as goal

pub returns-then-not-is_file : goal.returns-then-not-is_file
returns-then-not-is_file c =
    refuted c.is_file.result c.if-not-is_file.true
    (c.is_file.ensures)
    (λ r. (r.some, r.most))

pub returns : goal.returns
returns c =
    reworded c.is_instruction.result
    (c.is_instruction.ensures)
    (λ p. row_of c.args.standing.now.file.now c.args.standing.now.scope.now c.args.standing.now.owner c.args.standing.now.body.now c.args.row.now ((c.is_file.ensures).0 c.if-not-is_file.false) p)
    (λ r. r.instruction)
