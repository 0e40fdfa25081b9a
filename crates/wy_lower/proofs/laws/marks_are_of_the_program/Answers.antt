use Rattle.wy_lower.proofs.MarksKept.{has_marks}
use Rattle.wy_lower.proofs.laws.marks_are_of_the_program.Goals as goal

pub returns : goal.returns
returns c = has_marks
