use Rattle.wy_parser.proofs.MarksSpelled.{marks_of_tokens}
use Rattle.wy_parser.proofs.laws.marks_are_of_the_tokens.Goals as goal

pub returns : goal.returns
returns c = marks_of_tokens
