use Rattle.wy_names.proofs.MarksLeft.{marks_of_items}
use Rattle.wy_names.proofs.laws.marks_are_of_the_items.Goals as goal

pub returns : goal.returns
returns c = marks_of_items
