use Rattle.wy_engine.proofs.MarksInFiles.{marks_in_files}
use Rattle.wy_engine.proofs.laws.marks_are_in_files.Goals as goal

pub returns : goal.returns
returns c = marks_in_files c.tokens_name_their_file.ensures c.marks_are_of_the_tokens.ensures c.marks_are_of_the_items.ensures c.marks_are_of_the_program.ensures
