use Rattle.wy_well_formed.proofs.NamesAreWords.{names_are_words}
use Rattle.wy_well_formed.proofs.resolved_names_are_words.Goals as goal

pub returns : goal.returns
returns c = names_are_words
