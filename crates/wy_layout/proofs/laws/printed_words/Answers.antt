use Rattle.wy_layout.proofs.Apart.{word_stands}
use Rattle.wy_layout.proofs.laws.printed_words.Goals as goal

pub returns : goal.returns
returns c = word_stands
