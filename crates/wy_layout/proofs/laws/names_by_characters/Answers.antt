use Rattle.wy_layout.proofs.NameCharacters.{name_characters}
use Rattle.wy_layout.proofs.laws.names_by_characters.Goals as goal

pub returns : goal.returns
returns c = name_characters
