use Rattle.wy_layout.proofs.FilesNamed.{files_named}
use Rattle.wy_layout.proofs.laws.tokens_name_their_file.Goals as goal

pub returns : goal.returns
returns c = files_named
