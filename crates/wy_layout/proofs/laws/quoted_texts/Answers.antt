use Rattle.wy_layout.proofs.Quoting.{quoted_text}
use Rattle.wy_layout.proofs.laws.quoted_texts.Goals as goal

pub returns : goal.returns
returns c = quoted_text
