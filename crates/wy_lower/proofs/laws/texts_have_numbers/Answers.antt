use Rattle.wy_lower.proofs.Numbers.{has_texts}
use Rattle.wy_lower.proofs.laws.texts_have_numbers.Goals as goal

pub returns : goal.returns
returns c = has_texts
