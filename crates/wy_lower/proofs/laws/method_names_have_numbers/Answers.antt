use Rattle.wy_lower.proofs.Numbers.{has_method_names}
use Rattle.wy_lower.proofs.laws.method_names_have_numbers.Goals as goal

pub returns : goal.returns
returns c = has_method_names
