use Rattle.wy_code.proofs.Spending as spending
use Rattle.wy_code.proofs.laws.spent_takes_all.Goals as goal

pub returns : goal.returns
returns c = spending.spent_takes_all
