use Rattle.std.proofs.Common.{ℕ, List, ap, ◌∙◌}
use Rattle.wy_lanes.specs.Numbers.{without_numbers}
use Rattle.wy_lanes.specs.Rows.{others}
use Rattle.wy_lanes.proofs.RowLemmas.{all_numbers}
use Rattle.wy_lanes.proofs.number_set.NumberSet.complement.Goals as goal

pub returns : goal.returns
unfolding others
returns c = c.without.ensures ∙ ap (λ (xs : List ℕ). without_numbers xs c.args.self.now) all_numbers
