use Rattle.std.proofs.Common.{rules}
use Rattle.std.proofs.lemmas.Result.{IfOk-weaker}
use Rattle.wy_core_tests.proofs.RangeLemmas.{in_range}
use Rattle.wy_core_tests.proofs.ranges.is_in_range.Goals as goal

pub returns : goal.returns
returns c = IfOk-weaker c.declarations_fit.result _ _ (λ b h t. in_range c.args.core.now (c.in_ok-scopes_fit.ensures (search rules)) (c.in_ok-atoms_fit.ensures (search rules)) (h t)) c.declarations_fit.ensures
