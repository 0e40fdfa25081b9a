use Rattle.std.proofs.Common.{◌∙◌}
use Rattle.std.proofs.lemmas.Result.{IfOk-weaker}
use Rattle.wy_recheck.proofs.ListsHold.{as_erased}
use Rattle.wy_recheck.proofs.pairs.erased_pairs.Goals as goal

pub returns : goal.returns
returns c = IfOk-weaker c.listed_pairs.result _ _ (λ set h. as_erased c.args.types.now c.as_slice.result.now c.args.pairs.now set (c.as_slice.ensures ∙ c.in_ok-erased.ensures) h) c.listed_pairs.ensures
