use Rattle.std.proofs.lemmas.Result.{IfOk-weaker}
use Rattle.wy_proving.specs.Certified.{Pair}
use Rattle.wy_recheck.proofs.pairs.Closing.is_closed.Goals as goal

pub returns-clause-closed : goal.returns-clause-closed
returns-clause-closed g c =
    let q : Pair = (c.args.left.now, c.args.right.now) in
    IfOk-weaker c.has_unfolded.result _ _ (λ b h. h q c.in_ok-unfolding.ensures.unfolded) c.has_unfolded.ensures
