use Rattle.std.proofs.Common.{◌≡◌, ◌∙◌}
use Rattle.std.proofs.lemmas.Result.{IfOk-weaker}
use Rattle.wy_policy.specs.Allowed.{Judges}
use Rattle.wy_policy.specs.Judging.{judged}
use Rattle.wy_policy.proofs.JudgingLaws.{judges_as}
use Rattle.wy_policy.proofs.judging.judge.Goals as goal

pub returns : goal.returns
returns c =
    IfOk-weaker c.judge_all.result (λ j. j ≡ judged c.as_slice-2.result.now c.as_slice-3.result.now c.as_slice-4.result.now) (Judges c.args.policy.now.rows c.args.authority.now)
    (λ j e. judges_as c.args.policy.now.rows c.as_slice-2.result.now c.args.authority.now c.as_slice-3.result.now c.as_slice-4.result.now j
    (c.as_slice-2.ensures ∙ c.in_ok-rulings.ensures ∙ c.as_slice.ensures) c.as_slice-3.ensures c.as_slice-4.ensures e)
    c.judge_all.ensures
