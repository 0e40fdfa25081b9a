use Rattle.std.proofs.Common.{◌≡◌, ◌+◌, ◌<◌, length, sym, subst, arith}
use Rattle.wy_verify.specs.declared.subjects.SubjectVerdict.TheVariants as subject
use Rattle.wy_verify.specs.Verdicts.{IsVerdictAt}
use Rattle.wy_verify.proofs.Verdicts.{Goes, goes_on, goes_fails, goes_passes}
use Rattle.wy_verify.proofs.verifying.judge_subjects.Goals as goal

pub returns-in-Fails : goal.returns-in-Fails
returns-in-Fails c =
    let f = c.args.file.now in
    let n = c.in_ok-number.number in
    let same : n ≡ c.loop-at.at = c.in_ok-number.ensures in
    let lt : n < length f.instances + 1 =
    (let h = c.loop-at-test.true in let s = c.len-count.ensures in omega (arith, h, same, s)) in
    goes_fails f n c.in-Fails.rule c.in-Fails.body c.in-Fails.place lt
    (subst (IsVerdictAt f n) c.in-Fails.is c.in_ok-judge_subject.ensures.verdict)
    (subst (Goes f) (sym same) c.loop-at.invariant.goes)

pub loop-at-preserved : goal.loop-at-preserved
loop-at-preserved c =
    let f = c.args.file.now in
    let n = c.in_ok-number.number in
    let same : n ≡ c.loop-at.at = c.in_ok-number.ensures in
    let lt : c.loop-at.at < length f.instances + 1 =
    (let h = c.loop-at-test.true in let s = c.len-count.ensures in omega (arith, h, s)) in
    record {
      closed = c.in_ok-judge_subject.ensures.kept;
      goes = goes_on f c.loop-at.at lt
          (subst (λ n. IsVerdictAt f n subject.Passes) same
          (subst (IsVerdictAt f n) c.in-Passes.is c.in_ok-judge_subject.ensures.verdict)) c.loop-at.invariant.goes;
    }

pub returns : goal.returns
returns c =
    goes_passes c.args.file.now c.loop-at.at
    (let h = c.loop-at-test.false in let s = c.len-count.ensures in omega (arith, h, s)) c.loop-at.invariant.goes

pub judge_subject-requires-clause-there : goal.judge_subject-requires-clause-there
judge_subject-requires-clause-there c =
    let h = c.loop-at-test.true in let s = c.len-count.ensures in let same = c.in_ok-number.ensures in
    omega (arith, h, s, same)
