use Rattle.std.proofs.Common.{◌≡◌, sym, subst, arith}
use Rattle.wy_verified.specs.CodeOf.{image_of}
use Rattle.wy_text.proofs.Lists.{In-slice_get}
use Rattle.wy_verify.specs.Verdicts.{IsBodyOf}
use Rattle.wy_verify.proofs.Verdicts.{bodies_on, bodies_fail, bodies_pass}
use Rattle.wy_verify.proofs.subjects.judge_bodies.Goals as goal

pub judge_body-requires-clause-stated : goal.judge_body-requires-clause-stated
judge_body-requires-clause-stated c =
    In-slice_get c.args.subject.now.subject.typing.bodies c.loop-at.at c.bounds_at.result.now c.bounds_at.ensures

pub returns-in-Fails-clause-verdict : goal.returns-in-Fails-clause-verdict
returns-in-Fails-clause-verdict c =
    let s = c.args.subject.now in
    let same : c.in_ok-number.number ≡ c.loop-at.at = c.in_ok-number.ensures in
    subst (λ n. Rattle.wy_verified.specs.Verifying.BodiesFail (image_of s.file) s.x s.subject 0 s.subject.typing.bodies c.in-Fails.rule n c.in-Fails.place)
    (sym same)
    (bodies_fail (image_of s.file) s.x s.subject s.subject.typing.bodies c.loop-at.at c.bounds_at.result.now
    c.in-Fails.rule c.in-Fails.place c.bounds_at.ensures
    (subst (IsBodyOf s c.bounds_at.result.now) c.in-Fails.is c.in_ok-judge_body.ensures.verdict)
    c.loop-at.invariant.goes)

pub loop-at-preserved : goal.loop-at-preserved
loop-at-preserved c =
    let s = c.args.subject.now in
    record {
      closed = c.in_ok-judge_body.ensures.kept;
      goes = bodies_on (image_of s.file) s.x s.subject s.subject.typing.bodies c.loop-at.at c.bounds_at.result.now
          c.bounds_at.ensures
          (subst (IsBodyOf s c.bounds_at.result.now) c.in-Passes.is c.in_ok-judge_body.ensures.verdict)
          c.loop-at.invariant.goes;
    }

pub returns-clause-verdict : goal.returns-clause-verdict
returns-clause-verdict c =
    let s = c.args.subject.now in
    bodies_pass (image_of s.file) s.x s.subject s.subject.typing.bodies c.loop-at.at
    (let h = c.loop-at-test.false in let l = c.len-at-end.ensures in omega (arith, h, l)) c.loop-at.invariant.goes
