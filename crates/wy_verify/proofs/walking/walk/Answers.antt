use Rattle.std.proofs.Common.{ℕ, List, true, Option, None, replicate, refl, sym, ap, ◌∙◌, subst, arith}
use Rattle.wy_verified.specs.Rules.{at_first}
use Rattle.wy_verified.specs.declared.known.VerifyRule.{VerifyRule}
use Rattle.wy_verified.proofs.Lists.{read_there}
use Rattle.wy_verify.proofs.Turning.{goes_first, goes_on, goes_fails}
use Rattle.wy_verified.specs.Kinds.{Pair}
use Rattle.wy_verify.specs.Closing.{AreClosed}
use Rattle.wy_verify.specs.Turns.{IsVerdict, Turns, Visit}
use Rattle.wy_verify.specs.declared.verdict.Verdict.TheVariants as verdict
use Rattle.wy_verify.proofs.walking.walk.Goals as goal

pub loop-at-init : goal.loop-at-init
loop-at-init c =
    let first : ℕ → Visit = λ n. record { known = at_first; falls = true; jumps = replicate n None } in record {
      closed = c.requires;
      goes = goes_first c.args.site.now c.in_ok-visit.visit (c.in_ok-visit.ensures ∙ ap first c.len.ensures);
    }

pub turn-requires-clause-closed : goal.turn-requires-clause-closed
turn-requires-clause-closed c =
    let P : List Pair → Type 0 = λ l. AreClosed c.args.site.now.image l in
    subst P (sym c.in_ok-spend.ensures) c.loop-at.invariant.closed

pub returns-in-Some-clause-verdict : goal.returns-in-Some-clause-verdict
returns-in-Some-clause-verdict c =
    let s = c.args.site.now in
    let g = c.loop-at.invariant.goes in
    let p = read_there s.body.instructions c.loop-at.at
    (let lt = c.loop-at-test.true in let e = c.len-at-end.ensures in omega (arith, lt, e)) in
    subst (λ n. IsVerdict s (verdict.Fails c.in-Some.rule n)) (sym c.in_ok-word.ensures)
    (goes_fails s c.loop-at.at c.loop-at.visit c.turn.new.self g p.0.instruction c.in-Some.rule (p.0, p.1, refl)
    (subst (λ (r : Option VerifyRule). Turns s c.loop-at.visit c.turn.new.self c.loop-at.at r g.js p.0.instruction)
    c.in-Some.is (c.in_ok-rule.ensures.turned g.js p.0.instruction g.noted (p.0, p.1, refl))))

pub loop-at-preserved : goal.loop-at-preserved
loop-at-preserved c =
    let s = c.args.site.now in
    let g = c.loop-at.invariant.goes in
    let p = read_there s.body.instructions c.loop-at.at
    (let lt = c.loop-at-test.true in let e = c.len-at-end.ensures in omega (arith, lt, e)) in record {
      closed = c.in_ok-rule.ensures.kept;
      goes = goes_on s c.loop-at.at c.loop-at.visit c.turn.new.self g p.0.instruction (p.0, p.1, refl)
          (subst (λ (r : Option VerifyRule). Turns s c.loop-at.visit c.turn.new.self c.loop-at.at r g.js p.0.instruction)
          c.in_default.is (c.in_ok-rule.ensures.turned g.js p.0.instruction g.noted (p.0, p.1, refl)));
    }
