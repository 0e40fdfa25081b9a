use Rattle.std.proofs.Common.{◌≡◌, ◌<◌, true, false, length, sym, ◌∙◌, subst, arith}
use Rattle.wy_verified.proofs.Lists.{map_length}
use Rattle.wy_verified.specs.Kinds.{kind_in, kinds_in}
use Rattle.wy_verified.specs.Verifying.{ArgumentsFail}
use Rattle.wy_verify.proofs.ArgumentsFit.{looked_on, looked_fails}
use Rattle.wy_verify.proofs.arguments.first_unfit.Goals as goal

pub returns-then-not-branch-clause-found : goal.returns-then-not-branch-clause-found
returns-then-not-branch-clause-found c =
    let image = c.args.judged.now in
    let ks = kinds_in c.args.x c.args.values.now in
    let lt = c.loop-at-test.true in
    let n = c.len-at-end.ensures in
    let z = map_length (kind_in c.args.x) c.args.values.now in
    let e = c.requires.enough in
    let inside : c.loop-at.at < length c.args.arguments.now = omega (arith, lt, n) in
    let less : c.loop-at.at < length ks = omega (arith, lt, n, z, e) in
    subst (λ n. ArgumentsFail image 0 c.args.arguments.now ks n) (sym c.in_ok-word.ensures)
    (looked_fails image c.args.arguments.now ks c.loop-at.at inside less
    (λ r. let z : true ≡ false = sym (c.in_ok-argument_fits.ensures.decided.1 r) ∙ c.if-not-branch.true in cc)
    c.loop-at.invariant.looked)

pub loop-at-preserved : goal.loop-at-preserved
loop-at-preserved c = record {
  closed = c.in_ok-argument_fits.ensures.kept;
  looked = looked_on c.args.judged.now c.args.arguments.now (kinds_in c.args.x c.args.values.now) c.loop-at.at
      (c.in_ok-argument_fits.ensures.decided.0 c.if-not-branch.false) c.loop-at.invariant.looked;
}
