use Rattle.std.proofs.Common.{◌≡◌, ◌<◌, true, false, length, refl, sym, ◌∙◌, arith}
use Rattle.wy_verified.specs.Kinds.{kind_in, kinds_in}
use Rattle.wy_verified.proofs.Lists.{map_length}
use Rattle.wy_verify.proofs.Captured.{captured_on, captured_not, captured_all}
use Rattle.wy_verify.proofs.types.literals.sources_fit.Goals as goal

pub returns-then-not-branch-clause-decided : goal.returns-then-not-branch-clause-decided
returns-then-not-branch-clause-decided c =
    let s = c.args.site.now in
    let lt = c.loop-at-test.true in
    let n = c.len-at-end.ensures in
    let z = map_length (kind_in s.x) c.args.values.now in
    let e = c.requires.enough in
    let less : c.loop-at.at < length (kinds_in s.x c.args.values.now) = omega (arith, lt, n, z, e) in
    let inside : c.loop-at.at < length c.args.sources.now = omega (arith, lt, n) in (
      (λ t. absurd cc),
      (λ all. absurd (captured_not s c.args.known.now.stored c.args.sources.now (kinds_in s.x c.args.values.now)
          c.loop-at.at inside less
          (λ r. let z : true ≡ false = sym (c.in_ok-source_fits_at.ensures.decided.1 r) ∙ c.if-not-branch.true in cc)
          c.loop-at.invariant.fits all)),
    )

pub loop-at-preserved : goal.loop-at-preserved
loop-at-preserved c =
    let s = c.args.site.now in
    record {
      closed = c.in_ok-source_fits_at.ensures.kept;
      fits = captured_on s c.args.known.now.stored c.args.sources.now (kinds_in s.x c.args.values.now) c.loop-at.at
          (c.in_ok-source_fits_at.ensures.decided.0 c.if-not-branch.false) c.loop-at.invariant.fits;
    }

pub returns-clause-decided : goal.returns-clause-decided
returns-clause-decided c =
    let s = c.args.site.now in
    let n = c.len-at-end.ensures in
    let g = c.loop-at-test.false in (
      (λ t. captured_all s c.args.known.now.stored c.args.sources.now (kinds_in s.x c.args.values.now) c.loop-at.at
          (omega (arith, n, g)) c.loop-at.invariant.fits),
      (λ h. refl),
    )
