use Rattle.std.proofs.Common.{◌≡◌, true, false, length, refl, sym, ◌∙◌, arith}
use Rattle.wy_verify.proofs.Fitting.{fits_on, fits_not, fits_all, same_length}
use Rattle.wy_verify.proofs.types.parameters_fit.Goals as goal

pub returns-then-kinds-parameter_count-clause-decided : goal.returns-then-kinds-parameter_count-clause-decided
returns-then-kinds-parameter_count-clause-decided c = (
  (λ t. absurd cc),
  (λ all. absurd (c.if-kinds-parameter_count.true (same_length c.args.site.now.image c.args.kinds.now c.args.method.now.params all ∙ sym c.parameter_count.ensures))),
)

pub returns-then-not-branch-clause-decided : goal.returns-then-not-branch-clause-decided
returns-then-not-branch-clause-decided c =
    let lt = c.loop-at-test.true in
    let same : length c.args.kinds.now ≡ length c.args.method.now.params = c.if-kinds-parameter_count.false ∙ sym (sym c.parameter_count.ensures) in (
      (λ t. absurd cc),
      (λ all. absurd (fits_not c.args.site.now.image c.args.kinds.now c.args.method.now.params c.loop-at.at lt (omega (arith, lt, same))
          (λ r. let z : true ≡ false = sym (c.in_ok-fits_parameter.ensures.decided.1 r) ∙ c.if-not-branch.true in cc)
          c.loop-at.invariant.fits all)),
    )

pub loop-at-preserved : goal.loop-at-preserved
loop-at-preserved c = record {
  closed = c.in_ok-fits_parameter.ensures.kept;
  fits = fits_on c.args.site.now.image c.args.kinds.now c.args.method.now.params c.loop-at.at
      (c.in_ok-fits_parameter.ensures.decided.0 c.if-not-branch.false) c.loop-at.invariant.fits;
}

pub returns-clause-decided : goal.returns-clause-decided
returns-clause-decided c =
    let same : length c.args.kinds.now ≡ length c.args.method.now.params = c.if-kinds-parameter_count.false ∙ sym (sym c.parameter_count.ensures) in (
      (λ t. fits_all c.args.site.now.image c.args.kinds.now c.args.method.now.params c.loop-at.at c.loop-at-test.false same
          c.loop-at.invariant.fits),
      (λ h. refl),
    )
