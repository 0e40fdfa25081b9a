use Rattle.std.proofs.Common.{◌≡◌, true, false, length, refl, sym, ◌∙◌, arith}
use Rattle.wy_verified.specs.Kinds.{kind_in, kinds_in}
use Rattle.wy_verified.proofs.Lists.{map_length}
use Rattle.wy_verify.proofs.Fitting.{fits_on, fits_not, fits_all, same_length}
use Rattle.wy_verify.proofs.types.all_fit.Goals as goal

pub returns-then-kinds-references-clause-decided : goal.returns-then-kinds-references-clause-decided
returns-then-kinds-references-clause-decided c = (
  (λ t. absurd cc),
  (λ all. absurd (c.if-kinds-references.true (same_length c.args.site.now.image c.args.kinds.now (kinds_in c.args.site.now.x c.args.references.now) all ∙ map_length (kind_in c.args.site.now.x) c.args.references.now))),
)

pub returns-then-not-branch-clause-decided : goal.returns-then-not-branch-clause-decided
returns-then-not-branch-clause-decided c =
    let lt = c.loop-at-test.true in
    let same : length c.args.kinds.now ≡ length (kinds_in c.args.site.now.x c.args.references.now) = c.if-kinds-references.false ∙ sym (map_length (kind_in c.args.site.now.x) c.args.references.now) in (
      (λ t. absurd cc),
      (λ all. absurd (fits_not c.args.site.now.image c.args.kinds.now (kinds_in c.args.site.now.x c.args.references.now) c.loop-at.at lt (omega (arith, lt, same))
          (λ r. let z : true ≡ false = sym (c.in_ok-fits_at.ensures.decided.1 r) ∙ c.if-not-branch.true in cc)
          c.loop-at.invariant.fits all)),
    )

pub loop-at-preserved : goal.loop-at-preserved
loop-at-preserved c = record {
  closed = c.in_ok-fits_at.ensures.kept;
  fits = fits_on c.args.site.now.image c.args.kinds.now (kinds_in c.args.site.now.x c.args.references.now) c.loop-at.at
      (c.in_ok-fits_at.ensures.decided.0 c.if-not-branch.false) c.loop-at.invariant.fits;
}

pub returns-clause-decided : goal.returns-clause-decided
returns-clause-decided c =
    let same : length c.args.kinds.now ≡ length (kinds_in c.args.site.now.x c.args.references.now) = c.if-kinds-references.false ∙ sym (map_length (kind_in c.args.site.now.x) c.args.references.now) in (
      (λ t. fits_all c.args.site.now.image c.args.kinds.now (kinds_in c.args.site.now.x c.args.references.now) c.loop-at.at c.loop-at-test.false same
          c.loop-at.invariant.fits),
      (λ h. refl),
    )
