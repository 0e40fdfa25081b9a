use Rattle.std.proofs.Common.{◌∙◌}
use Rattle.wy_verified.specs.declared.known.Kind.TheVariants.{Units}
use Rattle.wy_verified.specs.Kinds.{Fits}
use Rattle.wy_verified.specs.Walking.{top_kind}
use Rattle.wy_verify.specs.Turns.{IsFinishedInTypes}
use Rattle.wy_verify.proofs.Fitting.{decides, left_fits}
use Rattle.wy_verify.proofs.types.finish_fits.Goals as goal

pub returns-clause-decided : goal.returns-clause-decided
returns-clause-decided c =
    let s = c.args.site.now in
    let known = c.args.known.now in
    decides c.top_fits.result (Fits s.image (top_kind known.operands) Units) (IsFinishedInTypes s known)
    (left_fits s known known.operands (λ e. c.if-depth-eq0.false (c.depth.ensures ∙ e))) c.top_fits.ensures.decided
