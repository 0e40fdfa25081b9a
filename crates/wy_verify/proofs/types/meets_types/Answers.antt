use Rattle.std.proofs.Common.{drop, sym, subst, List}
use Rattle.std.specs.Prelude.{◌↔◌}
use Rattle.wy_image.specs.declared.typing.Reference.{Reference}
use Rattle.wy_verified.specs.Kinds.{AllFit, kinds_in}
use Rattle.wy_verify.specs.Turns.{MeetsTargetTypes}
use Rattle.wy_verify.proofs.Fitting.{decides, fit_lower}
use Rattle.wy_verify.proofs.types.meets_types.Goals as goal

pub returns-clause-decided : goal.returns-clause-decided
returns-clause-decided c =
    decides c.all_fit.result
    (AllFit c.args.site.now.image c.lower.result.now (kinds_in c.args.site.now.x c.as_slice.result.now))
    (MeetsTargetTypes c.args.site.now c.args.known.now c.args.taken c.args.target.now)
    (subst (λ (rs : List Reference). AllFit c.args.site.now.image c.lower.result.now (kinds_in c.args.site.now.x rs) ↔
    MeetsTargetTypes c.args.site.now c.args.known.now c.args.taken c.args.target.now) (sym c.as_slice.ensures)
    (fit_lower c.args.site.now.image c.lower.result.now (kinds_in c.args.site.now.x c.args.target.now.operands)
    (drop c.args.taken c.args.known.now.operands) c.lower.ensures)) c.all_fit.ensures.decided
