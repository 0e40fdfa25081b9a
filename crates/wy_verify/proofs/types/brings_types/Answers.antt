use Rattle.wy_verify.specs.Turns.{MeetsTargetTypes, BringsTypes}
use Rattle.wy_verify.proofs.Brought.{types_if, types_none}
use Rattle.wy_verify.proofs.Fitting.{decides}
use Rattle.std.proofs.Common.{refl}
use Rattle.wy_verify.proofs.types.brings_types.Goals as goal

pub returns-in-Some-clause-decided : goal.returns-in-Some-clause-decided
returns-in-Some-clause-decided c =
    decides c.meets_types.result
    (MeetsTargetTypes c.args.site.now c.args.known.now c.args.taken c.in-Some.target.now)
    (BringsTypes c.args.site.now c.args.known.now c.args.taken c.args.to)
    (types_if c.args.site.now c.args.known.now c.args.taken c.args.to c.in-Some.target.now c.in-Some.ensures.first)
    c.meets_types.ensures.decided

pub returns-in-None-clause-decided : goal.returns-in-None-clause-decided
returns-in-None-clause-decided c = (
  (λ t. types_none c.args.site.now c.args.known.now c.args.taken c.args.to c.in-None.ensures.first),
  (λ h. refl),
)
