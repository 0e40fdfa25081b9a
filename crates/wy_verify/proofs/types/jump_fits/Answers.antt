use Rattle.wy_verify.specs.Turns.{IsBroughtInTypes, BringsTypes}
use Rattle.wy_verify.proofs.Brought.{types_jump, types_jump_false}
use Rattle.wy_verify.proofs.Fitting.{decides}
use Rattle.wy_verify.proofs.types.jump_fits.Goals as goal

pub returns-in-Jump-clause-decided : goal.returns-in-Jump-clause-decided
returns-in-Jump-clause-decided c =
    decides c.brings_types.result
    (BringsTypes c.args.site.now c.args.known.now 0 c.in-Jump.to)
    (IsBroughtInTypes c.args.site.now c.args.known.now c.args.instruction)
    (types_jump c.args.site.now c.args.known.now c.in-Jump.to c.args.instruction c.in-Jump.is)
    c.brings_types.ensures.decided

pub returns-in-JumpFalse-clause-decided : goal.returns-in-JumpFalse-clause-decided
returns-in-JumpFalse-clause-decided c =
    decides c.brings_types-in-JumpFalse.result
    (BringsTypes c.args.site.now c.args.known.now 1 c.in-JumpFalse.to)
    (IsBroughtInTypes c.args.site.now c.args.known.now c.args.instruction)
    (types_jump_false c.args.site.now c.args.known.now c.in-JumpFalse.to c.args.instruction c.in-JumpFalse.is)
    c.brings_types-in-JumpFalse.ensures.decided
