use Rattle.std.proofs.Common.{sym, subst}
use Rattle.std.specs.Prelude.{◌↔◌, IsTrue}
use Rattle.wy_code.specs.declared.instruction.Instruction.{Instruction}
use Rattle.wy_code.specs.declared.instruction.Instruction.TheVariants.{Store, Set, JumpFalse, Return, Finish}
use Rattle.wy_verify.specs.Turns.{IsInTypes}
use Rattle.wy_verify.proofs.Fitting.{form_decides}
use Rattle.wy_verify.proofs.types.instruction_fits.Goals as goal

pub returns-in-Store-clause-decided : goal.returns-in-Store-clause-decided
returns-in-Store-clause-decided c =
    form_decides c.args.site.now c.args.known.now c.args.instruction (Store c.in-Store.slot) c.store_fits.result c.in-Store.is
    c.store_fits.ensures.decided

pub returns-in-Set-clause-decided : goal.returns-in-Set-clause-decided
returns-in-Set-clause-decided c =
    form_decides c.args.site.now c.args.known.now c.args.instruction (Set c.in-Set.number) c.set_fits.result c.in-Set.is
    c.set_fits.ensures.decided

pub returns-in-JumpFalse-clause-decided : goal.returns-in-JumpFalse-clause-decided
returns-in-JumpFalse-clause-decided c =
    form_decides c.args.site.now c.args.known.now c.args.instruction (JumpFalse c.in-JumpFalse.field-0) c.top_fits.result c.in-JumpFalse.is
    c.top_fits.ensures.decided

pub returns-in-Return-clause-decided : goal.returns-in-Return-clause-decided
returns-in-Return-clause-decided c =
    form_decides c.args.site.now c.args.known.now c.args.instruction Return c.return_fits.result c.in-Return.is
    c.return_fits.ensures.decided

pub returns-in-Finish-clause-decided : goal.returns-in-Finish-clause-decided
returns-in-Finish-clause-decided c =
    form_decides c.args.site.now c.args.known.now c.args.instruction Finish c.finish_fits.result c.in-Finish.is
    c.finish_fits.ensures.decided

pub returns-in-Op-clause-decided : goal.returns-in-Op-clause-decided
returns-in-Op-clause-decided c =
    subst (λ (i : Instruction). IsTrue c.operator_fits.result ↔ IsInTypes c.args.site.now c.args.known.now i)
    (sym c.in-Op.is) (c.operator_fits.ensures c.args.site.now)
