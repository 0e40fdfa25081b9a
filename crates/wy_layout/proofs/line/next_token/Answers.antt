use Rattle.std.proofs.Common.{◌∙◌, sym, ap, arith, subst, Err}
use Rattle.wy_layout.specs.Lines.{is_done}
use Rattle.wy_layout.specs.Turns.{GivesTurn}
use Rattle.wy_layout.specs.declared.line.Halt.{Halt}
use Rattle.wy_layout.proofs.Tokenwise.{done, turn_from, passes_from, given_shorter, stop_within, stop_turn}
use Rattle.wy_layout.proofs.line.next_token.Goals as goal

pub returns-then-is_done : goal.returns-then-is_done
returns-then-is_done c = done c.args.row c.args.count c.args.at c.args.text.now (ap is_done (sym c.after_blanks-from.ensures.value) ∙ sym c.is_done.ensures ∙ c.if-is_done.true)

pub returns-in-Some : goal.returns-in-Some
returns-in-Some c =
    passes_from c.args.row c.args.count c.args.at c.args.text.now c.after_blanks-from.result.now c.in-Ok.rest.now c.in-Ok.kind c.in-Some.fault
    c.after_blanks-from.ensures.value (sym c.is_done.ensures ∙ c.if-is_done.false) c.in-Ok.ensures (sym c.in-Some.ensures)

pub overflow_sub-end : goal.overflow_sub-end
overflow_sub-end c = let h = given_shorter _ _ _ c.in-Ok.ensures in let w = c.after_blanks-from.ensures.within in omega arith

pub halted-requires-clause-within : goal.halted-requires-clause-within
halted-requires-clause-within c = stop_within c.in-Err.stop c.args.text.now c.after_blanks-from.result.now c.after_blanks-from.ensures.within c.in-Err.ensures

pub returns-in_default : goal.returns-in_default
returns-in_default c =
    turn_from c.args.row c.args.count c.args.at c.args.text.now c.after_blanks-from.result.now c.in-Ok.rest.now c.in-Ok.kind c.token.result
    c.after_blanks-from.ensures.value (sym c.is_done.ensures ∙ c.if-is_done.false) c.in-Ok.ensures (sym c.in_default.ensures) c.token.ensures

pub returns-in-Err : goal.returns-in-Err
returns-in-Err c =
    subst (λ (h : Halt). GivesTurn (Err h) c.args.row c.args.count c.args.at c.args.text.now) (sym c.halted.ensures)
    (stop_turn c.in-Err.stop c.args.row c.args.count c.args.at c.args.text.now c.after_blanks-from.result.now c.after_blanks-from.ensures.value (sym c.is_done.ensures ∙ c.if-is_done.false) c.in-Err.ensures)
