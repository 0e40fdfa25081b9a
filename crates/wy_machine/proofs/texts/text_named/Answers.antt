use Rattle.std.proofs.Common.{sym, ap, ◌∙◌}
use Rattle.wy_machine.specs.States.{store_of}
use Rattle.wy_machine.proofs.Computing.{text_numbered, text_in_operand}
use Rattle.wy_machine.proofs.texts.text_named.Goals as goal

pub returns-in-Some : goal.returns-in-Some
returns-in-Some c = λ tapes.
    let w = store_of c.args.code.now c.args.store.now tapes in
    c.text_at.ensures ∙ sym (text_in_operand w c.args.word ∙ ap (text_numbered w) (sym c.in-Some.ensures))

pub returns-in-None : goal.returns-in-None
returns-in-None c = λ tapes.
    let w = store_of c.args.code.now c.args.store.now tapes in
    sym (text_in_operand w c.args.word ∙ ap (text_numbered w) (sym c.in-None.ensures))
