use Rattle.std.proofs.Common.{ℕ, List, length, pos, sym, ap, ◌∙◌}
use Rattle.wy_device.specs.Operators.{Computed, GivesNumber}
use Rattle.wy_code.specs.Stores.{operand}
use Rattle.wy_machine.specs.States.{store_of}
use Rattle.wy_machine.proofs.Computing.{given_one, text_shape}
use Rattle.wy_machine.proofs.texts.size.Goals as goal

meant : List ℕ → Computed
meant s = GivesNumber (pos (length s))

pub returns-in-Some : goal.returns-in-Some
unfolding meant
returns-in-Some c = λ tapes.
    c.text_size.ensures ∙ sym (text_shape meant (operand (store_of c.args.code.now c.args.store.now tapes) c.args.x) ∙ ap (given_one meant) (sym (c.in-Some.ensures tapes)))

pub returns-in-None : goal.returns-in-None
unfolding meant
returns-in-None c = λ tapes.
    sym (text_shape meant (operand (store_of c.args.code.now c.args.store.now tapes) c.args.x) ∙ ap (given_one meant) (sym (c.in-None.ensures tapes)))
