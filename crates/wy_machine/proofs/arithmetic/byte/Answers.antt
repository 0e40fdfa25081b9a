use Rattle.std.proofs.Common.{ℤ, sym, ap, ◌∙◌}
use Rattle.wy_device.specs.Operators.{Computed, one_byte}
use Rattle.wy_machine.proofs.Computing.{given_one, on_number_are}
use Rattle.wy_machine.proofs.arithmetic.byte.Goals as goal

meant : ℤ → Computed
meant = one_byte

pub returns-in-None : goal.returns-in-None
unfolding meant
returns-in-None c = λ w. sym (on_number_are w meant c.args.x ∙ ap (given_one meant) (sym c.in-None.ensures))
