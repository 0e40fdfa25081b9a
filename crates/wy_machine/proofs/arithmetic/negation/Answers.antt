use Rattle.std.proofs.Common.{not, Bool, refl, sym, ap, ◌∙◌}
use Rattle.wy_device.specs.Operators.{Computed, GivesTruth}
use Rattle.wy_machine.proofs.Computing.{given_one, on_truth_are}
use Rattle.wy_machine.proofs.arithmetic.negation.Goals as goal

meant : Bool → Computed
meant = λ x. GivesTruth (not x)

pub returns-in-Some : goal.returns-in-Some
unfolding meant
returns-in-Some c = λ w. refl ∙ sym (on_truth_are w meant c.args.x ∙ ap (given_one meant) (sym c.in-Some.ensures))

pub returns-in-None : goal.returns-in-None
unfolding meant
returns-in-None c = λ w. sym (on_truth_are w meant c.args.x ∙ ap (given_one meant) (sym c.in-None.ensures))
