use mir.Val.{SFits}
use Rattle.std.proofs.Common.{ℤ, neg_ℤ, sym, ap, ◌∙◌, rules}
use Rattle.std.proofs.lemmas.Int.{to_z-of_z}
use Rattle.std.specs.Int.{w64}
use Rattle.wy_device.specs.Operators.{Computed, within_range}
use Rattle.wy_machine.proofs.Computing.{given_one, fits, on_number_are}
use Rattle.wy_machine.proofs.arithmetic.negated.Goals as goal

meant : ℤ → Computed
meant = λ x. within_range (neg_ℤ x)

pub returns-in-Some : goal.returns-in-Some
unfolding meant
returns-in-Some c =
    let fa : SFits w64 c.in-Some.a = search rules in
    λ w. c.in_range.ensures ∙ fits _ _ c.checked_neg.ensures ∙ ap meant (to_z-of_z w64 c.in-Some.a fa) ∙ sym (on_number_are w meant c.args.x ∙ ap (given_one meant) (sym c.in-Some.ensures))

pub returns-in-None : goal.returns-in-None
unfolding meant
returns-in-None c = λ w. sym (on_number_are w meant c.args.x ∙ ap (given_one meant) (sym c.in-None.ensures))
