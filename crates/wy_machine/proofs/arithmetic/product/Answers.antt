use mir.Val.{SFits}
use Rattle.std.proofs.Common.{ℤ, ◌*ℤ◌, sym, ap, ap₂, ◌∙◌, rules}
use Rattle.std.proofs.lemmas.Int.{to_z-of_z}
use Rattle.std.specs.Int.{w64}
use Rattle.wy_device.specs.Operators.{Computed, within_range}
use Rattle.wy_machine.proofs.Computing.{given_two, fits, on_numbers_are}
use Rattle.wy_machine.proofs.arithmetic.product.Goals as goal

meant : ℤ → ℤ → Computed
meant = λ x y. within_range (x *ℤ y)

pub returns-in-Some : goal.returns-in-Some
unfolding meant
returns-in-Some c =
    let fa : SFits w64 c.in-Some.a = search rules in
    let fb : SFits w64 c.in-Some.b = search rules in
    λ w. c.in_range.ensures ∙ fits _ _ c.checked_mul.ensures ∙ ap₂ meant (to_z-of_z w64 c.in-Some.a fa) (to_z-of_z w64 c.in-Some.b fb) ∙ sym (on_numbers_are w meant c.args.x c.args.y ∙ ap (given_two meant) (sym c.in-Some.ensures))

pub returns-in-None : goal.returns-in-None
unfolding meant
returns-in-None c = λ w. sym (on_numbers_are w meant c.args.x c.args.y ∙ ap (given_two meant) (sym c.in-None.ensures))
