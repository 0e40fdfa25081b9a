use Rattle.std.proofs.Common.{rules, arith, ◌≡◌, ◌<◌, ◌+◌, ◌*◌, ◌-◌, ◌∷◌}
use Rattle.wy_settings.proofs.Digits.{is_past}
use Rattle.wy_settings.proofs.numerals.+number_from.Goals as goal

pub returns-then-next-most-clause-number : goal.returns-then-next-most-clause-number
returns-then-next-most-clause-number t c =
    let split : c.args.digits.now ≡ c.in-Some.digit.now ∷ c.in-Some.rest.now = search rules in
    let past : c.args.most < 10 * c.args.read + (c.in-Some.digit.now - 48) = omega (arith, c.if-next-most.true, c.from.ensures, c.saturating_sub.ensures) in
    rw split (is_past c.args.most (10 * c.args.read + (c.in-Some.digit.now - 48)) c.in-Some.rest.now past)
