use Rattle.std.proofs.Common.{ℕ, ◌/◌, ◌%◌, get_or, nat_eq, arith, ap, ◌∙◌, sym}
use Rattle.std.proofs.lemmas.Bool.{le-ltb}
use Rattle.std.proofs.lemmas.Nat.Bits.{shr_and_one}
use Rattle.wy_lanes.specs.Numbers.{is_in}
use Rattle.wy_lanes.proofs.NumbersOf.{has_bit-past, is_in-numbers_of}
use Rattle.wy_lanes.proofs.number_set.NumberSet.has.Goals as goal

pub returns-then-place-lt8 : goal.returns-then-place-lt8
returns-then-place-lt8 c =
    let words = c.self.inside.words in
    let n = c.args.number in
    ap (λ (b : ℕ). nat_eq b 1) (shr_and_one (get_or words (n / 64) 0) (n % 64)) ∙ sym (is_in-numbers_of n words) ∙ ap (is_in n) c.self.view_is

pub returns-else-place-lt8 : goal.returns-else-place-lt8
returns-else-place-lt8 c =
    let words = c.self.inside.words in
    let n = c.args.number in
    le-ltb (n / 64) 8 c.if-place-lt8.false
    ∙ sym (ap (is_in n) (sym c.self.view_is) ∙ is_in-numbers_of n words ∙ has_bit-past words n (omega (arith, c.self.told, c.if-place-lt8.false)))
