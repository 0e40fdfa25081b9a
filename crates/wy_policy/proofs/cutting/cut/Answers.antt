use Rattle.std.proofs.Common.{◌≡◌, suc, ◌+◌, ◌∙◌, List, ℕ, ap, arith, sym, take, drop, Some}
use Rattle.wy_policy.proofs.Cuts.{cut_first, cut_nowhere, take_rest}
use Rattle.wy_policy.proofs.cutting.cut.Goals as goal

pub returns-in-None : goal.returns-in-None
returns-in-None c = cut_nowhere c.args.stop c.args.text.now c.in-None.ensures

pub returns-in-Some : goal.returns-in-Some
returns-in-Some c =
    let at = c.in-Some.at in
    let text = c.args.text.now in
    let first = c.in-Some.ensures in
    let next : suc at ≡ at + 1 = omega arith in
    cut_first c.args.stop text at first.0.high first.0.before first.1
    ∙ ap (λ (n : ℕ). record { front = take at text; behind = Some (drop n text) }) next
    ∙ ap (λ (z : List ℕ). record { front = take at text; behind = Some z }) (sym (take_rest (at + 1) text))
