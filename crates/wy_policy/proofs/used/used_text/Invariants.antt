use Rattle.std.proofs.Common.{◌≡◌, ◌++◌, drop, map}
use Rattle.wy_policy.specs.Used.{used_lines}
use Rattle.wy_policy.proofs.used.used_text.Given as goal

abbrev pub invariant-loop-at : goal.invariant-loop-at
invariant-loop-at l =
    l.text.items ++ used_lines l.atoms (drop l.at l.rows) (drop l.at (map (λ account. account.set) l.used.accounts))
    ≡ used_lines l.atoms l.rows (map (λ account. account.set) l.used.accounts)
