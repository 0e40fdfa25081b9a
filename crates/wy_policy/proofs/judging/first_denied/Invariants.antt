use Rattle.std.proofs.Common.{◌≡◌, drop, map}
use Rattle.std.specs.Option.{option_copied}
use Rattle.wy_policy.specs.Judging as judging
use Rattle.wy_policy.proofs.judging.first_denied.Given as goal

abbrev pub invariant-loop-number : goal.invariant-loop-number
invariant-loop-number l =
    judging.first_denied l.atoms (option_copied l.ruling) (map (λ atom. atom.0) l.numbers)
    ≡ judging.first_denied l.atoms (option_copied l.ruling) (map (λ atom. atom.0) (drop l.number-index l.numbers))
