use Rattle.std.proofs.Common.{◌≡◌, drop}
use Rattle.wy_heads.specs.Most.{first_over}
use Rattle.wy_heads.proofs.limits.first_over.Given as goal

abbrev pub invariant-loop-limit : goal.invariant-loop-limit
invariant-loop-limit l = first_over (drop l.limit-index l.counts) ≡ first_over l.counts
