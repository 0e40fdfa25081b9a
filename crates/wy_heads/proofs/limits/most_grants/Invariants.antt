use Rattle.std.proofs.Common.{◌≡◌, drop, map}
use Rattle.wy_heads.specs.Most.{greatest, grant_counts}
use Rattle.wy_symbols.specs.Lent.{lent_program}
use Rattle.wy_heads.proofs.limits.most_grants.Given as goal

abbrev pub invariant-loop-program : goal.invariant-loop-program
invariant-loop-program l = greatest l.most (grant_counts (map lent_program (drop l.program-index l.programs))) ≡ greatest l.initial.most (grant_counts (map lent_program l.programs))
