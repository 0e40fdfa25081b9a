use Rattle.std.proofs.Common.{◌≡◌, drop, map}
use Rattle.wy_heads.specs.Most.{programs_most}
use Rattle.wy_symbols.specs.Lent.{lent_program}
use Rattle.wy_heads.proofs.limits.programs_most.Given as goal

abbrev pub invariant-loop-program : goal.invariant-loop-program
invariant-loop-program l = programs_most l.most (map lent_program (drop l.program-index l.programs)) ≡ programs_most l.initial.most (map lent_program l.programs)
