use Rattle.std.proofs.Common.{◌≡◌, drop, map}
use Rattle.wy_heads.specs.Most.{types_most}
use Rattle.wy_symbols.specs.Lent.{lent_type}
use Rattle.wy_heads.proofs.limits.types_most.Given as goal

abbrev pub invariant-loop-decl : goal.invariant-loop-decl
invariant-loop-decl l = types_most l.most (map lent_type (drop l.decl-index l.types)) ≡ types_most l.initial.most (map lent_type l.types)
