use Rattle.std.proofs.Common.{◌≡◌, drop, map}
use Rattle.wy_heads.specs.Counts.{abstract_counts, some_above}
use Rattle.wy_symbols.specs.Lent.{lent_type}
use Rattle.wy_heads.proofs.atom_counts.types_pass.Given as goal

abbrev pub invariant-loop-decl : goal.invariant-loop-decl
invariant-loop-decl l = some_above 512 (abstract_counts (map lent_type (drop l.decl-index l.types))) ≡ some_above 512 (abstract_counts (map lent_type l.types))
