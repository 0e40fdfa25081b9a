use Rattle.std.proofs.Common.{◌≡◌, ◌++◌, drop, map}
use Rattle.wy_heads.specs.Counts.{type_counts, abstract_counts}
use Rattle.wy_symbols.specs.Lent.{lent_type}
use Rattle.wy_heads.proofs.atom_counts.type_counts.Given as goal

abbrev pub invariant-loop-decl : goal.invariant-loop-decl
invariant-loop-decl l = l.counts.items ++ abstract_counts (map lent_type (drop l.decl-index l.types)) ≡ type_counts (map lent_type l.types)
