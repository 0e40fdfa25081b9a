use Rattle.std.proofs.Common.{◌≡◌, ◌++◌, drop}
use Rattle.wy_symbols.specs.Meanings.{abstract_names}
use Rattle.wy_symbols.specs.TypeUses.{written_sets}
use Rattle.wy_symbols.proofs.type_uses.written_sets.Given as goal

abbrev pub invariant-loop-member : goal.invariant-loop-member
invariant-loop-member l =
    l.list ++ written_sets l.scope l.sets (abstract_names (drop l.member-index l.members)) ≡ written_sets l.scope l.sets (abstract_names l.members)
