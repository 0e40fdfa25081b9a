use Rattle.std.proofs.Common.{◌≡◌, drop}
use Rattle.wy_symbols.specs.Meanings.{abstract_names}
use Rattle.wy_symbols.specs.TypeUses.{all_among}
use Rattle.wy_symbols.proofs.type_uses.all_among.Given as goal

abbrev pub invariant-loop-member : goal.invariant-loop-member
invariant-loop-member l = all_among (abstract_names (drop l.member-index l.members)) l.names ≡ all_among (abstract_names l.members) l.names
