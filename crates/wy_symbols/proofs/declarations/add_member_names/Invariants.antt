use Rattle.std.proofs.Common.{drop}
use Rattle.wy_syntax.specs.declared.types.Name.{Name}
use Rattle.wy_syntax.specs.Collected.{Collected, Adds}
use Rattle.wy_symbols.specs.TypeUses.{member_names}
use Rattle.wy_symbols.proofs.declarations.add_member_names.Given as goal

abbrev pub invariant-loop-member : goal.invariant-loop-member
invariant-loop-member l = (end : Collected Name) → Adds (member_names (drop l.member-index l.members)) l.names end → Adds (member_names l.members) l.initial.names end
