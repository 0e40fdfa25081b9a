use Rattle.std.proofs.Common.{drop}
use Rattle.wy_symbols.proofs.MembersOpened.{Opens}
use Rattle.wy_symbols.proofs.atoms.open_members.Given as goal

abbrev pub invariant-loop-member : goal.invariant-loop-member
invariant-loop-member l = Opens l.initial.atoms l.owner l.members l.atoms l.sets (drop l.member-index l.members)
