use Rattle.std.proofs.Common.{◌≡◌, ◌++◌, drop}
use Rattle.wy_symbols.specs.TypeUses.{defined_members}
use Rattle.wy_symbols.proofs.declarations.defined_members.Given as goal

abbrev pub invariant-loop-member : goal.invariant-loop-member
invariant-loop-member l = l.defined ++ defined_members (drop l.member-index l.members) ≡ defined_members l.members
