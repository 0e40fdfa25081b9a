use Rattle.std.proofs.Common.{◌≡◌, ◌≤◌, drop}
use Rattle.wy_symbols.specs.Atoms.{members_after}
use Rattle.wy_symbols.proofs.members.add_members.Given as goal

abbrev pub invariant-loop-member : goal.invariant-loop-member
invariant-loop-member l = record {
  number : l.number ≤ l.member-index;
  members : members_after l.before l.number (drop l.member-index l.members) ≡ members_after l.initial.before 0 l.members;
}
