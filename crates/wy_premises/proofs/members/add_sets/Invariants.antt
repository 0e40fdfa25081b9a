use Rattle.std.proofs.Common.{◌≡◌, ◌++◌, take}
use Rattle.wy_types.specs.Program.{program_of}
use Rattle.wy_premises.specs.Sets.{sets_of_members}
use Rattle.wy_premises.proofs.members.add_sets.Given as goal

abbrev pub invariant-loop-member : goal.invariant-loop-member
invariant-loop-member l = l.out ≡ l.initial.out ++ sets_of_members (program_of l.core) l.typ (take l.member-index l.members)
