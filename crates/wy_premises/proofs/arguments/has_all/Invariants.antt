use Rattle.std.proofs.Common.{◌↔◌, drop}
use Rattle.wy_types.specs.Program.{program_of}
use Rattle.wy_premises.specs.Tried.{HasAll}
use Rattle.wy_premises.proofs.arguments.has_all.Given as goal

abbrev pub invariant-loop-member : goal.invariant-loop-member
invariant-loop-member l = HasAll (program_of l.core) l.typ (drop l.member-index l.members) ↔ HasAll (program_of l.core) l.typ l.members
