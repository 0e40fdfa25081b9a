use Rattle.std.proofs.Common.{ℕ, Option, drop}
use Rattle.wy_types.specs.Program.{program_of}
use Rattle.wy_rules.specs.Acceptance.{handed_to, RespectsBounds}
use Rattle.wy_rules.specs.Failing.{LacksInMember}
use Rattle.wy_premises.specs.Tried.{FirstLack}
use Rattle.wy_premises.proofs.arguments.first_outside_member.Given as goal

abbrev pub invariant-loop-i : goal.invariant-loop-i
invariant-loop-i l =
    (o : Option ℕ) →
    FirstLack (RespectsBounds (program_of l.core) l.number l.outer) (LacksInMember (program_of l.core) l.number l.outer) (handed_to (drop l.i l.parameters) (drop l.i l.arguments)) o →
    FirstLack (RespectsBounds (program_of l.core) l.number l.outer) (LacksInMember (program_of l.core) l.number l.outer) (handed_to l.parameters l.arguments) o
