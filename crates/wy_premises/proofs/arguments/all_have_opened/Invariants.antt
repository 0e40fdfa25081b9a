use Rattle.std.proofs.Common.{◌↔◌, drop}
use Rattle.wy_types.specs.Program.{program_of}
use Rattle.wy_rules.specs.Acceptance.{handed_to}
use Rattle.wy_premises.specs.Tried.{OfEach, HasOpened}
use Rattle.wy_premises.proofs.arguments.all_have_opened.Given as goal

abbrev pub invariant-loop-i : goal.invariant-loop-i
invariant-loop-i l =
    OfEach (HasOpened (program_of l.core) l.outer) (handed_to (drop l.i l.parameters) (drop l.i l.arguments)) ↔
    OfEach (HasOpened (program_of l.core) l.outer) (handed_to l.parameters l.arguments)
