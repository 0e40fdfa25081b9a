use Rattle.wy_types.specs.Program.{program_of}
use Rattle.wy_judge.specs.Checking.{module_turn}
use Rattle.wy_judge.proofs.Programs.{GoOnBefore}
use Rattle.wy_judge.proofs.ListsPut.{ListsBefore}
use Rattle.wy_judge.proofs.checking.check_modules.Given as goal

abbrev pub invariant-loop-number : goal.invariant-loop-number
invariant-loop-number l = record {
  before : GoOnBefore (program_of l.core) (module_turn l.plain) l.number;
  lists : ListsBefore (program_of l.core) (module_turn l.plain) l.initial.lists l.lists l.number;
}
