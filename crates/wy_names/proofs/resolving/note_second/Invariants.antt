use Rattle.std.proofs.Common.{◌≡◌, drop, map}
use Rattle.wy_symbols.specs.declared.refusal.Cause.TheVariants.{TwoPrograms}
use Rattle.wy_symbols.specs.Least.{noted, refusal_at}
use Rattle.wy_symbols.specs.Declarations.{ProgramTree}
use Rattle.wy_symbols.specs.Lent.{lent_program}
use Rattle.wy_names.proofs.resolving.note_second.Given as goal

abbrev pub invariant-loop-program : goal.invariant-loop-program
invariant-loop-program l =
    noted l.least (map (λ (g : ProgramTree). refusal_at g.place TwoPrograms) (map lent_program (drop l.program-index l.others))) ≡
    noted l.initial.least (map (λ (g : ProgramTree). refusal_at g.place TwoPrograms) (map lent_program l.others))
