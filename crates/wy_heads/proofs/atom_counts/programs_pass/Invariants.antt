use Rattle.std.proofs.Common.{◌≡◌, drop, map}
use Rattle.wy_heads.specs.Counts.{program_count, some_above}
use Rattle.wy_symbols.specs.Lent.{module_tree, lent_program}
use Rattle.wy_heads.proofs.atom_counts.programs_pass.Given as goal

abbrev pub invariant-loop-program : goal.invariant-loop-program
invariant-loop-program l = some_above 512 (map (program_count l.types (map module_tree l.modules) l.counts) (map lent_program (drop l.program-index l.programs))) ≡ some_above 512 (map (program_count l.types (map module_tree l.modules) l.counts) (map lent_program l.programs))
