use Rattle.std.proofs.Common.{◌≡◌, ◌++◌, drop, map}
use Rattle.wy_types.specs.Program.{scope_of}
use Rattle.wy_symbols.specs.Least.{noted}
use Rattle.wy_names.specs.Scopes.{scope_of_program, programs_refusals}
use Rattle.wy_symbols.specs.Lent.{module_tree, lent_program}
use Rattle.wy_names.proofs.resolving.add_programs.Given as goal

abbrev pub invariant-loop-program : goal.invariant-loop-program
invariant-loop-program l = record {
  scopes :
      map scope_of l.scopes ++ map (scope_of_program l.heads (map module_tree l.modules)) (map lent_program (drop l.program-index l.programs)) ≡
      map scope_of l.initial.scopes ++ map (scope_of_program l.heads (map module_tree l.modules)) (map lent_program l.programs);
  least :
      noted l.least (programs_refusals l.heads (map module_tree l.modules) (map lent_program (drop l.program-index l.programs))) ≡
      noted l.initial.least (programs_refusals l.heads (map module_tree l.modules) (map lent_program l.programs));
}
