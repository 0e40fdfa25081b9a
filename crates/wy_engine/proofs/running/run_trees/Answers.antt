use Rattle.std.proofs.Common.{map, refl}
use Rattle.wy_syntax.specs.Views.{file_tree}
use Rattle.wy_types.specs.Program.{program_of}
use Rattle.wy_engine.specs.Answering.{accepted_trees, fails_check}
use Rattle.wy_engine.proofs.Doing.{passes_check}
use Rattle.wy_engine.proofs.running.run_trees.Goals as goal

pub run_accepted-requires-clause-meant : goal.run_accepted-requires-clause-meant
run_accepted-requires-clause-meant g c =
    c.accepted_run_as_meant.ensures c.requires.of_files.texts (program_of c.in-Ok.accepted.core)
    (passes_check c.requires.of_files.texts (map file_tree c.args.trees.now) (program_of c.in-Ok.accepted.core) c.requires.of_files.have c.in-Ok.ensures.resolved c.in-Ok.ensures.accepted.accepted)

pub returns-in-Ok : goal.returns-in-Ok
returns-in-Ok g c = accepted_trees (program_of c.in-Ok.accepted.core) c.in-Ok.ensures.resolved c.in-Ok.ensures.accepted.accepted c.run_accepted.ensures

pub returns-in-Err : goal.returns-in-Err
returns-in-Err g c = fails_check c.in-Err.ensures.fails refl refl refl
