use Rattle.std.proofs.Common.{map, refl}
use Rattle.wy_syntax.specs.Views.{file_tree}
use Rattle.wy_symbols.specs.Declarations.{all_items}
use Rattle.wy_types.specs.Program.{program_of}
use Rattle.wy_engine.specs.Answering.{disproved, proved_trees, unnamed}
use Rattle.wy_engine.proofs.certifying.recheck_trees.Goals as goal

pub recheck-requires : goal.recheck-requires
recheck-requires g c = record { core = c.resolved_is_core.ensures (all_items (map file_tree c.args.trees.now)) (program_of c.in-Ok.core) c.in-Ok.ensures.core }

pub returns-in-Err : goal.returns-in-Err
returns-in-Err g c = unnamed c.in-Err.why c.in-Err.ensures.refusal c.names_status.ensures refl

pub returns-in-Ok-recheck : goal.returns-in-Ok-recheck
returns-in-Ok-recheck g c = proved_trees (program_of c.in-Ok.core) c.in-Ok.ensures.core c.in-Ok-recheck.ensures.proved c.write_out.ensures

pub returns : goal.returns
returns g c = disproved (program_of c.in-Ok.core) c.in-Ok.ensures.core c.in-Err-recheck.why c.in-Err-recheck.ensures.refused c.recheck_status.ensures refl
