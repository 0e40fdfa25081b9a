use Rattle.std.proofs.Common.{map, refl}
use Rattle.wy_syntax.specs.Views.{file_tree}
use Rattle.wy_symbols.specs.Declarations.{all_items}
use Rattle.wy_types.specs.Program.{program_of}
use Rattle.wy_engine.specs.Answering.{certified_trees, overlong_for, uncertified}
use Rattle.wy_engine.proofs.certifying.certify_trees.Goals as goal

pub certify-requires-clause-core : goal.certify-requires-clause-core
certify-requires-clause-core g c = c.resolved_is_core.ensures (all_items (map file_tree c.args.trees.now)) (program_of c.in-Ok.accepted.core) c.in-Ok.ensures.resolved

pub certify-requires-clause-accepted : goal.certify-requires-clause-accepted
certify-requires-clause-accepted g c = c.in-Ok.ensures.accepted.accepted.accepted

pub returns-in-Err : goal.returns-in-Err
returns-in-Err g c = uncertified c.in-Err.ensures.fails refl

pub returns-in-Ok-certify : goal.returns-in-Ok-certify
returns-in-Ok-certify g c =
    certified_trees (program_of c.in-Ok.accepted.core) c.in-Ok.ensures.resolved c.in-Ok.ensures.accepted.accepted c.in-Ok-certify.text c.in-Ok-certify.ensures.written (rw c.as_bytes.ensures at c.write_out.ensures)

pub returns : goal.returns
returns g c =
    overlong_for (program_of c.in-Ok.accepted.core) c.in-Ok.ensures.resolved c.in-Ok.ensures.accepted.accepted c.in-Err-certify.why c.in-Err-certify.ensures.refused c.certify_status.ensures refl
