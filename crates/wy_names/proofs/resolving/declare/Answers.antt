use Rattle.std.proofs.Common.{[], ◌++◌, map}
use Rattle.wy_symbols.specs.Declarations.{repeated, type_names, module_names}
use Rattle.wy_symbols.specs.Atoms.{primitive_names}
use Rattle.wy_symbols.specs.TypeUses.{declarations_refusals}
use Rattle.wy_symbols.specs.Lent.{lent_type, module_tree}
use Rattle.wy_symbols.proofs.Leasts.{noted_then}
use Rattle.wy_names.proofs.resolving.declare.Goals as goal

pub returns-clause-noted : goal.returns-clause-noted
returns-clause-noted c =
    noted_then c.args.least.now c.note_words.new.least c.declare_types.new.least
    (repeated primitive_names (type_names (map lent_type c.args.types.now)) ++ repeated [] (module_names (map module_tree c.args.modules.now)))
    (declarations_refusals c.args.heads.now (map lent_type c.args.types.now)) c.in_ok-note_words.ensures c.in_ok-declare_types.ensures.noted
