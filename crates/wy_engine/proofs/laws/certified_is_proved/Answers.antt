use Rattle.std.proofs.Common.{refl}
use Rattle.wy_symbols.specs.Declarations.{all_items}
use Rattle.wy_types.specs.Core.{IsCore}
use Rattle.wy_engine.proofs.laws.certified_is_proved.Goals as goal

pub returns : goal.returns
returns c = λ texts program bytes passes is.
    let core : IsCore program = c.resolved_is_core.ensures (all_items passes.read.trees) program passes.read.resolves in
    record {
      resolve = record { under = record { bytes = bytes; texts = texts; split = refl }; within = is.3; read = passes.read };
      proves = (is.0, is.2, c.certificates_prove.ensures program core passes.accepted.accepted is.0 is.1);
    }
