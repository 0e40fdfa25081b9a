use Rattle.wy_types.specs.Program.{program_of}
use Rattle.wy_bounds.proofs.path_effects.ho_effects.Goals as goal

pub returns : goal.returns
returns c = c.ho_effects.ensures (program_of c.args.core.now) c.args.scope c.args.t.now c.in_ok-matrix.ensures
