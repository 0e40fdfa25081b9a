use Rattle.wy_sound.proofs.LinkingAtoms.{reported_atoms_are_granted}
use Rattle.wy_sound.proofs.telling.reported_atoms_are_granted.Goals as goal

pub returns : goal.returns
returns c = reported_atoms_are_granted
