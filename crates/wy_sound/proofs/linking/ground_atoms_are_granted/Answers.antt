use Rattle.wy_sound.proofs.LinkingAtoms.{ground_atoms_are_granted}
use Rattle.wy_sound.proofs.linking.ground_atoms_are_granted.Goals as goal

pub returns : goal.returns
returns c = ground_atoms_are_granted
