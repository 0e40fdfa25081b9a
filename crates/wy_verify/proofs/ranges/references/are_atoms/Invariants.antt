use Rattle.std.proofs.Common.{take}
use Rattle.wy_image.specs.declared.typing.Atom.{Atom}
use Rattle.wy_text.specs.Members.{In}
use Rattle.wy_verified.specs.Ranges.{AtomInRange}
use Rattle.wy_verify.proofs.ranges.references.are_atoms.Given as goal

abbrev pub invariant-loop-atom : goal.invariant-loop-atom
invariant-loop-atom l = (x : Atom) → In x (take l.atom-index l.atoms) → AtomInRange l.file x
