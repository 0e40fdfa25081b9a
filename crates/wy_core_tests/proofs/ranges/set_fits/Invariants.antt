use Rattle.std.proofs.Common.{◌<◌, take}
use Rattle.wy_effects.specs.declared.atom.Atom.{Atom}
use Rattle.wy_text.specs.Members.{In}
use Rattle.wy_core_tests.proofs.ranges.set_fits.Given as goal

abbrev pub invariant-loop-atom : goal.invariant-loop-atom
invariant-loop-atom l = (a : Atom) → In a (take l.atom-index l.atom-items) → a.0 < l.number
