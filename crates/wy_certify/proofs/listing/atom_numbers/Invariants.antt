use Rattle.std.proofs.Common.{◌≡◌, take, map}
use Rattle.wy_effects.specs.declared.atom.Atom.{Atom}
use Rattle.wy_certify.proofs.listing.atom_numbers.Given as goal

abbrev pub invariant-loop-atom : goal.invariant-loop-atom
invariant-loop-atom l = l.numbers ≡ map (λ (a : Atom). a.0) (take l.atom-index l.atom-items)
