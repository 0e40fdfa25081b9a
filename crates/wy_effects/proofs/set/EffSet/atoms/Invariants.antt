use Rattle.std.proofs.Common.{◌≡◌, ◌≤◌, ◌-◌, ◌++◌, map}
use Rattle.wy_effects.specs.declared.atom.Atom.{Atom}
use Rattle.wy_effects.proofs.Numbers.{from_on}
use Rattle.wy_effects.proofs.set.EffSet.atoms.Given as goal

abbrev pub invariant-loop-atom : goal.invariant-loop-atom
invariant-loop-atom l = (map (λ (a : Atom). a.0) l.out.items ++ from_on l.from l.self ≡ l.self) × (l.from ≤ 512)

abbrev pub decreases-loop-atom : goal.decreases-loop-atom
decreases-loop-atom l = 512 - l.from
