use Rattle.std.proofs.Common.{◌≡◌, ◌++◌, drop, map}
use Rattle.wy_effects.specs.declared.atom.Atom.{Atom}
use Rattle.wy_types.specs.Keys.{set_key}
use Rattle.wy_types.proofs.key.add_set.Given as goal

abbrev pub invariant-loop-atom : goal.invariant-loop-atom
invariant-loop-atom l = l.out.items ++ set_key (map (λ (a : Atom). a.0) (drop l.atom-index l.atom-items)) ≡ l.initial.out.items ++ set_key l.set
