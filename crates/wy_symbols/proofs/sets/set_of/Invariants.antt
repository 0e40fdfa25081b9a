use Rattle.std.proofs.Common.{◌≡◌, ◌-◌, drop, length}
use Rattle.wy_symbols.specs.Atoms.{set_of}
use Rattle.wy_symbols.proofs.sets.set_of.Given as goal

abbrev pub invariant-loop-i : goal.invariant-loop-i
invariant-loop-i l = l.set ≡ set_of l.scope (drop (length l.uses - l.i) l.uses)
