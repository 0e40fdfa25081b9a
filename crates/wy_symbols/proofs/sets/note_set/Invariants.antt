use Rattle.std.proofs.Common.{◌≡◌, drop}
use Rattle.wy_symbols.specs.Least.{noted}
use Rattle.wy_symbols.specs.Atoms.{set_refusals}
use Rattle.wy_symbols.proofs.sets.note_set.Given as goal

abbrev pub invariant-loop-used : goal.invariant-loop-used
invariant-loop-used l = noted l.least (set_refusals l.scope (drop l.used-index l.uses)) ≡ noted l.initial.least (set_refusals l.scope l.uses)
