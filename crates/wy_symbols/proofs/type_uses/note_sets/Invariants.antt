use Rattle.std.proofs.Common.{◌≡◌, drop}
use Rattle.wy_symbols.specs.Least.{noted}
use Rattle.wy_symbols.specs.TypeUses.{sets_refusals}
use Rattle.wy_symbols.proofs.type_uses.note_sets.Given as goal

abbrev pub invariant-loop-set : goal.invariant-loop-set
invariant-loop-set l = noted l.least (sets_refusals l.scope (drop l.set-index l.sets)) ≡ noted l.initial.least (sets_refusals l.scope l.sets)
