use Rattle.std.proofs.Common.{◌≡◌, drop, map}
use Rattle.wy_symbols.specs.Least.{noted}
use Rattle.wy_symbols.specs.TypeUses.{not_abstract}
use Rattle.wy_symbols.proofs.type_uses.note_not_abstract.Given as goal

abbrev pub invariant-loop-thing : goal.invariant-loop-thing
invariant-loop-thing g l =
    noted l.least (not_abstract l.members (map g.T.Named.name_of (drop l.thing-index l.things))) ≡ noted l.initial.least (not_abstract l.members (map g.T.Named.name_of l.things))
