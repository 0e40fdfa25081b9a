use Rattle.std.proofs.Common.{drop, map}
use Rattle.wy_syntax.specs.declared.types.Name.{Name}
use Rattle.wy_syntax.specs.Collected.{Collected, Adds}
use Rattle.wy_symbols.proofs.naming.add_names.Given as goal

abbrev pub invariant-loop-thing : goal.invariant-loop-thing
invariant-loop-thing g l = (end : Collected Name) → Adds (map g.T.Named.name_of (drop l.thing-index l.things)) l.names end → Adds (map g.T.Named.name_of l.things) l.initial.names end
