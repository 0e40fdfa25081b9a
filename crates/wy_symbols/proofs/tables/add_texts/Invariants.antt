use Rattle.std.proofs.Common.{◌≡◌, ◌++◌, drop, map}
use Rattle.wy_symbols.specs.Declarations.{texts}
use Rattle.wy_symbols.proofs.tables.add_texts.Given as goal

abbrev pub invariant-loop-thing : goal.invariant-loop-thing
invariant-loop-thing g l =
    l.names.items ++ texts (map g.T.Named.name_of (drop l.thing-index l.things)) ≡ l.initial.names.items ++ texts (map g.T.Named.name_of l.things)
