use Rattle.std.proofs.Common.{◌≡◌, ℕ, List, ◌++◌, take, drop, map, is_some}
use Rattle.indexmap.specs.IndexMap.{get}
use Rattle.wy_symbols.specs.Least.{noted}
use Rattle.wy_symbols.specs.Declarations.{same_name, has_name, repeated, texts}
use Rattle.wy_symbols.proofs.tables.note_repeated.Given as goal

abbrev pub invariant-loop-thing : goal.invariant-loop-thing
invariant-loop-thing g l = record {
  seen : (x : List ℕ) → is_some (get same_name l.seen x) ≡ has_name x (l.before ++ texts (map g.T.Named.name_of (take l.thing-index l.things)));
  least : noted l.least (repeated (l.before ++ texts (map g.T.Named.name_of (take l.thing-index l.things))) (map g.T.Named.name_of (drop l.thing-index l.things))) ≡ noted l.initial.least (repeated l.before (map g.T.Named.name_of l.things));
}
