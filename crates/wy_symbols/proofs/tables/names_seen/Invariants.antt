use Rattle.std.proofs.Common.{◌≡◌, ℕ, List, take, is_some}
use Rattle.indexmap.specs.IndexMap.{get}
use Rattle.wy_symbols.specs.Declarations.{same_name, has_name}
use Rattle.wy_symbols.proofs.tables.names_seen.Given as goal

abbrev pub invariant-loop-name : goal.invariant-loop-name
invariant-loop-name l = (x : List ℕ) → is_some (get same_name l.seen x) ≡ has_name x (take l.name-index l.names)
