use Rattle.std.proofs.Common.{◌≡◌, ℕ, List, take}
use Rattle.indexmap.specs.IndexMap.{get}
use Rattle.wy_symbols.specs.Declarations.{same_name, first_from}
use Rattle.wy_symbols.proofs.tables.first_numbers.Given as goal

abbrev pub invariant-loop-i : goal.invariant-loop-i
invariant-loop-i l = (x : List ℕ) → get same_name l.map x ≡ first_from 0 (take l.i l.names) x
