use Rattle.std.proofs.Common.{◌≡◌, ℕ, take, map}
use Rattle.std.specs.Ordering.{nat_cmp}
use Rattle.std.specs.BTreeMap.{get}
use Rattle.wy_symbols.specs.Lent.{lent_text}
use Rattle.wy_bodies.specs.Written.{mark}
use Rattle.wy_bodies.proofs.captures.marked.Given as goal

abbrev pub invariant-loop-name : goal.invariant-loop-name
invariant-loop-name l = (k : ℕ) → get nat_cmp l.marks k ≡ mark l.variables (map lent_text (take l.name-index l.names)) k
