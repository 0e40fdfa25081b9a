use Rattle.std.proofs.Common.{◌≡◌, ℕ, Bool, take}
use Rattle.std.specs.List.{position_from}
use Rattle.indexmap.specs.IndexMap.{get}
use Rattle.wy_lower.specs.EmitIndexes.{key_of, same_key}
use Rattle.wy_lower.proofs.indexes.capture_places.Given as goal

abbrev pub invariant-loop-i : goal.invariant-loop-i
invariant-loop-i l = (q : Bool × ℕ × ℕ) → get same_key l.places q ≡ position_from (λ y. same_key (key_of y) q) 0 (take l.i l.variables)
