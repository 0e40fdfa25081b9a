use Rattle.std.proofs.Common.{◌≡◌, ℕ, List, take}
use Rattle.std.specs.Prelude.{bytes_eq}
use Rattle.std.specs.List.{position_from}
use Rattle.indexmap.specs.IndexMap.{get}
use Rattle.wy_types.specs.declared.linked.Instance.{Instance}
use Rattle.wy_lower.proofs.starting.instance_numbers.Given as goal

abbrev pub invariant-loop-i : goal.invariant-loop-i
invariant-loop-i l = (x : List ℕ) → get bytes_eq l.numbers x ≡ position_from (λ (s : Instance). bytes_eq s.name x) 0 (take l.i l.instances)
