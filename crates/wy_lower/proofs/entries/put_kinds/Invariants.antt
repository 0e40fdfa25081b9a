use Rattle.std.proofs.Common.{◌≡◌, drop}
use Rattle.wy_types.specs.Program.{scope_of}
use Rattle.wy_lower.specs.Parts.{each_once_after}
use Rattle.wy_lower.specs.Lowering.{kinds_names}
use Rattle.wy_lower.proofs.entries.put_kinds.Given as goal

abbrev pub invariant-loop-k : goal.invariant-loop-k
invariant-loop-k l =
    each_once_after l.table.keys (kinds_names l.k (drop l.k (scope_of l.scope).literals) (scope_of l.scope).bodies) ≡ each_once_after l.initial.table.keys (kinds_names 0 (scope_of l.scope).literals (scope_of l.scope).bodies)
