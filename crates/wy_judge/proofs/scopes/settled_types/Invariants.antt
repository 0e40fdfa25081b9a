use Rattle.std.proofs.Common.{◌≡◌, take}
use Rattle.wy_judge.specs.Walking.{settled_types}
use Rattle.wy_judge.proofs.scopes.settled_types.Given as goal

abbrev pub invariant-loop-known : goal.invariant-loop-known
invariant-loop-known l = l.types ≡ settled_types (take l.known-index l.table)
