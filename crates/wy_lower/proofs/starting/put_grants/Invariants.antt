use Rattle.std.proofs.Common.{◌≡◌, ◌++◌, drop}
use Rattle.wy_lower.specs.Lowering.{grants_code}
use Rattle.wy_lower.proofs.starting.put_grants.Given as goal

abbrev pub invariant-loop-own : goal.invariant-loop-own
invariant-loop-own l = l.grants ++ grants_code (drop l.own-index l.names) ≡ grants_code l.names
