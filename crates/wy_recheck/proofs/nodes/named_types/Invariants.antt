use Rattle.std.proofs.Common.{◌≡◌, drop}
use Rattle.wy_proving.specs.Certified.{named_types}
use Rattle.wy_recheck.proofs.NodesNamed.{prefixed}
use Rattle.wy_recheck.proofs.nodes.named_types.Given as goal

abbrev pub invariant-loop-number : goal.invariant-loop-number
invariant-loop-number l = named_types l.types l.numbers ≡ prefixed l.named (named_types l.types (drop l.number-index l.numbers))
