use Rattle.std.proofs.Common.{◌≡◌, ◌++◌, ◌*◌, ◌≤◌, drop}
use Rattle.wy_verify.specs.Authority.{firsts_from, firsts_of}
use Rattle.wy_verify.proofs.authority.firsts_of.Given as goal

abbrev pub invariant-loop-grant : goal.invariant-loop-grant
invariant-loop-grant l =
    (l.firsts ++ firsts_from l.next (drop l.grant-index l.grants) ≡ firsts_of l.grants) × (l.next ≤ 5 * l.grant-index)
