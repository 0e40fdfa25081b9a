use Rattle.std.proofs.Common.{◌≡◌, ℕ, ◌++◌, map, drop}
use Rattle.wy_types.specs.Program.{program_of, scope_of}
use Rattle.wy_proving.specs.Written.{asked_by_all}
use Rattle.wy_recheck.specs.Rules.{rule_of}
use Rattle.wy_certify.specs.Asking.{asked_in}
use Rattle.wy_certify.specs.Pair.{pair_of}
use Rattle.wy_certify.proofs.asking.Asking.add_each.Given as goal

abbrev pub invariant-loop-rule : goal.invariant-loop-rule
invariant-loop-rule l =
    (k : ℕ) →
    map pair_of l.out ++ asked_by_all (asked_in l.self.mode (program_of l.self.core.now) k (scope_of l.self.scope.now)) (map rule_of (drop l.rule-index l.rules)) ≡
    map pair_of l.initial.out ++ asked_by_all (asked_in l.self.mode (program_of l.self.core.now) k (scope_of l.self.scope.now)) (map rule_of l.rules)
