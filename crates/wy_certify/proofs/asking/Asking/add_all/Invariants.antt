use Rattle.std.proofs.Common.{◌≡◌, ◌++◌, map, drop}
use Rattle.wy_types.specs.Program.{scope_of}
use Rattle.wy_rules.specs.Acceptance.{handed_to}
use Rattle.wy_certify.specs.Asking.{argument_asks}
use Rattle.wy_certify.specs.Pair.{pair_of}
use Rattle.wy_certify.proofs.asking.Asking.add_all.Given as goal

abbrev pub invariant-loop-i : goal.invariant-loop-i
invariant-loop-i l =
    map pair_of l.out ++ map (argument_asks (scope_of l.self.scope.now) l.asked) (handed_to (drop l.i l.parameters) (drop l.i l.arguments)) ≡
    map pair_of l.initial.out ++ map (argument_asks (scope_of l.self.scope.now) l.asked) (handed_to l.parameters l.arguments)
