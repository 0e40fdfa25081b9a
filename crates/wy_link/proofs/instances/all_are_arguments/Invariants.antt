use Rattle.std.proofs.Common.{◌≡◌, ◌↔◌, drop}
use Rattle.wy_rules.specs.Acceptance.{handed_to, IsArgument}
use Rattle.wy_premises.specs.Tried.{OfEach}
use Rattle.wy_link.proofs.instances.all_are_arguments.Given as goal

abbrev pub invariant-loop-i : goal.invariant-loop-i
invariant-loop-i l = record {
  tried :
      OfEach (IsArgument l.initial.pairs.about.program l.initial.pairs.about.scope l.scope.names l.sets) (handed_to (drop l.i l.parameters) (drop l.i l.arguments)) ↔
      OfEach (IsArgument l.initial.pairs.about.program l.initial.pairs.about.scope l.scope.names l.sets) (handed_to l.parameters l.arguments);
  same : l.pairs.about ≡ l.initial.pairs.about;
}
