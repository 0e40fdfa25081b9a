use Rattle.std.proofs.Common.{◌≡◌, ◌↔◌, drop}
use Rattle.wy_rules.specs.Acceptance.{handed_to, IsPlainArgument}
use Rattle.wy_premises.specs.Tried.{OfEach}
use Rattle.wy_link.proofs.imports.all_are_plain.Given as goal

abbrev pub invariant-loop-i : goal.invariant-loop-i
invariant-loop-i l = record {
  tried :
      OfEach (IsPlainArgument l.initial.pairs.about.program l.initial.pairs.about.scope l.scope.names) (handed_to (drop l.i l.parameters) (drop l.i l.arguments)) ↔
      OfEach (IsPlainArgument l.initial.pairs.about.program l.initial.pairs.about.scope l.scope.names) (handed_to l.parameters l.arguments);
  same : l.pairs.about ≡ l.initial.pairs.about;
}
