use Rattle.std.proofs.Common.{◌↔◌, drop}
use Rattle.wy_types.specs.Program.{scope_of}
use Rattle.wy_rules.specs.Acceptance.{handed_to}
use Rattle.wy_cert.specs.declared.certificate.CertScope.{CertScope}
use Rattle.wy_premises.specs.Tried.{OfEach}
use Rattle.wy_recheck.specs.Rules.{IsListedBy, AskedOf}
use Rattle.wy_recheck.proofs.lines.Rules.all_are_asked.Given as goal

abbrev pub invariant-loop-i : goal.invariant-loop-i
invariant-loop-i l =
    (c : CertScope) → IsListedBy l.self c →
    OfEach (AskedOf (scope_of l.self.scope.now) c l.asked) (handed_to (drop l.i l.parameters) (drop l.i l.arguments)) ↔ OfEach (AskedOf (scope_of l.self.scope.now) c l.asked) (handed_to l.parameters l.arguments)
