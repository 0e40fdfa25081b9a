use Rattle.std.proofs.Common.{take}
use Rattle.wy_text.specs.Members.{In}
use Rattle.wy_types.specs.Program.{program_of, scope_of}
use Rattle.wy_cert.specs.declared.certificate.CertScope.{CertScope}
use Rattle.wy_proving.specs.Proving.{RuleStands}
use Rattle.wy_recheck.specs.declared.lines.LineRule.{LineRule}
use Rattle.wy_recheck.specs.Rules.{rule_of, IsListedBy}
use Rattle.wy_recheck.proofs.lines.Rules.test.Given as goal

abbrev pub invariant-loop-i : goal.invariant-loop-i
invariant-loop-i l =
    (c : CertScope) → IsListedBy l.self c → (r : LineRule) → In r (take l.i l.rules) → RuleStands (program_of l.self.core.now) l.self.number (scope_of l.self.scope.now) c (rule_of r)
