use Rattle.std.proofs.Common.{map, take, subst, refl}
use Rattle.wy_text.proofs.Lists.{each_more}
use Rattle.wy_types.specs.Program.{program_of, scope_of}
use Rattle.wy_premises.proofs.Trying.{false_tells, true_tells}
use Rattle.wy_proving.specs.Proving.{LineRule as Rule, RuleStands}
use Rattle.wy_recheck.specs.declared.lines.LineRule.{LineRule}
use Rattle.wy_recheck.specs.Rules.{rule_of}
use Rattle.wy_recheck.proofs.Firsts.{fails_first, passed_all}
use Rattle.wy_recheck.proofs.lines.Rules.test.Goals as goal

pub returns-then-not-branch-clause-first : goal.returns-then-not-branch-clause-first
returns-then-not-branch-clause-first c = λ x by.
    let P : Rule → Type 0 = RuleStands (program_of c.args.self.now.core.now) c.args.self.now.number (scope_of c.args.self.now.scope.now) x in
    let rules = c.args.rules.now in
    let i = c.loop-i.i in
    let r : LineRule = c.index-rules-i.result in
    let fails = false_tells (P (rule_of r)) c.in_ok-stands.field-0 (c.in_ok-stands.ensures x by) c.if-not-branch.true in
    fails_first rule_of P rules i (map rule_of (take i rules)) (record { same = refl; stand = c.loop-i.invariant x by }) r r c.loop-i-test.true c.index-rules-i.is fails

pub loop-i-preserved : goal.loop-i-preserved
loop-i-preserved c = λ x by.
    let P : LineRule → Type 0 = λ r. RuleStands (program_of c.args.self.now.core.now) c.args.self.now.number (scope_of c.args.self.now.scope.now) x (rule_of r) in
    let r : LineRule = c.index-rules-i.result in
    let stands = true_tells (P r) c.in_ok-stands.field-0 (c.in_ok-stands.ensures x by) c.if-not-branch.false in
    each_more P c.args.rules.now c.loop-i.i r c.loop-i-test.true (c.loop-i.invariant x by) (subst P c.index-rules-i.is stands)

pub returns-clause-hold : goal.returns-clause-hold
returns-clause-hold c = λ x by.
    let P : Rule → Type 0 = RuleStands (program_of c.args.self.now.core.now) c.args.self.now.number (scope_of c.args.self.now.scope.now) x in
    let rules = c.args.rules.now in
    let i = c.loop-i.i in
    (passed_all rule_of P rules i (map rule_of (take i rules)) (record { same = refl; stand = c.loop-i.invariant x by }) c.loop-i-test.false).1
