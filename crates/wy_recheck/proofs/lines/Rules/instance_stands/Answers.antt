use Rattle.std.proofs.Common.{◌≡◌, ◌↔◌, true, false, subst}
use Rattle.std.specs.Option.{is_some}
use Rattle.wy_types.specs.Program.{program_of, scope_of}
use Rattle.wy_rules.specs.Acceptance.{parameters_of}
use Rattle.wy_premises.specs.Tried.{missing_atom}
use Rattle.wy_proving.specs.Proving.{RuleStands, instance_of}
use Rattle.wy_recheck.specs.Rules.{ArgumentOf}
use Rattle.wy_recheck.proofs.RulesTold.{not_back, of_parameters, opened_as, not_opened, not_listed, outside_as, rule_told}
use Rattle.wy_recheck.proofs.lines.Rules.instance_stands.Goals as goal

pub returns-then-not-branch : goal.returns-then-not-branch
returns-then-not-branch c = λ x by.
    let p = program_of c.args.self.now.core.now in
    let k = c.args.self.now.number in
    let s = scope_of c.args.self.now.scope.now in
    let m = c.args.target in
    let arguments = c.args.arguments.now in
    not_opened p k s x m arguments c.in_ok-all_have_opened.field-0
    (opened_as p k s x m arguments c.parameters_of-parameters.result.now c.as_slice-outer.result.now c.in_ok-all_have_opened.field-0 c.parameters_of-parameters.ensures c.as_slice-outer.ensures c.in_ok-all_have_opened.ensures)
    c.if-not-branch.true

pub returns-then-not-branch-2 : goal.returns-then-not-branch-2
returns-then-not-branch-2 c = λ x by.
    let p = program_of c.args.self.now.core.now in
    let k = c.args.self.now.number in
    let s = scope_of c.args.self.now.scope.now in
    let m = c.args.target in
    let arguments = c.args.arguments.now in
    let listed = of_parameters (ArgumentOf p s x m arguments) c.parameters_of-parameters.result.now (parameters_of p m) arguments c.in_ok-are_arguments.field-0 c.parameters_of-parameters.ensures (c.in_ok-are_arguments.ensures x by) in
    not_listed p k s x m arguments c.in_ok-are_arguments.field-0 listed c.if-not-branch-2.true

pub returns : goal.returns
returns c = λ x by.
    let p = program_of c.args.self.now.core.now in
    let k = c.args.self.now.number in
    let s = scope_of c.args.self.now.scope.now in
    let m = c.args.target in
    let arguments = c.args.arguments.now in
    let opened = opened_as p k s x m arguments c.parameters_of-parameters.result.now c.as_slice-outer.result.now c.in_ok-all_have_opened.field-0 c.parameters_of-parameters.ensures c.as_slice-outer.ensures c.in_ok-all_have_opened.ensures in
    let listed = of_parameters (ArgumentOf p s x m arguments) c.parameters_of-parameters.result.now (parameters_of p m) arguments c.in_ok-are_arguments.field-0 c.parameters_of-parameters.ensures (c.in_ok-are_arguments.ensures x by) in
    let lack = outside_as p k s x m arguments c.parameters_of-parameters.result.now c.as_slice-outer.result.now (missing_atom c.in_ok-outside.outside) c.parameters_of-parameters.ensures c.as_slice-outer.ensures c.in_ok-outside.ensures in
    let none : is_some c.disagreement.result ≡ false = cc in
    let Rule = RuleStands p k s x (instance_of m arguments) in
    subst (λ v. (v ≡ true) ↔ Rule) (not_back (is_some c.in_ok-outside.outside) c.is_none.result c.is_none.ensures) (rule_told p k s x m arguments c.disagreement.result c.disagreement.ensures none c.in_ok-all_have_opened.field-0 c.in_ok-are_arguments.field-0 opened c.if-not-branch.false listed c.if-not-branch-2.false c.in_ok-outside.outside lack)
