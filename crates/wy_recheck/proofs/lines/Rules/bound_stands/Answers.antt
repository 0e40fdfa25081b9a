use Rattle.std.proofs.lemmas.Result.{IfOk-weaker}
use Rattle.wy_types.specs.Types.{annotated, erased}
use Rattle.wy_types.specs.Program.{program_of, scope_of}
use Rattle.wy_rules.specs.Acceptance.{Handed, argument_type, parameters_of, AllHanded}
use Rattle.wy_proving.specs.Proving.{IsListed, IsListedPlain}
use Rattle.wy_recheck.proofs.RulesTold.{first_false, second_tells, of_parameters}
use Rattle.wy_recheck.proofs.lines.Rules.bound_stands.Goals as goal

pub returns-then-not-branch : goal.returns-then-not-branch
returns-then-not-branch c = λ x by.
    let p = program_of c.args.self.now.core.now in
    let k = c.args.self.now.number in
    let s = scope_of c.args.self.now.scope.now in
    let m = c.args.target in
    let arguments = c.args.arguments.now in
    let P : Handed → Type 0 = λ h. IsListed p k s x (argument_type p k s.names h) (annotated c.args.bound.now (erased (argument_type p k s.names h))) in
    let Q : Handed → Type 0 = λ h. IsListedPlain p k s x (argument_type p k s.names h) h.parameter.typ in
    let first = of_parameters P c.parameters_of-parameters.result.now (parameters_of p m) arguments c.in_ok-all_are_asked.field-0 c.parameters_of-parameters.ensures (c.in_ok-all_are_asked.ensures x by) in
    first_false (AllHanded p k s.names P m arguments) (AllHanded p k s.names Q m arguments) c.in_ok-all_are_asked.field-0 first c.if-not-branch.true

pub returns : goal.returns
returns c =
    IfOk-weaker c.all_are_asked-2.result _ _
    (λ b told x by.
    let p = program_of c.args.self.now.core.now in
    let k = c.args.self.now.number in
    let s = scope_of c.args.self.now.scope.now in
    let m = c.args.target in
    let arguments = c.args.arguments.now in
    let P : Handed → Type 0 = λ h. IsListed p k s x (argument_type p k s.names h) (annotated c.args.bound.now (erased (argument_type p k s.names h))) in
    let Q : Handed → Type 0 = λ h. IsListedPlain p k s x (argument_type p k s.names h) h.parameter.typ in
    let ps = c.parameters_of-parameters.result.now in
    let first = of_parameters P ps (parameters_of p m) arguments c.in_ok-all_are_asked.field-0 c.parameters_of-parameters.ensures (c.in_ok-all_are_asked.ensures x by) in
    let second = of_parameters Q ps (parameters_of p m) arguments b c.parameters_of-parameters.ensures (told x by) in
    second_tells (AllHanded p k s.names P m arguments) (AllHanded p k s.names Q m arguments) c.in_ok-all_are_asked.field-0 b first c.if-not-branch.false second)
    c.all_are_asked-2.ensures
