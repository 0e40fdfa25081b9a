use Rattle.std.proofs.Common.{subst}
use Rattle.wy_types.specs.declared.resolved.ScopeKind.TheVariants.{Plain}
use Rattle.wy_types.specs.Program.{program_of, scope_of}
use Rattle.wy_premises.specs.Tried.{OrFails, Agrees, Disagrees}
use Rattle.wy_link.proofs.LineNodes.{plain_holds, import_misfits, bound_passes, bound_fails}
use Rattle.wy_link.proofs.lines.import_fault.Goals as goal

pub returns-in-Some-clause-outcome : goal.returns-in-Some-clause-outcome
returns-in-Some-clause-outcome c =
    import_misfits (program_of c.args.core.now) c.args.number (scope_of c.args.scope.now) c.args.name.now c.args.target c.args.arguments.now c.args.bound.now c.disagreement.result c.in-Some.premise c.fault_at.result c.in-Some.is c.fault_at.ensures c.disagreement.ensures

pub bound_misfit-requires-clause-numbers : goal.bound_misfit-requires-clause-numbers
bound_misfit-requires-clause-numbers c =
    let p = program_of c.args.core.now in
    let names = c.args.scope.now.names in
    let a = subst (OrFails (Agrees p Plain c.args.target c.args.arguments.now) (Disagrees p Plain c.args.target c.args.arguments.now)) c.in_default.is c.disagreement.ensures in
    a.1

pub bound_misfit-requires-clause-holds : goal.bound_misfit-requires-clause-holds
bound_misfit-requires-clause-holds c =
    let p = program_of c.args.core.now in
    let names = c.args.scope.now.names in
    let a = subst (OrFails (Agrees p Plain c.args.target c.args.arguments.now) (Disagrees p Plain c.args.target c.args.arguments.now)) c.in_default.is c.disagreement.ensures in
    plain_holds p c.args.number names c.args.target c.requires.plain a.0

pub returns-in-None-clause-outcome : goal.returns-in-None-clause-outcome
returns-in-None-clause-outcome c =
    let p = program_of c.args.core.now in
    let names = c.args.scope.now.names in
    let a = subst (OrFails (Agrees p Plain c.args.target c.args.arguments.now) (Disagrees p Plain c.args.target c.args.arguments.now)) c.in_default.is c.disagreement.ensures in
    bound_passes p c.args.number (scope_of c.args.scope.now) c.args.name.now c.args.target c.args.arguments.now c.args.bound.now c.in_ok-bound_misfit.field-0 a c.in-None.is c.in_ok-bound_misfit.ensures.outcome

pub returns-in_ok-fault-in-Some-2-clause-outcome : goal.returns-in_ok-fault-in-Some-2-clause-outcome
returns-in_ok-fault-in-Some-2-clause-outcome c =
    let p = program_of c.args.core.now in
    let names = c.args.scope.now.names in
    let a = subst (OrFails (Agrees p Plain c.args.target c.args.arguments.now) (Disagrees p Plain c.args.target c.args.arguments.now)) c.in_default.is c.disagreement.ensures in
    bound_fails p c.args.number (scope_of c.args.scope.now) c.args.name.now c.args.target c.args.arguments.now c.args.bound.now c.in_ok-bound_misfit.field-0 c.in-Some-2.misfit c.in_ok-fault-in-Some-2.fault a c.in-Some-2.is c.in_ok-fault-in-Some-2.ensures c.in_ok-bound_misfit.ensures.outcome
