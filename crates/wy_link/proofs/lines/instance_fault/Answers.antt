use Rattle.wy_types.specs.Program.{program_of, scope_of}
use Rattle.wy_link.proofs.LineNodes.{instance_passes, instance_fails}
use Rattle.wy_link.proofs.lines.instance_fault.Goals as goal

pub returns-in-None-clause-outcome : goal.returns-in-None-clause-outcome
returns-in-None-clause-outcome c =
    instance_passes (program_of c.args.core.now) c.args.number (scope_of c.args.scope.now) c.args.name.now c.args.target c.args.arguments.now c.in_ok-instance_misfit.field-0 c.in-None.is c.in_ok-instance_misfit.ensures.outcome

pub returns-in_ok-fault-in-Some-clause-outcome : goal.returns-in_ok-fault-in-Some-clause-outcome
returns-in_ok-fault-in-Some-clause-outcome c =
    instance_fails (program_of c.args.core.now) c.args.number (scope_of c.args.scope.now) c.args.name.now c.args.target c.args.arguments.now c.in_ok-instance_misfit.field-0 c.in-Some.misfit c.in_ok-fault-in-Some.fault c.in-Some.is c.in_ok-fault-in-Some.ensures c.in_ok-instance_misfit.ensures.outcome
