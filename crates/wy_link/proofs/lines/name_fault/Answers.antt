use Rattle.std.proofs.Common.{sym, subst}
use Rattle.wy_types.specs.Program.{program_of, scope_of}
use Rattle.wy_types.specs.declared.resolved.Origin.{Origin}
use Rattle.wy_rules.specs.Nodes.{line_nodes}
use Rattle.wy_link.specs.Lines.{NodesComeTo}
use Rattle.wy_link.proofs.lines.name_fault.Goals as goal

pub returns-in-Use-clause-outcome : goal.returns-in-Use-clause-outcome
returns-in-Use-clause-outcome c =
    let p = program_of c.args.core.now in
    let k = c.args.number in
    let s = scope_of c.args.scope.now in
    let n = c.args.name.now in
    subst (λ (o : Origin). NodesComeTo p k s (line_nodes n o) c.use_fault.result) (sym c.in-Use.is) (c.use_fault.ensures k s)
