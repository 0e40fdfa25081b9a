use Rattle.wy_types.specs.declared.resolved.ScopeKind.TheVariants.{Pure}
use Rattle.wy_types.specs.Program.{program_of}
use Rattle.wy_rules.specs.Acceptance.{IsOfKind}
use Rattle.wy_premises.proofs.Trying.{false_tells}
use Rattle.wy_link.proofs.LineNodes.{use_passes, use_fails}
use Rattle.wy_link.proofs.lines.use_fault.Goals as goal

pub returns-then-is_of_kind : goal.returns-then-is_of_kind
returns-then-is_of_kind c = use_passes (program_of c.args.core.now) c.args.name.now c.args.target (c.is_of_kind.ensures.0 c.if-is_of_kind.true)

pub returns : goal.returns
returns c =
    use_fails (program_of c.args.core.now) c.args.name.now c.args.target c.fault_at.result c.fault_at.ensures
    (false_tells (IsOfKind (program_of c.args.core.now) Pure c.args.target) c.is_of_kind.result c.is_of_kind.ensures c.if-is_of_kind.false)
