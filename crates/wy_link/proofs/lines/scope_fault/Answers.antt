use Rattle.wy_types.specs.Program.{program_of, scope_of}
use Rattle.wy_judge.proofs.Contexts.{in_range}
use Rattle.wy_link.proofs.lines.scope_fault.Goals as goal

pub new-annotated-requires : goal.new-annotated-requires
new-annotated-requires c = record { core = in_range (program_of c.args.core.now) c.args.number (scope_of c.args.scope.now) c.requires.context }

pub new-plain-requires : goal.new-plain-requires
new-plain-requires c = record { core = in_range (program_of c.args.core.now) c.args.number (scope_of c.args.scope.now) c.requires.context }
