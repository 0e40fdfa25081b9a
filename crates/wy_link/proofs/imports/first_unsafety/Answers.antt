use Rattle.std.proofs.Common.{get_or, sym}
use Rattle.wy_effects.proofs.Walks.{drop_none}
use Rattle.wy_types.specs.Program.{program_of}
use Rattle.wy_premises.specs.Tried.{FirstLack}
use Rattle.wy_link.specs.Tried.{Safe, Unsafe}
use Rattle.wy_premises.proofs.Trying.{number_at, first_past, first_lack, first_none}
use Rattle.wy_link.proofs.imports.first_unsafety.Goals as goal

pub returns-then-is_some : goal.returns-then-is_some
returns-then-is_some c =
    let Holds = Safe (program_of c.args.core.now) c.args.number c.args.scope.now.names c.args.bound.now in
    let Lacks = Unsafe (program_of c.args.core.now) c.args.number c.args.scope.now.names c.args.bound.now in
    let arguments = c.args.arguments.now in
    let i = c.loop-argument.argument-index in
    first_lack Holds Lacks (FirstLack Holds Lacks arguments) _ _ (get_or arguments i 0) c.in_ok-missing.missing (number_at arguments i c.loop-argument-test.true) (sym c.if-is_some.ensures) c.in_ok-missing.ensures c.loop-argument.invariant

pub loop-argument-preserved : goal.loop-argument-preserved
loop-argument-preserved c =
    let Holds = Safe (program_of c.args.core.now) c.args.number c.args.scope.now.names c.args.bound.now in
    let Lacks = Unsafe (program_of c.args.core.now) c.args.number c.args.scope.now.names c.args.bound.now in
    let arguments = c.args.arguments.now in
    let i = c.loop-argument.argument-index in
    first_past Holds Lacks (FirstLack Holds Lacks arguments) _ _ (get_or arguments i 0) c.in_ok-missing.missing (number_at arguments i c.loop-argument-test.true) (sym c.if-is_some.ensures) c.in_ok-missing.ensures c.loop-argument.invariant

pub returns : goal.returns
returns c =
    let Holds = Safe (program_of c.args.core.now) c.args.number c.args.scope.now.names c.args.bound.now in
    let Lacks = Unsafe (program_of c.args.core.now) c.args.number c.args.scope.now.names c.args.bound.now in
    let arguments = c.args.arguments.now in
    first_none Holds Lacks (FirstLack Holds Lacks arguments) _ (drop_none arguments c.loop-argument.argument-index c.loop-argument-test.false) c.loop-argument.invariant
