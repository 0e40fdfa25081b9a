use Rattle.wy_types.specs.Program.{program_of, scope_of}
use Rattle.wy_judge.proofs.Contexts.{in_range}
use Rattle.wy_link.proofs.Ranges.{handed_as}
use Rattle.wy_link.proofs.Bounds.{excess_as}
use Rattle.wy_link.proofs.imports.excess.Goals as goal

pub effects-requires-clause-core : goal.effects-requires-clause-core
effects-requires-clause-core c = in_range (program_of c.args.core.now) c.args.number (scope_of c.args.scope.now) c.requires.context

pub widened-wide-requires : goal.widened-wide-requires
widened-wide-requires c = in_range (program_of c.args.core.now) c.args.number (scope_of c.args.scope.now) c.requires.context

pub effects-requires-clause-typ : goal.effects-requires-clause-typ
effects-requires-clause-typ c =
    handed_as (program_of c.args.core.now) c.args.number (scope_of c.args.scope.now) c.requires.context c.as_slice.result.now c.args.argument c.in_ok-typ.typ c.as_slice.ensures c.in_ok-typ.ensures

pub returns : goal.returns
returns c =
    excess_as (program_of c.args.core.now) c.args.number c.args.bound.now c.args.scope.now.names c.as_slice.result.now c.args.argument c.in_ok-typ.typ c.as_slice.ensures c.in_ok-typ.ensures
    c.widened-wide.result c.in_ok-found.found c.least_missing.result c.widened-wide.ensures.exact c.in_ok-found.ensures c.least_missing.ensures.none c.least_missing.ensures.some
