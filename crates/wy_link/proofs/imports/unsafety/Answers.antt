use Rattle.wy_types.specs.Program.{program_of, scope_of}
use Rattle.wy_judge.proofs.Contexts.{in_range}
use Rattle.wy_link.proofs.Ranges.{handed_as}
use Rattle.wy_link.proofs.Bounds.{safety_as, lack_as}
use Rattle.wy_link.proofs.imports.unsafety.Goals as goal

pub ho_safe-requires-clause-core : goal.ho_safe-requires-clause-core
ho_safe-requires-clause-core c = in_range (program_of c.args.core.now) c.args.number (scope_of c.args.scope.now) c.requires.context

pub ho_safe-requires-clause-typ : goal.ho_safe-requires-clause-typ
ho_safe-requires-clause-typ c =
    handed_as (program_of c.args.core.now) c.args.number (scope_of c.args.scope.now) c.requires.context c.as_slice.result.now c.args.argument c.in_ok-typ.typ c.as_slice.ensures c.in_ok-typ.ensures

pub returns-in-Yes : goal.returns-in-Yes
returns-in-Yes c =
    safety_as (program_of c.args.core.now) c.args.number c.args.bound.now c.args.scope.now.names c.as_slice.result.now c.args.argument c.in_ok-typ.typ c.as_slice.ensures c.in_ok-typ.ensures
    c.in_ok-ho_safe.field-0 c.in-Yes.is c.in_ok-ho_safe.ensures.answer

pub returns : goal.returns
returns c =
    lack_as (program_of c.args.core.now) c.args.number c.args.bound.now c.args.scope.now.names c.as_slice.result.now c.args.argument c.in_ok-typ.typ c.as_slice.ensures c.in_ok-typ.ensures
    c.in_ok-ho_safe.field-0 _ c.in-No.atom c.in-No.is c.in_ok-ho_safe.ensures.answer
