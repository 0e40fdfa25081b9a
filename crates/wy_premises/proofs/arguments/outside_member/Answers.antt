use Rattle.std.proofs.Common.{◌∙◌, ◌++◌, ap, subst}
use Rattle.wy_effects.specs.Bounds.{AreNone}
use Rattle.wy_effects.proofs.Ordering.{none_respected}
use Rattle.wy_types.specs.Program.{program_of}
use Rattle.wy_types.specs.Bounds.{bounds_of}
use Rattle.wy_types.specs.Ground.{argument_sets}
use Rattle.wy_rules.specs.Acceptance.{opened_members}
use Rattle.wy_premises.proofs.OutsideMembers.{outside_as}
use Rattle.wy_premises.proofs.arguments.outside_member.Goals as goal

pub returns-then-are_none : goal.returns-then-are_none
returns-then-are_none c =
    let p = program_of c.args.core.now in
    let n = c.args.parameter.now in
    let none = subst (λ v. AreNone v) c.opened_members-bounds.ensures (c.are_none.ensures.0 c.if-are_none.true) in
    none_respected (opened_members p n n.origin) (bounds_of p c.args.number) (argument_sets p c.args.outer.now n.origin n c.args.argument) none

pub returns : goal.returns
returns c =
    let p = program_of c.args.core.now in
    let n = c.args.parameter.now in
    let by = argument_sets p c.args.outer.now n.origin n c.args.argument in
    let sets = c.as_slice.ensures ∙ c.in_ok-add_argument_sets.ensures ∙ ap (λ l. l ++ by) c.new-sets.ensures in
    outside_as c.opened_members-bounds.result.now (opened_members p n n.origin) (bounds_of p c.args.number) c.as_slice.result.now by c.first_outside.result c.opened_members-bounds.ensures sets c.first_outside.ensures.none c.first_outside.ensures.some
