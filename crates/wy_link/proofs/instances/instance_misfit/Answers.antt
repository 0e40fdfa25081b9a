use Rattle.std.proofs.Common.{◌≡◌, ◌↔◌, false, true, sym, ap, subst}
use Rattle.std.specs.Option.{is_some}
use Rattle.wy_effects.specs.EffSet.{AreSets}
use Rattle.wy_types.specs.declared.resolved.ScopeKind.TheVariants.{Resource}
use Rattle.wy_types.specs.Program.{program_of, scope_of}
use Rattle.wy_rules.specs.Acceptance.{handed_to, IsArgument}
use Rattle.wy_subtype.specs.Decided.{About}
use Rattle.wy_judge.specs.Tables.{IsScopeOf}
use Rattle.wy_judge.proofs.Contexts.{in_range}
use Rattle.wy_premises.specs.Tried.{OfEach, AreWritten, OrFails, Agrees, Disagrees, missing_atom}
use Rattle.wy_link.proofs.Premises.{members_as, types_as, disagrees, lacks_members, other_types, instance_fits, outside_as, members_outside, instance_holds, sets_as}
use Rattle.wy_link.proofs.Ranges.{parameters_written, handed_are_sets}
use Rattle.wy_link.proofs.instances.instance_misfit.Goals as goal

pub returns-in-Some-clause-outcome : goal.returns-in-Some-clause-outcome
returns-in-Some-clause-outcome c =
    disagrees (program_of c.args.core.now) c.args.number c.args.scope.now.names c.args.target c.args.arguments.now c.disagreement.result c.in-Some.premise c.in-Some.is c.disagreement.ensures

pub returns-then-not-branch-clause-outcome : goal.returns-then-not-branch-clause-outcome
returns-then-not-branch-clause-outcome c =
    let p = program_of c.args.core.now in
    let k = c.args.number in
    let names = c.args.scope.now.names in
    let m = c.args.target in
    let arguments = c.args.arguments.now in
    let start = subst (OrFails (Agrees p Resource m arguments) (Disagrees p Resource m arguments)) c.in_default.is c.disagreement.ensures in
    lacks_members p k names m arguments c.in_ok-all_have_opened.field-0 start
    (members_as p k names m arguments c.parameters_of-parameters.result.now c.as_slice-outer.result.now c.in_ok-all_have_opened.field-0 c.parameters_of-parameters.ensures c.as_slice-outer.ensures c.in_ok-all_have_opened.ensures)
    c.if-not-branch.true

pub all_are_arguments-requires-clause-context : goal.all_are_arguments-requires-clause-context
all_are_arguments-requires-clause-context c = subst (λ (a : About). IsScopeOf a.program a.scope (scope_of c.args.scope.now)) (sym c.requires.pairs) c.requires.context

pub all_are_arguments-requires-clause-mode : goal.all_are_arguments-requires-clause-mode
all_are_arguments-requires-clause-mode c = ap (λ (a : About). a.mode) c.requires.pairs

pub all_are_arguments-requires-clause-written : goal.all_are_arguments-requires-clause-written
all_are_arguments-requires-clause-written c =
    let p = program_of c.args.core.now in
    let written = subst (AreWritten p) (sym c.parameters_of-parameters.ensures) (parameters_written p c.requires.context.core c.args.target) in
    subst (λ (a : About). AreWritten a.program c.parameters_of-parameters.result.now) (sym c.requires.pairs) written

pub all_are_arguments-requires-clause-sets : goal.all_are_arguments-requires-clause-sets
all_are_arguments-requires-clause-sets c =
    let p = program_of c.args.core.now in
    let k = c.args.number in
    let names = c.args.scope.now.names in
    let m = c.args.target in
    let arguments = c.args.arguments.now in
    let same = sets_as p k names m arguments c.names_of.result.now c.as_slice-outer.result.now c.in_ok-sets.sets c.as_slice.result.now c.names_of.ensures c.as_slice-outer.ensures c.in_ok-sets.ensures c.as_slice.ensures in
    subst (AreSets 512) (sym same) (handed_are_sets p k (scope_of c.args.scope.now) c.requires.context _ arguments)

pub returns-then-not-below-clause-outcome : goal.returns-then-not-below-clause-outcome
returns-then-not-below-clause-outcome c =
    let p = program_of c.args.core.now in
    let k = c.args.number in
    let names = c.args.scope.now.names in
    let m = c.args.target in
    let arguments = c.args.arguments.now in
    let start = subst (OrFails (Agrees p Resource m arguments) (Disagrees p Resource m arguments)) c.in_default.is c.disagreement.ensures in
    let same = sets_as p k names m arguments c.names_of.result.now c.as_slice-outer.result.now c.in_ok-sets.sets c.as_slice.result.now c.names_of.ensures c.as_slice-outer.ensures c.in_ok-sets.ensures c.as_slice.ensures in
    let below = subst (λ (a : About). (c.in_ok-below.below ≡ true) ↔ OfEach (IsArgument a.program a.scope names c.as_slice.result.now) (handed_to c.parameters_of-parameters.result.now arguments)) c.requires.pairs c.in_ok-below.ensures.outcome in
    other_types p k names m arguments c.in_ok-all_have_opened.field-0 c.in_ok-below.below start
    (members_as p k names m arguments c.parameters_of-parameters.result.now c.as_slice-outer.result.now c.in_ok-all_have_opened.field-0 c.parameters_of-parameters.ensures c.as_slice-outer.ensures c.in_ok-all_have_opened.ensures)
    c.if-not-branch.false
    (types_as p k names m arguments c.parameters_of-parameters.result.now c.as_slice.result.now c.in_ok-below.below c.parameters_of-parameters.ensures same below)
    c.if-not-below.true

pub first_outside_member-requires-clause-core : goal.first_outside_member-requires-clause-core
first_outside_member-requires-clause-core c = in_range (program_of c.args.core.now) c.args.number (scope_of c.args.scope.now) c.requires.context

pub returns-then-is_some-clause-outcome : goal.returns-then-is_some-clause-outcome
returns-then-is_some-clause-outcome c =
    let p = program_of c.args.core.now in
    let k = c.args.number in
    let names = c.args.scope.now.names in
    let m = c.args.target in
    let arguments = c.args.arguments.now in
    let start = subst (OrFails (Agrees p Resource m arguments) (Disagrees p Resource m arguments)) c.in_default.is c.disagreement.ensures in
    let same = sets_as p k names m arguments c.names_of.result.now c.as_slice-outer.result.now c.in_ok-sets.sets c.as_slice.result.now c.names_of.ensures c.as_slice-outer.ensures c.in_ok-sets.ensures c.as_slice.ensures in
    let below = subst (λ (a : About). (c.in_ok-below.below ≡ true) ↔ OfEach (IsArgument a.program a.scope names c.as_slice.result.now) (handed_to c.parameters_of-parameters.result.now arguments)) c.requires.pairs c.in_ok-below.ensures.outcome in
    let fits = instance_fits p k names m arguments c.in_ok-all_have_opened.field-0 c.in_ok-below.below start (members_as p k names m arguments c.parameters_of-parameters.result.now c.as_slice-outer.result.now c.in_ok-all_have_opened.field-0 c.parameters_of-parameters.ensures c.as_slice-outer.ensures c.in_ok-all_have_opened.ensures) c.if-not-branch.false (types_as p k names m arguments c.parameters_of-parameters.result.now c.as_slice.result.now c.in_ok-below.below c.parameters_of-parameters.ensures same below) c.if-not-below.false in
    let lack = outside_as p k names m arguments c.parameters_of-parameters.result.now c.as_slice-outer.result.now (missing_atom c.in_ok-outside.outside) c.parameters_of-parameters.ensures c.as_slice-outer.ensures c.in_ok-outside.ensures in
    let some : is_some c.in_ok-outside.outside ≡ true = cc in
    members_outside p k names m arguments fits c.in_ok-outside.outside lack some

pub returns-clause-outcome : goal.returns-clause-outcome
returns-clause-outcome c =
    let p = program_of c.args.core.now in
    let k = c.args.number in
    let names = c.args.scope.now.names in
    let m = c.args.target in
    let arguments = c.args.arguments.now in
    let start = subst (OrFails (Agrees p Resource m arguments) (Disagrees p Resource m arguments)) c.in_default.is c.disagreement.ensures in
    let same = sets_as p k names m arguments c.names_of.result.now c.as_slice-outer.result.now c.in_ok-sets.sets c.as_slice.result.now c.names_of.ensures c.as_slice-outer.ensures c.in_ok-sets.ensures c.as_slice.ensures in
    let below = subst (λ (a : About). (c.in_ok-below.below ≡ true) ↔ OfEach (IsArgument a.program a.scope names c.as_slice.result.now) (handed_to c.parameters_of-parameters.result.now arguments)) c.requires.pairs c.in_ok-below.ensures.outcome in
    let fits = instance_fits p k names m arguments c.in_ok-all_have_opened.field-0 c.in_ok-below.below start (members_as p k names m arguments c.parameters_of-parameters.result.now c.as_slice-outer.result.now c.in_ok-all_have_opened.field-0 c.parameters_of-parameters.ensures c.as_slice-outer.ensures c.in_ok-all_have_opened.ensures) c.if-not-branch.false (types_as p k names m arguments c.parameters_of-parameters.result.now c.as_slice.result.now c.in_ok-below.below c.parameters_of-parameters.ensures same below) c.if-not-below.false in
    let lack = outside_as p k names m arguments c.parameters_of-parameters.result.now c.as_slice-outer.result.now (missing_atom c.in_ok-outside.outside) c.parameters_of-parameters.ensures c.as_slice-outer.ensures c.in_ok-outside.ensures in
    let none : is_some c.in_ok-outside.outside ≡ false = cc in
    instance_holds p k names m arguments fits c.in_ok-outside.outside lack none
