use Rattle.std.proofs.Common.{◌≡◌, ◌↔◌, true, false, sym, ap, subst}
use Rattle.std.specs.Option.{is_some}
use Rattle.wy_types.specs.Program.{program_of, scope_of}
use Rattle.wy_rules.specs.Acceptance.{handed_to, IsPlainArgument}
use Rattle.wy_subtype.specs.Decided.{About}
use Rattle.wy_judge.specs.Tables.{IsScopeOf}
use Rattle.wy_premises.specs.Tried.{OfEach, AreWritten}
use Rattle.wy_link.proofs.Premises.{bounded, safe, exceeds, unsafe, plain_as, other_plain_types, import_holds}
use Rattle.wy_link.proofs.Ranges.{parameters_written}
use Rattle.wy_link.proofs.imports.bound_misfit.Goals as goal

pub returns-then-is_some-clause-outcome : goal.returns-then-is_some-clause-outcome
returns-then-is_some-clause-outcome c =
    let some : is_some c.in_ok-above.above ≡ true = cc in
    exceeds (program_of c.args.core.now) c.args.number c.args.scope.now.names c.args.target c.args.arguments.now c.args.bound.now c.requires.numbers c.in_ok-above.above c.in_ok-above.ensures some

pub returns-then-is_some-2-clause-outcome : goal.returns-then-is_some-2-clause-outcome
returns-then-is_some-2-clause-outcome c =
    let p = program_of c.args.core.now in
    let k = c.args.number in
    let names = c.args.scope.now.names in
    let m = c.args.target in
    let arguments = c.args.arguments.now in
    let bound = c.args.bound.now in
    let not_above : is_some c.in_ok-above.above ≡ false = cc in
    let some : is_some c.in_ok-below.below ≡ true = cc in
    unsafe p k names m arguments bound c.requires.numbers c.in_ok-below.below (bounded p k names m arguments bound c.requires.numbers c.in_ok-above.above c.in_ok-above.ensures not_above) c.in_ok-below.ensures some

pub all_are_plain-requires-clause-context : goal.all_are_plain-requires-clause-context
all_are_plain-requires-clause-context c = subst (λ (a : About). IsScopeOf a.program a.scope (scope_of c.args.scope.now)) (sym c.requires.pairs) c.requires.context

pub all_are_plain-requires-clause-mode : goal.all_are_plain-requires-clause-mode
all_are_plain-requires-clause-mode c = ap (λ (a : About). a.mode) c.requires.pairs

pub all_are_plain-requires-clause-written : goal.all_are_plain-requires-clause-written
all_are_plain-requires-clause-written c =
    let p = program_of c.args.core.now in
    let written = subst (AreWritten p) (sym c.parameters_of-parameters.ensures) (parameters_written p c.requires.context.core c.args.target) in
    subst (λ (a : About). AreWritten a.program c.parameters_of-parameters.result.now) (sym c.requires.pairs) written

pub returns-then-not-branch-clause-outcome : goal.returns-then-not-branch-clause-outcome
returns-then-not-branch-clause-outcome c =
    let p = program_of c.args.core.now in
    let k = c.args.number in
    let names = c.args.scope.now.names in
    let m = c.args.target in
    let arguments = c.args.arguments.now in
    let bound = c.args.bound.now in
    let not_above : is_some c.in_ok-above.above ≡ false = cc in
    let not_below : is_some c.in_ok-below.below ≡ false = cc in
    let plain = subst (λ (a : About). (c.in_ok-all_are_plain.field-0 ≡ true) ↔ OfEach (IsPlainArgument a.program a.scope names) (handed_to c.parameters_of-parameters.result.now arguments)) c.requires.pairs c.in_ok-all_are_plain.ensures.outcome in
    other_plain_types p k names m arguments bound c.requires.numbers c.in_ok-all_are_plain.field-0
    (bounded p k names m arguments bound c.requires.numbers c.in_ok-above.above c.in_ok-above.ensures not_above)
    (safe p k names m arguments bound c.requires.numbers c.in_ok-below.below c.in_ok-below.ensures not_below)
    (plain_as p k names m arguments bound c.requires.numbers c.parameters_of-parameters.result.now c.in_ok-all_are_plain.field-0 c.parameters_of-parameters.ensures plain)
    c.if-not-branch.true

pub returns-clause-outcome : goal.returns-clause-outcome
returns-clause-outcome c =
    let p = program_of c.args.core.now in
    let k = c.args.number in
    let names = c.args.scope.now.names in
    let m = c.args.target in
    let arguments = c.args.arguments.now in
    let bound = c.args.bound.now in
    let not_above : is_some c.in_ok-above.above ≡ false = cc in
    let not_below : is_some c.in_ok-below.below ≡ false = cc in
    let plain = subst (λ (a : About). (c.in_ok-all_are_plain.field-0 ≡ true) ↔ OfEach (IsPlainArgument a.program a.scope names) (handed_to c.parameters_of-parameters.result.now arguments)) c.requires.pairs c.in_ok-all_are_plain.ensures.outcome in
    import_holds p k names m arguments bound c.requires.numbers c.in_ok-all_are_plain.field-0
    (bounded p k names m arguments bound c.requires.numbers c.in_ok-above.above c.in_ok-above.ensures not_above)
    (safe p k names m arguments bound c.requires.numbers c.in_ok-below.below c.in_ok-below.ensures not_below)
    (plain_as p k names m arguments bound c.requires.numbers c.parameters_of-parameters.result.now c.in_ok-all_are_plain.field-0 c.parameters_of-parameters.ensures plain)
    c.if-not-branch.false c.requires.holds
