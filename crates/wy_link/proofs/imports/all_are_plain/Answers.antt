use Rattle.std.proofs.Common.{◌≡◌, ◌↔◌, get_or, sym, ap, subst, ◌∙◌, true}
use Rattle.wy_text.proofs.Lists.{In-read}
use Rattle.wy_types.specs.Program.{scope_of}
use Rattle.wy_types.specs.Fitting.{FitsType}
use Rattle.wy_rules.specs.Acceptance.{handed_to, IsPlainArgument}
use Rattle.wy_subtype.specs.Decided.{About}
use Rattle.wy_judge.specs.Tables.{IsScopeOf}
use Rattle.wy_premises.specs.Tried.{handed_pair, OfEach}
use Rattle.wy_premises.proofs.Trying.{handed_at, one_more, one_fails, told_false, false_tells, true_tells}
use Rattle.wy_link.proofs.imports.all_are_plain.Goals as goal

pub is_plain_argument-requires-clause-context : goal.is_plain_argument-requires-clause-context
is_plain_argument-requires-clause-context c =
    subst (λ (a : About). IsScopeOf a.program a.scope (scope_of c.args.scope.now)) (sym c.loop-i.invariant.same) c.requires.context

pub is_plain_argument-requires-clause-mode : goal.is_plain_argument-requires-clause-mode
is_plain_argument-requires-clause-mode c = ap (λ (a : About). a.mode) c.loop-i.invariant.same ∙ c.requires.mode

pub is_plain_argument-requires-clause-written : goal.is_plain_argument-requires-clause-written
is_plain_argument-requires-clause-written c =
    let n = c.index-parameters-i.result in
    subst (λ (a : About). FitsType a.program 512 0 n.typ) (sym c.loop-i.invariant.same) (c.requires.written n (In-read c.args.parameters.now c.loop-i.i n n c.loop-i-test.true c.index-parameters-i.is))

pub returns-then-not-branch-clause-outcome : goal.returns-then-not-branch-clause-outcome
returns-then-not-branch-clause-outcome c =
    let a = c.args.pairs.now.about in
    let Holds = IsPlainArgument a.program a.scope c.args.scope.now.names in
    let ns = c.args.parameters.now in
    let arguments = c.args.arguments.now in
    let i = c.loop-i.i in
    let n = c.index-parameters-i.result in
    let h = handed_pair n (get_or arguments i 0) in
    let told = subst (λ (b : About). (c.in_ok-is_plain_argument.field-0 ≡ true) ↔ IsPlainArgument b.program b.scope c.args.scope.now.names h) c.loop-i.invariant.same c.in_ok-is_plain_argument.ensures.outcome in
    let W = OfEach Holds (handed_to ns arguments) in
    told_false W (one_fails Holds W _ _ h (handed_at ns arguments i n c.loop-i-test.true c.requires.numbers c.index-parameters-i.is)
    (false_tells (Holds h) c.in_ok-is_plain_argument.field-0 told c.if-not-branch.true) c.loop-i.invariant.tried)

pub loop-i-preserved : goal.loop-i-preserved
loop-i-preserved c =
    let a = c.args.pairs.now.about in
    let Holds = IsPlainArgument a.program a.scope c.args.scope.now.names in
    let ns = c.args.parameters.now in
    let arguments = c.args.arguments.now in
    let i = c.loop-i.i in
    let n = c.index-parameters-i.result in
    let h = handed_pair n (get_or arguments i 0) in
    let told = subst (λ (b : About). (c.in_ok-is_plain_argument.field-0 ≡ true) ↔ IsPlainArgument b.program b.scope c.args.scope.now.names h) c.loop-i.invariant.same c.in_ok-is_plain_argument.ensures.outcome in
    let W = OfEach Holds (handed_to ns arguments) in
    record {
      tried =
          one_more Holds W _ _ h (handed_at ns arguments i n c.loop-i-test.true c.requires.numbers c.index-parameters-i.is)
          (true_tells (Holds h) c.in_ok-is_plain_argument.field-0 told c.if-not-branch.false) c.loop-i.invariant.tried;
      same = c.is_plain_argument.ensures.same ∙ c.loop-i.invariant.same;
    }
