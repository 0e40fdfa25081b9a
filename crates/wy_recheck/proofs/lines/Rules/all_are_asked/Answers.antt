use Rattle.std.proofs.Common.{◌≡◌, refl, List, ℕ, Some, None, arith}
use Rattle.std.specs.Prelude.{slice_get}
use Rattle.std.proofs.lemmas.Option.{gets}
use Rattle.wy_types.specs.Program.{scope_of}
use Rattle.wy_types.specs.declared.resolved.OwnName.{OwnName}
use Rattle.wy_rules.specs.Acceptance.{handed_to}
use Rattle.wy_premises.specs.Tried.{handed_pair, OfEach}
use Rattle.wy_premises.proofs.Trying.{handed_past, one_more, one_fails, none_left, told_false, false_tells, true_tells}
use Rattle.wy_recheck.specs.Rules.{AskedOf}
use Rattle.wy_recheck.proofs.Handing.{handed_next, handed_over}
use Rattle.wy_recheck.proofs.lines.Rules.all_are_asked.Goals as goal

pub returns-in_default : goal.returns-in_default
returns-in_default c = λ x by.
    let ns : List OwnName = c.args.parameters.now in
    let arguments : List ℕ = c.args.arguments.now in
    let i = c.loop-i.i in
    let Holds = AskedOf (scope_of c.args.self.now.scope.now) x c.args.asked.now in
    let W = OfEach Holds (handed_to ns arguments) in
    let e : slice_get arguments i ≡ None = grind (arith, gets) in
    (λ t. none_left Holds W _ (handed_over ns arguments i e) (c.loop-i.invariant x by), λ w. refl)

pub returns-then-not-branch : goal.returns-then-not-branch
returns-then-not-branch c = λ x by.
    let ns : List OwnName = c.args.parameters.now in
    let arguments : List ℕ = c.args.arguments.now in
    let i = c.loop-i.i in
    let n = c.index-parameters-i.result in
    let a = c.in-Some.argument.now in
    let Holds = AskedOf (scope_of c.args.self.now.scope.now) x c.args.asked.now in
    let W = OfEach Holds (handed_to ns arguments) in
    let e : slice_get arguments i ≡ Some a = grind (arith, gets) in
    let h = handed_pair n a in
    told_false W (one_fails Holds W _ _ h (handed_next ns arguments i n a c.loop-i-test.true c.index-parameters-i.is e)
    (false_tells (Holds h) c.in_ok-is_asked.field-0 (c.in_ok-is_asked.ensures x by) c.if-not-branch.true) (c.loop-i.invariant x by))

pub loop-i-preserved : goal.loop-i-preserved
loop-i-preserved c = λ x by.
    let ns : List OwnName = c.args.parameters.now in
    let arguments : List ℕ = c.args.arguments.now in
    let i = c.loop-i.i in
    let n = c.index-parameters-i.result in
    let a = c.in-Some.argument.now in
    let Holds = AskedOf (scope_of c.args.self.now.scope.now) x c.args.asked.now in
    let W = OfEach Holds (handed_to ns arguments) in
    let e : slice_get arguments i ≡ Some a = grind (arith, gets) in
    let h = handed_pair n a in
    one_more Holds W _ _ h (handed_next ns arguments i n a c.loop-i-test.true c.index-parameters-i.is e)
    (true_tells (Holds h) c.in_ok-is_asked.field-0 (c.in_ok-is_asked.ensures x by) c.if-not-branch.false) (c.loop-i.invariant x by)

pub returns : goal.returns
returns c = λ x by.
    let ns : List OwnName = c.args.parameters.now in
    let arguments : List ℕ = c.args.arguments.now in
    let i = c.loop-i.i in
    let Holds = AskedOf (scope_of c.args.self.now.scope.now) x c.args.asked.now in
    let W = OfEach Holds (handed_to ns arguments) in
    (λ t. none_left Holds W _ (handed_past ns arguments i c.loop-i-test.false) (c.loop-i.invariant x by), λ w. refl)
