use Rattle.std.proofs.Common.{get_or}
use Rattle.wy_types.specs.Program.{program_of}
use Rattle.wy_rules.specs.Acceptance.{handed_to}
use Rattle.wy_premises.specs.Tried.{handed_pair, OfEach, HasOpened}
use Rattle.wy_premises.proofs.Trying.{handed_at, one_more, one_fails, told_false, false_tells, true_tells}
use Rattle.wy_premises.proofs.arguments.all_have_opened.Goals as goal

pub returns-then-not-branch : goal.returns-then-not-branch
returns-then-not-branch c =
    let Holds = HasOpened (program_of c.args.core.now) c.args.outer.now in
    let ns = c.args.parameters.now in
    let arguments = c.args.arguments.now in
    let i = c.loop-i.i in
    let n = c.index-parameters-i.result in
    let h = handed_pair n (get_or arguments i 0) in
    let W = OfEach Holds (handed_to ns arguments) in
    told_false W (one_fails Holds W _ _ h (handed_at ns arguments i n c.loop-i-test.true c.requires.numbers c.index-parameters-i.is)
    (false_tells (Holds h) c.in_ok-has_opened.field-0 c.in_ok-has_opened.ensures c.if-not-branch.true) c.loop-i.invariant)

pub loop-i-preserved : goal.loop-i-preserved
loop-i-preserved c =
    let Holds = HasOpened (program_of c.args.core.now) c.args.outer.now in
    let ns = c.args.parameters.now in
    let arguments = c.args.arguments.now in
    let i = c.loop-i.i in
    let n = c.index-parameters-i.result in
    let h = handed_pair n (get_or arguments i 0) in
    let W = OfEach Holds (handed_to ns arguments) in
    one_more Holds W _ _ h (handed_at ns arguments i n c.loop-i-test.true c.requires.numbers c.index-parameters-i.is)
    (true_tells (Holds h) c.in_ok-has_opened.field-0 c.in_ok-has_opened.ensures c.if-not-branch.false) c.loop-i.invariant
