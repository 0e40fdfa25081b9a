use Rattle.std.proofs.Common.{get_or, sym}
use Rattle.wy_types.specs.Program.{program_of}
use Rattle.wy_rules.specs.Acceptance.{handed_to, RespectsBounds}
use Rattle.wy_rules.specs.Failing.{LacksInMember}
use Rattle.wy_premises.specs.Tried.{handed_pair, FirstLack}
use Rattle.wy_premises.proofs.Trying.{handed_at, handed_past, first_past, first_lack, first_none}
use Rattle.wy_premises.proofs.arguments.first_outside_member.Goals as goal

pub returns-then-is_some : goal.returns-then-is_some
returns-then-is_some c =
    let Holds = RespectsBounds (program_of c.args.core.now) c.args.number c.args.outer.now in
    let Lacks = LacksInMember (program_of c.args.core.now) c.args.number c.args.outer.now in
    let ns = c.args.parameters.now in
    let arguments = c.args.arguments.now in
    let i = c.loop-i.i in
    let n = c.index-parameters-i.result in
    let h = handed_pair n (get_or arguments i 0) in
    let at = handed_at ns arguments i n c.loop-i-test.true c.requires.numbers c.index-parameters-i.is in
    first_lack Holds Lacks (FirstLack Holds Lacks (handed_to ns arguments)) _ _ h c.in_ok-missing.missing at (sym c.if-is_some.ensures) c.in_ok-missing.ensures c.loop-i.invariant

pub loop-i-preserved : goal.loop-i-preserved
loop-i-preserved c =
    let Holds = RespectsBounds (program_of c.args.core.now) c.args.number c.args.outer.now in
    let Lacks = LacksInMember (program_of c.args.core.now) c.args.number c.args.outer.now in
    let ns = c.args.parameters.now in
    let arguments = c.args.arguments.now in
    let i = c.loop-i.i in
    let n = c.index-parameters-i.result in
    let h = handed_pair n (get_or arguments i 0) in
    let at = handed_at ns arguments i n c.loop-i-test.true c.requires.numbers c.index-parameters-i.is in
    first_past Holds Lacks (FirstLack Holds Lacks (handed_to ns arguments)) _ _ h c.in_ok-missing.missing at (sym c.if-is_some.ensures) c.in_ok-missing.ensures c.loop-i.invariant

pub returns : goal.returns
returns c =
    let Holds = RespectsBounds (program_of c.args.core.now) c.args.number c.args.outer.now in
    let Lacks = LacksInMember (program_of c.args.core.now) c.args.number c.args.outer.now in
    let ns = c.args.parameters.now in
    let arguments = c.args.arguments.now in
    let i = c.loop-i.i in
    first_none Holds Lacks (FirstLack Holds Lacks (handed_to ns arguments)) _ (handed_past ns arguments i c.loop-i-test.false) c.loop-i.invariant
