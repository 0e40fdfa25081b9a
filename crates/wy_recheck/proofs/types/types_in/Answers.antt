use Rattle.wy_types.specs.Program.{program_of, scope_of}
use Rattle.wy_proving.specs.Certified.{typed}
use Rattle.wy_proving.specs.Proving.{TypeStands}
use Rattle.wy_recheck.proofs.Firsts.{passed_more, passed_all, fails_first}
use Rattle.wy_recheck.proofs.types.types_in.Goals as goal

pub returns-in-None-clause-first : goal.returns-in-None-clause-first
returns-in-None-clause-first c =
    let x = c.index-listed-i.result in
    let fails = rw c.in-None.is at c.in_ok-standing_type.ensures in
    fails_first typed (TypeStands (program_of c.args.core.now) (scope_of c.args.scope.now)) c.args.listed.now c.loop-i.i c.loop-i.types c.loop-i.invariant x x c.loop-i-test.true c.index-listed-i.is fails

pub loop-i-preserved : goal.loop-i-preserved
loop-i-preserved c =
    let x = c.index-listed-i.result in
    let stands = rw c.in-Some.is at c.in_ok-standing_type.ensures in
    passed_more typed (TypeStands (program_of c.args.core.now) (scope_of c.args.scope.now)) c.args.listed.now c.loop-i.i c.loop-i.types c.loop-i.invariant x x c.loop-i-test.true c.index-listed-i.is c.in-Some.standing stands c.push.new.self
    c.in_ok-push-in-Some.ensures.ok

pub returns-clause-types : goal.returns-clause-types
returns-clause-types c =
    passed_all typed (TypeStands (program_of c.args.core.now) (scope_of c.args.scope.now)) c.args.listed.now c.loop-i.i c.loop-i.types c.loop-i.invariant c.loop-i-test.false
