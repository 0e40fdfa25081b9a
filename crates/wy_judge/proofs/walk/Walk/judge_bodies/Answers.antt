use Rattle.std.proofs.Common.{◌≡◌, ◌<◌, ◌≤◌, Err, Some, length, map, refl, sym, ap, rules}
use Rattle.std.specs.Prelude.{slice_get}
use Rattle.std.proofs.lemmas.Option.{slice_get_read}
use Rattle.wy_types.specs.Program.{program_of, scope_of, body_of}
use Rattle.wy_judge.proofs.BodyWalks.{bodies_walked_start, bodies_walked_more, bodies_walked_fail, bodies_walked_end, next_ready}
use Rattle.wy_judge.proofs.ScopeParts.{body_in}
use Rattle.wy_judge.proofs.Results.{handed_on, fault_weaker}
use Rattle.wy_judge.specs.Walking.{BodyTo, BodiesTo}
use Rattle.wy_judge.proofs.walk.Walk.judge_bodies.Goals as goal

pub loop-i-init : goal.loop-i-init
loop-i-init c =
    let p = program_of c.args.self.now.core.now in
    let k = c.args.self.now.number in
    let s = scope_of c.args.self.now.scope.now in
    let old = c.args.known.now.vals.items in
    let h = c.requires.walk.context in
    let bodies = c.as_slice-bodies.result.now in
    record { walked = bodies_walked_start p k s h bodies (ap (map body_of) (sym c.as_slice-bodies.ensures)) old c.requires.walked; asks = c.requires.asks }

pub judge_body-requires-clause-in_scope : goal.judge_body-requires-clause-in_scope
judge_body-requires-clause-in_scope c =
    let p = program_of c.args.self.now.core.now in
    let k = c.args.self.now.number in
    let s = scope_of c.args.self.now.scope.now in
    let h = c.requires.walk.context in
    let bodies = c.as_slice-bodies.result.now in
    let same = ap (map body_of) (sym c.as_slice-bodies.ensures) in
    let i = c.loop-i.i in
    let lt : i < length bodies = search rules in
    let there : slice_get bodies i ≡ Some c.index-bodies-i.result = slice_get_read bodies _ i c.index-bodies-i.result refl lt c.index-bodies-i.is in
    body_in p k s h bodies same i c.index-bodies-i.result there

pub judge_body-requires-clause-ready : goal.judge_body-requires-clause-ready
judge_body-requires-clause-ready c =
    let p = program_of c.args.self.now.core.now in
    let k = c.args.self.now.number in
    let s = scope_of c.args.self.now.scope.now in
    let old = c.args.known.now.vals.items in
    let h = c.requires.walk.context in
    let bodies = c.as_slice-bodies.result.now in
    let same = ap (map body_of) (sym c.as_slice-bodies.ensures) in
    let i = c.loop-i.i in
    let mid = c.loop-i.known.vals.items in
    let lt : i < length bodies = search rules in
    let there : slice_get bodies i ≡ Some c.index-bodies-i.result = slice_get_read bodies _ i c.index-bodies-i.result refl lt c.index-bodies-i.is in
    next_ready p k s h bodies same old mid i c.index-bodies-i.result there c.loop-i.invariant.walked

pub returns-in_err-judge_body-clause-outcome : goal.returns-in_err-judge_body-clause-outcome
returns-in_err-judge_body-clause-outcome c =
    let p = program_of c.args.self.now.core.now in
    let k = c.args.self.now.number in
    let s = scope_of c.args.self.now.scope.now in
    let old = c.args.known.now.vals.items in
    let h = c.requires.walk.context in
    let bodies = c.as_slice-bodies.result.now in
    let same = ap (map body_of) (sym c.as_slice-bodies.ensures) in
    let i = c.loop-i.i in
    let mid = c.loop-i.known.vals.items in
    let new = c.judge_body.new.known.vals.items in
    let x = c.index-bodies-i.result in
    let lt : i < length bodies = search rules in
    let there : slice_get bodies i ≡ Some x = slice_get_read bodies _ i x refl lt c.index-bodies-i.is in
    let r = c.in_err-judge_body.field-0.0 in
    let e : c.from_residual.result ≡ Err r = handed_on c.from_residual.result r c.from_residual.ensures.1 in
    rw e (fault_weaker r (λ f. BodyTo p k s mid new (body_of x) (Some f)) (λ f. BodiesTo p k s old new (Some f)) (λ f b. bodies_walked_fail p k s h bodies same old mid i x there c.loop-i.invariant.walked new f b) c.in_err-judge_body.ensures.outcome)

pub loop-i-preserved : goal.loop-i-preserved
loop-i-preserved c =
    let p = program_of c.args.self.now.core.now in
    let k = c.args.self.now.number in
    let s = scope_of c.args.self.now.scope.now in
    let old = c.args.known.now.vals.items in
    let h = c.requires.walk.context in
    let bodies = c.as_slice-bodies.result.now in
    let same = ap (map body_of) (sym c.as_slice-bodies.ensures) in
    let i = c.loop-i.i in
    let mid = c.loop-i.known.vals.items in
    let new = c.judge_body.new.known.vals.items in
    let x = c.index-bodies-i.result in
    let lt : i < length bodies = search rules in
    let there : slice_get bodies i ≡ Some x = slice_get_read bodies _ i x refl lt c.index-bodies-i.is in
    record { walked = bodies_walked_more p k s h bodies same old mid i x there c.loop-i.invariant.walked new c.in_ok-judge_body.ensures.outcome; asks = c.judge_body.ensures.asks }

pub returns-clause-outcome : goal.returns-clause-outcome
returns-clause-outcome c =
    let p = program_of c.args.self.now.core.now in
    let k = c.args.self.now.number in
    let s = scope_of c.args.self.now.scope.now in
    let old = c.args.known.now.vals.items in
    let h = c.requires.walk.context in
    let bodies = c.as_slice-bodies.result.now in
    let same = ap (map body_of) (sym c.as_slice-bodies.ensures) in
    let i = c.loop-i.i in
    let mid = c.loop-i.known.vals.items in
    let short : length bodies ≤ i = search rules in
    bodies_walked_end p k s h bodies same old mid i short c.loop-i.invariant.walked
