use Rattle.std.proofs.Common.{◌≡◌, ◌+◌, [], List, drop, map, subst, arith, rules, Some, None}
use Rattle.wy_types.specs.declared.resolved.Body.{Body}
use Rattle.wy_types.specs.Program.{body_of}
use Rattle.wy_types.specs.View.{block_of}
use Rattle.wy_types.specs.Vals.{bodies_vals, block_vals}
use Rattle.wy_recheck.proofs.ValsTaken.{Goes, goes_more, goes_short, goes_end, next_bodies, no_bodies}
use Rattle.wy_recheck.proofs.vals.take_bodies.Goals as goal

pub returns-in_err-rest : goal.returns-in_err-rest
returns-in_err-rest c =
    let n = c.args.number in
    let xs : List Body = c.args.bodies.now in
    let i = c.loop-body.body-index in
    let m = c.loop-body.rest in
    let all = bodies_vals (map body_of xs) in
    let x : Body = c.body-item.result in
    let rest = bodies_vals (map body_of (drop (i + 1) xs)) in
    let next = subst (λ l. Goes n all m l) (next_bodies xs i x c.loop-body-test.true c.body-item.is) c.loop-body.invariant in
    let e : c.from_residual.result ≡ None = search rules in
    rw e (goes_short n m all (block_vals (block_of x.block)) rest next c.in_err-rest.ensures)

pub loop-body-preserved : goal.loop-body-preserved
loop-body-preserved c =
    let n = c.args.number in
    let xs : List Body = c.args.bodies.now in
    let i = c.loop-body.body-index in
    let m = c.loop-body.rest in
    let all = bodies_vals (map body_of xs) in
    let x : Body = c.body-item.result in
    let rest = bodies_vals (map body_of (drop (i + 1) xs)) in
    let next = subst (λ l. Goes n all m l) (next_bodies xs i x c.loop-body-test.true c.body-item.is) c.loop-body.invariant in
    goes_more n m c.in_ok-rest.rest all (block_vals (block_of x.block)) rest next c.in_ok-rest.ensures

pub returns : goal.returns
returns c =
    let n = c.args.number in
    let xs : List Body = c.args.bodies.now in
    let i = c.loop-body.body-index in
    let m = c.loop-body.rest in
    let all = bodies_vals (map body_of xs) in
    let none : m + 0 ≡ m = omega arith in
    goes_end n m all [] (Some m) (subst (λ l. Goes n all m l) (no_bodies xs i c.loop-body-test.false) c.loop-body.invariant) none
