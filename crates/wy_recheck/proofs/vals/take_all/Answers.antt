use Rattle.std.proofs.Common.{◌≡◌, List, map, subst, rules, None}
use Rattle.wy_types.specs.declared.resolved.Body.{Body}
use Rattle.wy_types.specs.Program.{body_of, start_of}
use Rattle.wy_types.specs.Vals.{start_vals, bodies_vals}
use Rattle.wy_recheck.specs.Vals.{IsTaken}
use Rattle.wy_recheck.proofs.ValsTaken.{taken_both, too_many}
use Rattle.wy_recheck.proofs.vals.take_all.Goals as goal

pub returns-in_err-rest : goal.returns-in_err-rest
returns-in_err-rest c =
    let e : c.from_residual.result ≡ None = search rules in
    rw e (too_many c.args.number (start_vals (start_of c.args.scope.now.start)) (bodies_vals (map body_of c.args.scope.now.bodies)) c.in_err-rest.ensures)

pub returns : goal.returns
returns c =
    let m = c.in_ok-rest.rest in
    let o = c.take_bodies.result in
    let P : List Body → Type 0 = λ l. IsTaken m (bodies_vals (map body_of l)) o in
    taken_both c.args.number m (start_vals (start_of c.args.scope.now.start)) (bodies_vals (map body_of c.args.scope.now.bodies)) o c.in_ok-rest.ensures (subst P c.as_slice.ensures c.take_bodies.ensures)
