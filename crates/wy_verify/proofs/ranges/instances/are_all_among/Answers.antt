use Rattle.std.proofs.Common.{ℕ, None, true, false, map}
use Rattle.wy_text.specs.Members.{In}
use Rattle.wy_verify.specs.declared.ranges.roles.Role as standing
use Rattle.wy_verified.specs.Ranges.{Role}
use Rattle.wy_verify.specs.RangeParts.{role_of}
use Rattle.wy_verify.proofs.RangeTests.{one_fails, one_more, none_fails, on_map, of_map, reworded}
use Rattle.wy_verify.proofs.ranges.instances.are_all_among.Goals as goal

pub returns-then-not-has : goal.returns-then-not-has
returns-then-not-has c =
    let d : standing.Role = record { owner = None; body = 0 } in
    let P = λ (r : standing.Role). In r.body c.args.numbers.now in
    let Q = λ (r : Role). In r.1 c.args.numbers.now in
    reworded false (one_fails P c.args.roles.now c.loop-role.role-index d c.has.result c.loop-role-test.true c.if-not-has.true c.has.ensures)
    (λ all. on_map (λ (r : Role). r.1) (λ (b : ℕ). In b c.args.numbers.now) (map role_of c.args.roles.now) (on_map role_of Q c.args.roles.now all))
    (λ all. of_map role_of Q c.args.roles.now (of_map (λ (r : Role). r.1) (λ (b : ℕ). In b c.args.numbers.now) (map role_of c.args.roles.now) all))

pub loop-role-preserved : goal.loop-role-preserved
loop-role-preserved c =
    let d : standing.Role = record { owner = None; body = 0 } in
    let P = λ (r : standing.Role). In r.body c.args.numbers.now in
    one_more P c.args.roles.now c.loop-role.role-index d c.has.result c.loop-role-test.true c.loop-role.invariant c.if-not-has.false c.has.ensures

pub returns : goal.returns
returns c =
    let P = λ (r : standing.Role). In r.body c.args.numbers.now in
    let Q = λ (r : Role). In r.1 c.args.numbers.now in
    reworded true (none_fails P c.args.roles.now c.loop-role.role-index c.loop-role-test.false c.loop-role.invariant)
    (λ all. on_map (λ (r : Role). r.1) (λ (b : ℕ). In b c.args.numbers.now) (map role_of c.args.roles.now) (on_map role_of Q c.args.roles.now all))
    (λ all. of_map role_of Q c.args.roles.now (of_map (λ (r : Role). r.1) (λ (b : ℕ). In b c.args.numbers.now) (map role_of c.args.roles.now) all))
