use Rattle.std.proofs.Common.{◌≡◌, ◌∷◌, [], take, rules, sym, subst, Err}
use Rattle.std.specs.Prelude.{Result}
use Rattle.wy_types.specs.declared.reach.ReachRefusal.{ReachRefusal}
use Rattle.wy_types.specs.Gathering.{Gathers}
use Rattle.wy_types.proofs.Gathered.{gathered_turn, gathers_refused, take_and_next}
use Rattle.wy_types.proofs.reach.add_all.Goals as goal

pub loop-t-preserved : goal.loop-t-preserved
loop-t-preserved c =
    gathered_turn c.args.seen.now c.args.types.now c.loop-t.seen c.add.new.self c.t-item.result c.loop-t.t-index c.loop-t-test.true c.t-item.is c.loop-t.invariant c.in_ok-add.ensures

pub returns-in_err-add : goal.returns-in_err-add
returns-in_err-add c =
    let e : c.from_residual.result ≡ Err c.in_err-add.field-0.0 = search rules in
    let P : Result (Unit {0}) ReachRefusal → Type 0 = λ r. Gathers c.args.seen.now c.args.types.now c.add.new.self r in
    subst P (sym e)
    (gathers_refused c.args.seen.now (take c.loop-t.t-index c.args.types.now) c.loop-t.seen (c.t-item.result ∷ []) c.args.types.now c.add.new.self c.in_err-add.field-0.0
    c.loop-t.invariant (take_and_next c.args.types.now c.t-item.result c.loop-t.t-index c.loop-t-test.true c.t-item.is) c.in_err-add.ensures c.add.new.self)
