use Rattle.std.proofs.Common.{◌≡◌, ◌-◌, [], Err, sym, subst}
use Rattle.std.specs.Prelude.{Result}
use Rattle.wy_types.specs.Program.{program_of}
use Rattle.wy_types.specs.Ground.{visit, uses_among}
use Rattle.wy_judge.proofs.Results.{handed_on}
use Rattle.wy_link.specs.declared.linking.LinkRefusal.{LinkRefusal}
use Rattle.wy_link.specs.Linking.{ComesTo, visited}
use Rattle.wy_link.proofs.Visits.{use_refused}
use Rattle.wy_link.proofs.linking.+visiting_uses.Goals as goal

pub visit_uses-returns-in_err-visit_use : goal.visit_uses-returns-in_err-visit_use
visit_uses-returns-in_err-visit_use t c =
    let p = program_of c.args.core.now in
    let whole = visit p c.args.scopes c.args.outer.now [] (uses_among c.args.outer.now) (visited c.args.started.now c.args.own.now) in
    let e : c.from_residual.result ≡ Err c.in_err-visit_use.field-0.0 = handed_on c.from_residual.result c.in_err-visit_use.field-0.0 c.from_residual.ensures.1 in
    let P : Result (Unit {0}) LinkRefusal → Type 0 = λ r. ComesTo whole c.visit_use.new.started c.visit_use.new.own r in
    subst P (sym e)
    (use_refused p (c.args.scopes - 1) c.args.outer.now [] (visited c.loop-name.started c.loop-name.own) whole c.loop-name.name-index c.name-item.result c.loop-name-test.true c.name-item.is
    c.in-Use.module c.visit_use.new.started c.visit_use.new.started c.visit_use.new.own c.visit_use.new.own c.in_err-visit_use.field-0.0 c.in-Use.is c.loop-name.invariant.0 c.in_err-visit_use.ensures)
