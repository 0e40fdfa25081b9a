use Rattle.std.proofs.Common.{None, length, sym, ap, subst, arith}
use Rattle.std.proofs.lemmas.List.{length_push}
use Rattle.wy_judge.specs.Tables.{Table, IsKept}
use Rattle.wy_judge.proofs.Tabled.{kept_more}
use Rattle.wy_judge.proofs.walk.make_room.Goals as goal

pub loop-table-preserved : goal.loop-table-preserved
loop-table-preserved c =
    let P : Table → Type 0 = λ v. IsKept c.args.table.now.items v in
    let kept = kept_more c.args.table.now.items c.loop-table.table.items c.loop-table.invariant.0 in
    let long = ap length c.in_ok-push.ensures.items in
    let more = length_push c.loop-table.table.items None in
    let least = c.loop-table.invariant.1 in
    let most = c.loop-table.invariant.2 in
    (subst P (sym c.in_ok-push.ensures.items) kept, omega arith, omega arith)
