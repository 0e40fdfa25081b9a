use Rattle.std.proofs.Common.{List, ℕ, subst}
use Rattle.std.specs.Prelude.{IsTrue, ◌↔◌}
use Rattle.wy_lanes.specs.Rows.{AllRowsIn}
use Rattle.wy_effects.specs.Rows.{IsInAll}
use Rattle.wy_effects.proofs.RowLaws.{in_all_rows}
use Rattle.wy_effects.proofs.rows.SetRows.all_include.Goals as goal

pub returns : goal.returns
returns c =
    let rows = c.self.inside.lacking in
    let exact = subst (λ (l : List ℕ). IsTrue c.are_in.result ↔ AllRowsIn rows l) c.lacking.ensures c.are_in.ensures in
    let all = in_all_rows rows c.args.set.now c.is_set.ensures c.self.invariant in
    subst (λ (sets : List (List ℕ)). IsTrue c.are_in.result ↔ IsInAll c.args.set.now sets) c.self.view_is (λ yes. all.0 (exact.0 yes), λ each. exact.1 (all.1 each))
