use Rattle.std.proofs.Common.{ℕ, List, ◌∙◌, ap, subst, map}
use Rattle.std.specs.Prelude.{IsTrue, ◌↔◌}
use Rattle.wy_lanes.specs.Numbers.{numbers_of}
use Rattle.wy_lanes.specs.Rows.{AllRowsIn}
use Rattle.wy_lanes.proofs.RowLemmas.{Found, flat, all_in}
use Rattle.wy_lanes.proofs.number_rows.NumberRows.are_in.Goals as goal

pub returns : goal.returns
returns c =
    let rows = c.self.inside.rows.items in
    let outside = c.any_outside.ensures in
    let found : Found c.as_flattened.result.now c.row.result c.any_outside.result = record { row_is = outside.row; outside = outside.outside; none = outside.none } in
    let words = c.as_flattened.ensures.value ∙ ap flat c.as_slice.ensures.value in
    let all = all_in rows c.row.result c.any_outside.result c.is_none.result c.row.ensures.fits.0 c.self.invariant (subst (λ (ws : List ℕ). Found ws c.row.result c.any_outside.result) words found) c.is_none.ensures in
    let P : List (List ℕ) → Type 0 = λ sets. IsTrue c.is_none.result ↔ AllRowsIn sets c.args.bound.now in
    subst P c.self.view_is (subst (λ (ns : List ℕ). IsTrue c.is_none.result ↔ AllRowsIn (map numbers_of rows) ns) c.row.ensures.numbers all)
