use Rattle.std.proofs.Common.{List, [], ◌++◌, ◌∷◌, ℕ, ◌∙◌, ap, sym, subst}
use Rattle.wy_lanes.specs.Rows.{AreRows}
use Rattle.wy_lanes.proofs.RowLemmas.{AreRows-append}
use Rattle.wy_lanes.proofs.number_rows.NumberRows.push.Goals as goal

pub invariant_of-self-2 : goal.invariant_of-self-2
invariant_of-self-2 c =
    let now = c.push_reserved.ensures.items ∙ ap (λ (rows : List (List ℕ)). rows ++ c.row.result ∷ []) c.in_ok-reserve.ensures.items in
    subst AreRows (sym now) (AreRows-append c.self.inside.rows.items c.row.result c.self.invariant c.row.ensures.fits)
