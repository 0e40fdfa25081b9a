use Rattle.std.proofs.Common.{sym, subst}
use Rattle.wy_bounds.specs.declared.matrix.Side.{Side}
use Rattle.wy_bounds.specs.Matrix.{IsSide}
use Rattle.wy_bounds.proofs.Sides.{side_at, safe_rows}
use Rattle.wy_bounds.proofs.matrix.Matrix.is_safe_at.Goals as goal

pub returns : goal.returns
returns c = λ p scope t is.
    let S : Side → Type 0 = λ s. IsSide p scope t c.args.positive s in
    let side = subst S (sym c.side.ensures) (side_at p scope t c.args.self.now is c.args.positive) in
    let exact = safe_rows p scope c.args.positive is.down t c.side.result.now side c.args.e.now in
    (λ yes. exact.0 (c.all_include.ensures.0 yes), λ safe. c.all_include.ensures.1 (exact.1 safe))
