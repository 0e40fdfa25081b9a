use Rattle.std.proofs.Common.{ℕ, List, sym, subst}
use Rattle.std.specs.Prelude.{◌↔◌}
use Rattle.wy_text.specs.Members.{In}
use Rattle.wy_types.specs.declared.types.TypeRef.{TypeRef}
use Rattle.wy_types.specs.Types.{methods_of}
use Rattle.wy_types.specs.Paths.{IsEffect}
use Rattle.wy_bounds.specs.declared.matrix.Side.{Side}
use Rattle.wy_bounds.specs.Matrix.{IsSide}
use Rattle.wy_bounds.proofs.Sides.{side_at}
use Rattle.wy_bounds.proofs.matrix.Matrix.atoms_at.Goals as goal

pub returns : goal.returns
returns c = λ p scope t is a.
    let S : Side → Type 0 = λ s. IsSide p scope t c.args.positive s in
    let side = subst S (sym c.side.ensures) (side_at p scope t c.args.self.now is c.args.positive) in
    let P : List ℕ → Type 0 = λ l. In a l ↔ IsEffect TypeRef (methods_of p scope) t c.args.positive a in
    subst P (sym c.in-Ok.ensures) (side.atoms a)
