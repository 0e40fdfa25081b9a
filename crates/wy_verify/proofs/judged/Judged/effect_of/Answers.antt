use Rattle.std.proofs.Common.{sym, subst}
use Rattle.wy_text.specs.Members.{In}
use Rattle.wy_verified.specs.Images.{Image}
use Rattle.wy_verify.proofs.Small.{small_bounds}
use Rattle.wy_verify.proofs.judged.Judged.effect_of.Goals as goal

pub new-requires : goal.new-requires
new-requires c =
    small_bounds c.self.inside.file.now c.self.invariant.1 c.requires.0 c.args.bounds.now
    (subst (λ (i : Image). In c.requires.0 i.typings) (sym c.self.view_is) c.requires.1) c.requires.2
