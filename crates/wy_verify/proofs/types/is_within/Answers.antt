use Rattle.std.proofs.Common.{List, subst}
use Rattle.std.specs.Prelude.{◌↔◌, IsTrue}
use Rattle.wy_image.specs.declared.typing.Atom.{Atom}
use Rattle.wy_verified.specs.Kinds.{Within}
use Rattle.wy_verify.proofs.types.is_within.Goals as goal

pub returns : goal.returns
returns c =
    subst (λ (es : List Atom). IsTrue c.is_within.result ↔ Within c.args.method.now.effect es) c.effect.ensures
    c.is_within.ensures
