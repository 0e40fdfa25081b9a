use Rattle.std.proofs.Common.{subst}
use Rattle.std.specs.Prelude.{◌↔◌, IsTrue}
use Rattle.wy_text.specs.Members.{Within}
use Rattle.wy_verified.specs.declared.known.Known.{Known}
use Rattle.wy_verify.proofs.knowing.Knowing.has_stored.Goals as goal

pub returns : goal.returns
returns c =
    subst (λ (k : Known). IsTrue c.has_all.result ↔ Within c.args.slots.now k.stored) c.self.view_is c.has_all.ensures
