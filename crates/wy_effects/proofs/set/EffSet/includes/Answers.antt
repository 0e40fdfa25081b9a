use Rattle.std.proofs.Common.{List, ℕ, subst}
use Rattle.std.specs.Prelude.{◌↔◌, IsTrue}
use Rattle.wy_text.specs.Members.{Within}
use Rattle.wy_effects.proofs.Numbers.{all_are}
use Rattle.wy_effects.proofs.set.EffSet.includes.Goals as goal

pub returns : goal.returns
returns c =
    let outer = c.self.inside.set in
    let inner = c.inner.inside.set in
    let P : List ℕ → Type 0 = λ l. IsTrue c.includes.result ↔ Within inner l in
    let Q : List ℕ → Type 0 = λ l. IsTrue c.includes.result ↔ Within l c.args.self.now in
    subst Q c.inner.view_is (subst P c.self.view_is ((λ t. (all_are inner outer).0 (c.includes.ensures.0 t)), λ w. c.includes.ensures.1 ((all_are inner outer).1 w)))
