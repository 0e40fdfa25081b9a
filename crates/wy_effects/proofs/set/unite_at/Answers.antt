use Rattle.std.proofs.Common.{◌≡◌, [], ap, ◌∙◌, rules}
use Rattle.std.specs.Prelude.{slice_index_or}
use Rattle.wy_effects.specs.EffSet.{union}
use Rattle.wy_effects.proofs.Numbers.{union_is}
use Rattle.wy_effects.proofs.set.unite_at.Goals as goal

pub returns-in-Some : goal.returns-in-Some
returns-in-Some c =
    let at : c.in-Some.set.now ≡ slice_index_or c.args.by.now c.args.atom [] = search rules in
    rw (c.unite.ensures, c.set.view_is) (union_is c.in-Some.set.now c.args.out.now ∙ ap (λ l. union l c.args.out.now) at)
