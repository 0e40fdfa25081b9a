use Rattle.std.proofs.Common.{ap, ◌∙◌, is_some}
use Rattle.wy_lower.specs.Inside.{is_val}
use Rattle.wy_lower.proofs.EmitPlaces.{val_there}
use Rattle.wy_lower.proofs.indexes.Vals.has.Goals as goal

pub returns : goal.returns
returns c =
    c.contains_key.ensures ∙ ap (λ o. is_some o) (c.self.invariant c.args.number)
    ∙ val_there c.args.number c.self.inside.numbers.items
    ∙ ap (λ l. is_val c.args.number l) c.self.view_is
