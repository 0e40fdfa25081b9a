use Rattle.std.proofs.Common.{ap, ◌∙◌, nat_eq}
use Rattle.std.specs.Prelude.{unwrap_or}
use Rattle.std.specs.List.{position_from}
use Rattle.wy_lower.specs.Inside.{place_from}
use Rattle.wy_lower.proofs.EmitPlaces.{val_place}
use Rattle.wy_lower.proofs.indexes.Vals.place.Goals as goal

pub returns : goal.returns
returns c =
    let items = c.self.inside.numbers.items in
    let n = c.args.number in
    c.unwrap_or.ensures
    ∙ ap (λ o. unwrap_or o c.len.result) (c.copied.ensures ∙ c.get.ensures.value ∙ c.self.invariant n)
    ∙ ap (λ k. unwrap_or (position_from (λ m. nat_eq m n) 0 items) k) (c.len.ensures ∙ c.self.inside.numbers.ok.0)
    ∙ val_place n items
    ∙ ap (λ l. place_from 0 n l) c.self.view_is
