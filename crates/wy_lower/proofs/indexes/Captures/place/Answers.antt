use Rattle.std.proofs.Common.{ap, ◌∙◌}
use Rattle.std.specs.Prelude.{unwrap_or}
use Rattle.std.specs.List.{position_from}
use Rattle.indexmap.specs.IndexMap.{get}
use Rattle.wy_lower.specs.Inside.{capture_from}
use Rattle.wy_lower.specs.EmitIndexes.{key_of, same_key}
use Rattle.wy_lower.proofs.EmitPlaces.{capture_place}
use Rattle.wy_lower.proofs.indexes.Captures.place.Goals as goal

pub returns : goal.returns
returns c =
    let items = c.self.inside.variables.items in
    let x = c.args.variable in
    let key = key_of x in
    c.unwrap_or.ensures
    ∙ ap (λ o. unwrap_or o c.len.result) (c.copied.ensures ∙ c.get.ensures.value ∙ ap (λ q. get same_key c.self.inside.places q) c.key_of-key.ensures ∙ c.self.invariant key)
    ∙ ap (λ k. unwrap_or (position_from (λ y. same_key (key_of y) key) 0 items) k) (c.len.ensures ∙ c.self.inside.variables.ok.0)
    ∙ capture_place x items
    ∙ ap (λ l. capture_from 0 x l) c.self.view_is
