use Rattle.std.proofs.Common.{◌<◌, ◌++◌, ◌∷◌, [], length, map, refl, rules}
use Rattle.wy_symbols.specs.Declarations.{texts}
use Rattle.wy_symbols.proofs.Nexts.{added_next}
use Rattle.wy_symbols.proofs.tables.add_texts.Goals as goal

pub loop-thing-preserved : goal.loop-thing-preserved
loop-thing-preserved g c =
    let f = g.T.Named.name_of in
    let things = c.args.things.now in
    let lt : c.loop-thing.thing-index < length things = search rules in
    let x = c.thing-item.result in
    added_next things c.loop-thing.thing-index x lt c.thing-item.is (λ ts. texts (map f ts)) c.loop-thing.names.items c.push.new.self.items ((f x).text ∷ [])
    (c.args.names.now.items ++ texts (map f things)) (search rules) refl c.loop-thing.invariant
