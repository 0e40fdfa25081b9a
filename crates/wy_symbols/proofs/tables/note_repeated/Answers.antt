use Rattle.std.proofs.Common.{rules, ◌||◌, [], ◌∷◌, ◌++◌, ◌+◌, map, take, drop, length, ◌<◌, ap, ◌∙◌, is_some, if◌then◌else◌}
use Rattle.indexmap.specs.IndexMap.{get}
use Rattle.wy_syntax.specs.declared.types.Name.{Name}
use Rattle.wy_symbols.specs.declared.refusal.Cause.TheVariants.{Twice}
use Rattle.wy_symbols.specs.Least.{noted, refusal_at}
use Rattle.wy_symbols.specs.Declarations.{same_name, has_name, repeated, texts}
use Rattle.wy_symbols.proofs.Firsts.{has_more}
use Rattle.wy_symbols.proofs.Leasts.{noted_turn}
use Rattle.wy_symbols.proofs.Repeats.{texts_more, repeated_more}
use Rattle.wy_symbols.proofs.tables.note_repeated.Goals as goal

pub loop-thing-preserved : goal.loop-thing-preserved
loop-thing-preserved g c =
    let f = g.T.Named.name_of in
    let before = c.args.before.now in
    let things = c.args.things.now in
    let i = c.loop-thing.thing-index in
    let x = c.thing-item.result in
    let lt : i < length things = search rules in
    let seen = c.loop-thing.seen in
    let names = before ++ texts (map f (take i things)) in
    let old = c.loop-thing.least in
    record {
      seen = λ y.
          c.in_ok-note_name.ensures.is y
          ∙ ap (λ (n : Name). is_some (get same_name seen y) || same_name n.text y) c.name.ensures
          ∙ ap (λ b. b || same_name (f x).text y) (c.loop-thing.invariant.seen y)
          ∙ has_more names (f x).text y
          ∙ ap (λ l. has_name y l) (texts_more f before things i x lt c.thing-item.is);
      least = noted_turn old c.note_name.new.least c.args.least.now
          (if has_name (f x).text names then refusal_at (f x).place Twice ∷ [] else [])
          (repeated (before ++ texts (map f (take (i + 1) things))) (map f (drop (i + 1) things)))
          (repeated names (map f (drop i things))) (repeated before (map f things))
          (c.in_ok-note_name.ensures.noted
          ∙ ap (λ (n : Name). noted old (if is_some (get same_name seen n.text) then refusal_at n.place Twice ∷ [] else [])) c.name.ensures
          ∙ ap (λ b. noted old (if b then refusal_at (f x).place Twice ∷ [] else [])) (c.loop-thing.invariant.seen (f x).text))
          (repeated_more f before things i x lt c.thing-item.is)
          c.loop-thing.invariant.least;
    }
