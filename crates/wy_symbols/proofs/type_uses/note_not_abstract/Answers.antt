use Rattle.std.proofs.Common.{[], ◌∷◌, ◌++◌, ◌+◌, map, drop, ap, ◌∙◌, sym}
use Rattle.std.proofs.lemmas.List.{append-nil}
use Rattle.wy_symbols.specs.Least.{noted}
use Rattle.wy_symbols.specs.Meanings.{meaning_of}
use Rattle.wy_symbols.specs.TypeUses.{not_abstract, unless_abstract}
use Rattle.wy_symbols.proofs.Leasts.{noted_turn}
use Rattle.wy_symbols.proofs.Turns.{next_of}
use Rattle.wy_symbols.proofs.type_uses.note_not_abstract.Goals as goal

pub loop-thing-preserved : goal.loop-thing-preserved
loop-thing-preserved g c =
    let f = g.T.Named.name_of in
    let members = c.args.members.now in
    let things = c.args.things.now in
    let i = c.loop-thing.thing-index in
    let x = c.thing-item.result in
    let rest = not_abstract members (map f (drop (i + 1) things)) in
    noted_turn c.loop-thing.least c.note_unless_abstract.new.least c.args.least.now
    (not_abstract members (f x ∷ [])) rest (not_abstract members (map f (drop i things))) (not_abstract members (map f things))
    (c.note_unless_abstract.ensures ∙ ap (λ n. noted c.loop-thing.least (not_abstract members (n ∷ []))) c.name.ensures)
    (ap (λ l. not_abstract members (map f l)) (next_of things i x c.loop-thing-test.true c.thing-item.is)
    ∙ ap (λ l. l ++ rest) (sym (append-nil (unless_abstract (f x) (meaning_of members (f x).text)))))
    c.loop-thing.invariant
