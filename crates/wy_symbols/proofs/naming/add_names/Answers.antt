use Rattle.std.proofs.Common.{[], ◌∷◌, ◌++◌, ◌+◌, map, drop, ap, ◌∙◌, sym, append_assoc}
use Rattle.wy_symbols.proofs.Turns.{next_of}
use Rattle.wy_symbols.proofs.naming.add_names.Goals as goal

pub loop-thing-preserved : goal.loop-thing-preserved
loop-thing-preserved g c = λ end h.
    let f = g.T.Named.name_of in
    let things = c.args.things.now in
    let i = c.loop-thing.thing-index in
    let x = c.thing-item.result in
    let before = c.loop-thing.names.list in
    let rest = map f (drop (i + 1) things) in
    c.loop-thing.invariant end
    (record {
      enough = λ e. c.add.ensures.enough (h.enough e);
      added = λ e.
          h.added e
          ∙ ap (λ l. l ++ rest) (c.add.ensures.added (h.enough e) ∙ ap (λ n. before ++ n ∷ []) c.name.ensures)
          ∙ append_assoc before (f x ∷ []) rest
          ∙ ap (λ l. before ++ map f l) (sym (next_of things i x c.loop-thing-test.true c.thing-item.is));
    })
