use Rattle.std.proofs.Common.{◌++◌, ◌∷◌, [], List, ◌∙◌, ap, sym, subst}
use Rattle.wy_subtype.specs.declared.entry.Entry.{Entry}
use Rattle.wy_subtype.specs.Work.{entry_of, IsAdded}
use Rattle.wy_subtype.proofs.Adding.{added_last, added_before}
use Rattle.wy_subtype.proofs.work.Work.add.Goals as goal

pub returns-then-contains : goal.returns-then-contains
returns-then-contains c =
    let P : List Entry → Type 0 = λ l. IsAdded l c.args.node c.args.parent l in
    subst P c.self.view_is (added_before c.self.inside.entries.items c.args.node c.args.parent c.self.inside.numbers.keys c.self.invariant (sym c.contains.ensures ∙ c.if-contains.true))

pub returns : goal.returns
returns c =
    let old : List Entry = c.self.inside.entries.items in
    let P : List Entry → Type 0 = λ l. IsAdded l c.args.node c.args.parent c.push_reserved.new.self.items in
    subst P c.self.view_is (added_last old c.args.node c.args.parent c.self.inside.numbers.keys c.self.invariant c.push_reserved.new.self.items (sym c.contains.ensures ∙ c.if-contains.false)
    (c.push_reserved.ensures.items ∙ ap (λ (l : List Entry). l ++ entry_of c.args.node c.args.parent ∷ []) c.in_ok-reserve.ensures.items))
