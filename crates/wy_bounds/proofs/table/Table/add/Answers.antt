use Rattle.std.proofs.Common.{◌++◌, ◌∷◌, [], List, ◌∙◌, ap, subst}
use Rattle.wy_bounds.specs.declared.entry.Entry.{Entry}
use Rattle.wy_bounds.specs.Table.{IsAdded}
use Rattle.wy_bounds.proofs.Meeting.{added_last, added_before}
use Rattle.wy_bounds.proofs.table.Table.add.Goals as goal

pub returns-then-branch : goal.returns-then-branch
returns-then-branch c =
    let old : List Entry = c.self.inside.entries.items in
    let P : List Entry → Type 0 = λ l. IsAdded l c.args.entry c.push_reserved.new.self.items in
    subst P c.self.view_is (added_last old c.args.entry c.self.inside.keys.keys c.in_ok-key.key c.self.invariant c.in_ok-key.ensures c.in_ok-insert.field-0 c.in_ok-insert.ensures.added c.push_reserved.new.self.items c.if-branch.true
    (c.push_reserved.ensures.items ∙ ap (λ (l : List Entry). l ++ c.args.entry ∷ []) c.in_ok-reserve.ensures.items))

pub returns-else-branch : goal.returns-else-branch
returns-else-branch c =
    let old : List Entry = c.self.inside.entries.items in
    let P : List Entry → Type 0 = λ l. IsAdded l c.args.entry c.reserve.new.self.items in
    subst P c.self.view_is (added_before old c.args.entry c.self.inside.keys.keys c.in_ok-key.key c.self.invariant c.in_ok-key.ensures c.in_ok-insert.field-0 c.in_ok-insert.ensures.added c.reserve.new.self.items c.if-branch.false c.in_ok-reserve.ensures.items)
