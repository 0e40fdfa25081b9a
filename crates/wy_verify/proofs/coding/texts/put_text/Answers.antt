use Rattle.std.proofs.Common.{[], ◌∷◌, ◌++◌, sym, ap, ◌∙◌}
use Rattle.std.specs.Prelude.{if◌then◌else◌}
use Rattle.wy_code.specs.EachOnce.{is_among}
use Rattle.wy_verify.proofs.CodingLists.{among_is}
use Rattle.wy_verify.proofs.coding.texts.put_text.Goals as goal

pub returns-in_ok-insert : goal.returns-in_ok-insert
returns-in_ok-insert c =
    let keys = c.args.table.now.keys in
    c.in_ok-insert.ensures.keys
    ∙ ap (λ b. if b then keys else keys ++ c.in_ok-copy.field-0 ∷ []) (among_is c.in_ok-copy.field-0 keys)
    ∙ ap (λ y. if is_among y keys then keys else keys ++ y ∷ []) c.in_ok-copy.ensures

pub returns-else-not-contains : goal.returns-else-not-contains
returns-else-not-contains c =
    let keys = c.args.table.now.keys in
    let x = c.args.text.now in
    sym (ap (λ b. if b then keys else keys ++ x ∷ []) (sym (among_is x keys) ∙ sym c.contains.ensures ∙ c.if-not-contains.false))
