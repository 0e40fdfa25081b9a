use Rattle.std.proofs.Common.{ap, ◌∙◌}
use Rattle.std.specs.Prelude.{unwrap_or, length}
use Rattle.wy_verify.proofs.CodingLists.{text_place}
use Rattle.wy_verify.proofs.coding.texts.place_in.Goals as goal

pub returns-in-Some : goal.returns-in-Some
returns-in-Some c =
    let keys = c.args.table.now.keys in
    ap (λ o. unwrap_or o (length keys)) c.in-Some.ensures.index ∙ text_place c.args.text.now keys

pub returns-in-None : goal.returns-in-None
returns-in-None c =
    let keys = c.args.table.now.keys in
    c.len.ensures.len ∙ ap (λ o. unwrap_or o (length keys)) c.in-None.ensures.index ∙ text_place c.args.text.now keys
