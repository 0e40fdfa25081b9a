use Rattle.std.proofs.Common.{◌<◌, ◌∙◌, ap, arith, length, rules}
use Rattle.std.proofs.lemmas.List.{take_all}
use Rattle.std.specs.List.{list_any}
use Rattle.wy_policy.specs.Allowed.{entry_allows}
use Rattle.wy_policy.proofs.Grants.{entry_added}
use Rattle.wy_policy.proofs.ruling.granted_by.Goals as goal

pub loop-entry-preserved : goal.loop-entry-preserved
loop-entry-preserved c = λ atom.
    let lt : c.loop-entry.entry-index < length c.args.entries.now = search rules in
    entry_added c.args.entries.now c.loop-entry.entry-index c.entry-item.result atom _ _ lt c.entry-item.is (c.in_ok-add.ensures atom) (c.loop-entry.invariant atom)

pub returns : goal.returns
returns c = λ atom. c.loop-entry.invariant atom ∙ ap (λ es. list_any (entry_allows atom) es) (take_all c.loop-entry.entry-index c.args.entries.now (omega arith))
