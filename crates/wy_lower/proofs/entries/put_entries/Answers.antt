use Rattle.std.proofs.Common.{rules, ◌<◌, ◌+◌, length, map, drop, sym, ap, ◌∙◌}
use Rattle.wy_types.specs.Program.{scope_of}
use Rattle.wy_lower.specs.Parts.{each_once_after}
use Rattle.wy_lower.specs.Lowering.{kinds_names, entry_names}
use Rattle.wy_lower.proofs.EmitLists.{split_at}
use Rattle.wy_lower.proofs.EmitPlaces.{once_append}
use Rattle.wy_lower.proofs.entries.put_entries.Goals as goal

pub loop-scope-preserved : goal.loop-scope-preserved
loop-scope-preserved c =
    let ss = c.args.scopes.now in
    let i = c.loop-scope.scope-index in
    let s = c.scope-item.result in
    let keys = c.loop-scope.table.keys in
    let lt : i < length ss = search rules in
    let here = kinds_names 0 (scope_of s).literals (scope_of s).bodies in
    let rest = entry_names (map scope_of (drop (i + 1) ss)) in
    ap (λ l. each_once_after l rest) c.in_ok-put_kinds.ensures
    ∙ sym (once_append keys here rest)
    ∙ ap (λ l. each_once_after keys (entry_names (map scope_of l))) (sym (split_at ss i s lt c.scope-item.is))
    ∙ c.loop-scope.invariant
