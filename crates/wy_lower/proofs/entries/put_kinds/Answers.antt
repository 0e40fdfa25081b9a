use Rattle.std.proofs.Common.{rules, ◌<◌, ◌+◌, [], length, drop, refl, sym, ap, ◌∙◌, arith}
use Rattle.std.proofs.lemmas.Option.{slice_get_read}
use Rattle.wy_types.specs.Program.{scope_of}
use Rattle.wy_lower.specs.Parts.{each_once_after}
use Rattle.wy_lower.specs.Lowering.{owned_names, kinds_names}
use Rattle.wy_lower.proofs.EmitLists.{split_at, read_item, read_any, there_is}
use Rattle.wy_lower.proofs.EmitPlaces.{once_append}
use Rattle.wy_lower.proofs.entries.put_kinds.Goals as goal

pub loop-k-preserved : goal.loop-k-preserved
loop-k-preserved c =
    let xs = c.args.scope.now.literals in
    let bs = (scope_of c.args.scope.now).bodies in
    let ns = c.in_ok-names.names.items in
    let k = c.loop-k.k in
    let keys = c.loop-k.table.keys in
    let own = c.index.result.now in
    let less : k < length ns = search rules in
    let lt : k < length xs = omega (arith, c.in_ok-names.ensures.long, less) in
    let item = there_is xs k lt in
    let rest = kinds_names (k + 1) (drop (k + 1) xs) bs in
    let is = read_item ns k own (slice_get_read ns _ k own refl less c.index.ensures) ∙ read_any ns k own [] less ∙ c.in_ok-names.ensures.each k lt in
    ap (λ l. each_once_after l rest) (c.in_ok-put_names.ensures ∙ ap (each_once_after keys) (c.as_slice.ensures ∙ is))
    ∙ sym (once_append keys (owned_names k bs) rest)
    ∙ ap (λ l. each_once_after keys (kinds_names k l bs)) (sym (split_at xs k item.0 lt (read_item xs k item.0 item.1)))
    ∙ c.loop-k.invariant
