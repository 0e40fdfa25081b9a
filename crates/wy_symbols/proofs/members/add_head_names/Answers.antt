use Rattle.std.proofs.Common.{[], length, refl, rules, ◌++◌, ◌<◌, ◌∷◌}
use Rattle.wy_symbols.specs.Atoms.{head_names}
use Rattle.wy_symbols.proofs.Nexts.{added_next}
use Rattle.wy_symbols.proofs.members.add_head_names.Goals as goal

pub loop-head-preserved : goal.loop-head-preserved
loop-head-preserved c =
    let lt : c.loop-head.head-index < length c.args.heads.now = search rules in
    added_next c.args.heads.now c.loop-head.head-index c.head-item.result lt c.head-item.is (head_names) c.loop-head.names.items c.add.new.list.items (c.head-item.result.name ∷ []) (c.args.names.now.items ++ head_names c.args.heads.now) (search rules) refl c.loop-head.invariant
