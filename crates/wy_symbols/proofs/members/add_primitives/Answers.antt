use Rattle.std.proofs.Common.{[], length, map, refl, rules, ◌++◌, ◌<◌, ◌∷◌}
use Rattle.wy_symbols.specs.Atoms.{primitive_head}
use Rattle.wy_symbols.proofs.Nexts.{added_next}
use Rattle.wy_symbols.proofs.members.add_primitives.Goals as goal

pub loop-decl-preserved : goal.loop-decl-preserved
loop-decl-preserved c =
    let lt : c.loop-decl.decl-index < length c.args.primitives.now = search rules in
    added_next c.args.primitives.now c.loop-decl.decl-index c.decl-item.result lt c.decl-item.is (map primitive_head) c.loop-decl.heads.items c.add.new.list.items (primitive_head c.decl-item.result ∷ []) (c.args.heads.now.items ++ map primitive_head c.args.primitives.now) (search rules) refl c.loop-decl.invariant
