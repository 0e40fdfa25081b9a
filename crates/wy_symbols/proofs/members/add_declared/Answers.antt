use Rattle.std.proofs.Common.{Bor, List, [], length, map, refl, rules, ◌++◌, ◌<◌, ◌∷◌}
use Rattle.wy_syntax.specs.declared.items.TypeDecl.{TypeDecl}
use Rattle.wy_symbols.specs.Atoms.{head}
use Rattle.wy_symbols.specs.Lent.{lent_type}
use Rattle.wy_symbols.proofs.Nexts.{added_next}
use Rattle.wy_symbols.proofs.members.add_declared.Goals as goal

pub loop-decl-preserved : goal.loop-decl-preserved
loop-decl-preserved c =
    let lt : c.loop-decl.decl-index < length c.args.types.now = search rules in
    added_next c.args.types.now c.loop-decl.decl-index c.decl-item.result lt c.decl-item.is (λ (ds : List (Bor TypeDecl)). map head (map lent_type ds)) c.loop-decl.heads.items c.add.new.list.items (head c.decl-item.result.now ∷ []) (c.args.heads.now.items ++ map head (map lent_type c.args.types.now)) (search rules) refl c.loop-decl.invariant
