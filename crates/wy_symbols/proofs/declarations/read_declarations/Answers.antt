use Rattle.std.proofs.Common.{◌<◌, ◌++◌, ◌∷◌, [], List, Bor, length, map, refl, rules}
use Rattle.wy_syntax.specs.declared.items.TypeDecl.{TypeDecl}
use Rattle.wy_symbols.specs.TypeUses.{declaration, declaration_refusals, declarations_refusals}
use Rattle.wy_symbols.specs.Lent.{lent_type}
use Rattle.wy_symbols.proofs.Nexts.{added_next, noted_next}
use Rattle.wy_symbols.proofs.declarations.read_declarations.Goals as goal

pub loop-decl-preserved : goal.loop-decl-preserved
loop-decl-preserved c =
    let decls = c.args.decls.now in
    let i = c.loop-decl.decl-index in
    let lt : i < length decls = search rules in
    let x = c.decl-item.result in
    let heads = c.args.types.now.heads in
    let make = λ (ds : List (Bor TypeDecl)). map (declaration heads) (map lent_type ds) in
    let refusals = λ (ds : List (Bor TypeDecl)). declarations_refusals heads (map lent_type ds) in
    record {
      list = added_next decls i x lt c.decl-item.is make c.loop-decl.list c.push.new.self (declaration heads x.now ∷ []) (c.args.list.now ++ make decls)
          (search rules) refl c.loop-decl.invariant.list;
      least = noted_next decls i x lt c.decl-item.is refusals c.loop-decl.least c.read_declaration.new.least c.args.least.now (declaration_refusals heads x.now)
          (search rules) refl c.loop-decl.invariant.least;
    }
