use Rattle.std.proofs.Common.{◌≡◌, ◌++◌, drop, map}
use Rattle.wy_symbols.specs.Least.{noted}
use Rattle.wy_symbols.specs.TypeUses.{declaration, declarations_refusals}
use Rattle.wy_symbols.specs.Lent.{lent_type}
use Rattle.wy_symbols.proofs.declarations.read_declarations.Given as goal

abbrev pub invariant-loop-decl : goal.invariant-loop-decl
invariant-loop-decl l = record {
  list : l.list ++ map (declaration l.types.heads) (map lent_type (drop l.decl-index l.decls)) ≡ l.initial.list ++ map (declaration l.types.heads) (map lent_type l.decls);
  least : noted l.least (declarations_refusals l.types.heads (map lent_type (drop l.decl-index l.decls))) ≡ noted l.initial.least (declarations_refusals l.types.heads (map lent_type l.decls));
}
