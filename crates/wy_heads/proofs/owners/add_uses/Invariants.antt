use Rattle.std.proofs.Common.{drop, map}
use Rattle.wy_symbols.specs.declared.scoping.Owner.{Owner}
use Rattle.wy_syntax.specs.Collected.{Collected, Adds}
use Rattle.wy_symbols.specs.Atoms.{use_owner}
use Rattle.wy_symbols.specs.Lent.{module_tree}
use Rattle.wy_heads.proofs.owners.add_uses.Given as goal

abbrev pub invariant-loop-name : goal.invariant-loop-name
invariant-loop-name l = (end : Collected Owner) → Adds (map (use_owner l.types (map module_tree l.modules)) (drop l.name-index l.uses)) l.owners end → Adds (map (use_owner l.types (map module_tree l.modules)) l.uses) l.initial.owners end
