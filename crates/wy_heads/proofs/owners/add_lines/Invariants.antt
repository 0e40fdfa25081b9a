use Rattle.std.proofs.Common.{drop, map}
use Rattle.wy_symbols.specs.declared.scoping.Owner.{Owner}
use Rattle.wy_syntax.specs.Collected.{Collected, Adds}
use Rattle.wy_symbols.specs.Atoms.{line_owner}
use Rattle.wy_symbols.specs.Lent.{module_tree}
use Rattle.wy_heads.proofs.owners.add_lines.Given as goal

abbrev pub invariant-loop-line : goal.invariant-loop-line
invariant-loop-line l = (end : Collected Owner) → Adds (map (line_owner l.types (map module_tree l.modules)) (drop l.line-index l.lines)) l.owners end → Adds (map (line_owner l.types (map module_tree l.modules)) l.lines) l.initial.owners end
