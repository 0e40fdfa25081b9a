use Rattle.std.proofs.Common.{◌≡◌, [], drop, map}
use Rattle.wy_symbols.specs.Least.{noted}
use Rattle.wy_heads.specs.Lines.{uses_refusals}
use Rattle.wy_symbols.specs.Lent.{module_tree}
use Rattle.wy_heads.proofs.lines.note_uses.Given as goal

abbrev pub invariant-loop-name : goal.invariant-loop-name
invariant-loop-name l =
    noted l.least (uses_refusals [] (map module_tree l.modules) [] (drop l.name-index l.uses)) ≡ noted l.initial.least (uses_refusals [] (map module_tree l.modules) [] l.uses)
