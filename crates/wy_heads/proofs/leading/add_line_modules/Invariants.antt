use Rattle.std.proofs.Common.{drop, map}
use Rattle.wy_syntax.specs.declared.types.Name.{Name}
use Rattle.wy_syntax.specs.Collected.{Collected, Adds}
use Rattle.wy_heads.specs.Lines.{line_module}
use Rattle.wy_heads.proofs.leading.add_line_modules.Given as goal

abbrev pub invariant-loop-line : goal.invariant-loop-line
invariant-loop-line l = (end : Collected Name) → Adds (map line_module (drop l.line-index l.lines)) l.words end → Adds (map line_module l.lines) l.initial.words end
