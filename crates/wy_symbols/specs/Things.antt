-- The names of types and modules that are lent from the trees of the files, and those of lines.
use Rattle.std.proofs.Common.{Bor}
use Rattle.wy_syntax.specs.declared.types.Name.{Name}
use Rattle.wy_syntax.specs.declared.items.Line.{Line}
use Rattle.wy_syntax.specs.declared.items.Line.TheVariants as line
use Rattle.wy_syntax.specs.declared.items.TypeDecl.{TypeDecl}
use Rattle.wy_symbols.specs.declared.gathering.ModuleView.{ModuleView}

abbrev pub type_name : Bor TypeDecl → Name
type_name d = d.now.name

abbrev pub module_name : ModuleView → Name
module_name m = m.name.now

abbrev pub line_word : Line → Name
line_word (line.Instance x m ns) = x
line_word (line.Import x m ns set) = x
