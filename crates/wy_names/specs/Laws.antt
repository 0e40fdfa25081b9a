-- What the definitions of names say of themselves: items have one answer, of which want of memory alone may take the
-- place (docs/LANGUAGE.md, "Names").
use Rattle.std.specs.Prelude.{◌≡◌, ◌≢◌, Bool, List}
use Rattle.wy_text.specs.declared.fault.Place.{Place}
use Rattle.wy_syntax.specs.Marks.{ItemsPass}
use Rattle.wy_syntax.specs.Trees.{ItemTree}
use Rattle.wy_types.specs.Marks.{ProgramPasses}
use Rattle.wy_types.specs.Program.{Program}
use Rattle.wy_names.specs.Names.{Refused, Resolves}
use Rattle.wy_names.specs.declared.refusal.NameRefusal.{NameRefusal}
use Rattle.wy_names.specs.declared.refusal.NameRefusal.TheVariants as refusal

-- names that resolve are those of one program
abbrev pub OneProgram : Type 0
OneProgram = (items : List ItemTree) (one other : Program) → Resolves items one → Resolves items other → one ≡ other

-- names that resolve are refused for want of memory alone
abbrev pub ResolvedOrRefused : Type 0
ResolvedOrRefused = (items : List ItemTree) (program : Program) (why : NameRefusal) → Resolves items program → Refused items why → why ≡ refusal.Memory

-- but for want of memory, names have one refusal
abbrev pub OneRefusal : Type 0
OneRefusal = (items : List ItemTree) (one other : NameRefusal) → Refused items one → Refused items other → one ≢ refusal.Memory → other ≢ refusal.Memory → one ≡ other

-- names leave each form its mark: a test that each mark of the items passes is passed by each mark of their program
abbrev pub MarksOfItems : Type 0
MarksOfItems = (items : List ItemTree) (program : Program) → Resolves items program → (test : Place → Bool) → ItemsPass test items → ProgramPasses test program
