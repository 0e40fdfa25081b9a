-- Names and declarations that are lent from the trees of the files.
use Rattle.std.specs.Prelude.{ℕ, List, map}
use Rattle.std.specs.Option.{option_copied}
use Rattle.std.proofs.Common.{Bor}
use Rattle.wy_syntax.specs.declared.types.Name.{Name}
use Rattle.wy_syntax.specs.declared.items.TypeDecl.{TypeDecl}
use Rattle.wy_syntax.specs.declared.items.Program as code
use Rattle.wy_syntax.specs.Views.{part_trees, tail_tree}
use Rattle.wy_symbols.specs.declared.gathering.ModuleView.{ModuleView}
use Rattle.wy_symbols.specs.Declarations.{ModuleTree, ProgramTree, Declared}

abbrev pub lent_type : Bor TypeDecl → TypeDecl
lent_type d = d.now

abbrev pub lent_name : Bor Name → Name
lent_name n = n.now

abbrev pub lent_text : Bor (List ℕ) → List ℕ
lent_text x = x.now

abbrev pub program_tree : code.Program → ProgramTree
program_tree g =
    record { place = g.place; grants = g.grants; uses = g.uses; lines = g.lines; run = g.run; effect = g.effect; body = tail_tree g.body }

abbrev pub lent_program : Bor code.Program → ProgramTree
lent_program g = program_tree g.now

abbrev pub module_tree : ModuleView → ModuleTree
module_tree m = record {
  kind = m.kind;
  place = m.place;
  name = m.name.now;
  params = m.params.now;
  sealed = m.sealed.now;
  uses = m.uses.now;
  lines = m.lines.now;
  defines = m.defines.now;
  init = option_copied m.init;
  parts = part_trees m.parts.now;
}

abbrev pub lent_declared : List (Bor TypeDecl) → List ModuleView → List (Bor code.Program) → Declared
lent_declared types modules programs =
    record { types = map lent_type types; modules = map module_tree modules; programs = map lent_program programs }
