-- The refusals of the head of a module and of the program, up to their lines.
use Rattle.std.specs.Prelude.{List, [], ◌++◌}
use Rattle.wy_types.specs.Types.{is_plain}
use Rattle.wy_symbols.specs.declared.refusal.Refusal.{Refusal}
use Rattle.wy_symbols.specs.declared.scoping.Head.{Head}
use Rattle.wy_symbols.specs.Declarations.{ModuleTree, ProgramTree, repeated}
use Rattle.wy_symbols.specs.Atoms.{head_names, type_number}
use Rattle.wy_symbols.specs.TypeUses.{param_names}
use Rattle.wy_heads.specs.Lines.{param_refusals, grant_refusals, uses_refusals, lines_refusals}
use Rattle.wy_heads.specs.ScopeHeads.{grant_names, line_words, sealed_refusals, param_scope, module_atoms, early_owners, program_atoms, grant_owners}

abbrev pub front_refusals : List Head → List ModuleTree → ModuleTree → List Refusal
front_refusals heads modules m =
    sealed_refusals heads modules m (type_number (head_names heads) m.sealed.text) ++
    (repeated [] (param_names m.params ++ (m.uses ++ line_words m.lines)) ++
    (param_refusals (param_scope heads modules m) (is_plain m.kind) m.params ++
    (uses_refusals heads modules (module_atoms heads modules m) m.uses ++
    lines_refusals heads modules (module_atoms heads modules m) (early_owners heads modules m) m.lines)))

-- of the program's head
abbrev pub program_front : List Head → List ModuleTree → ProgramTree → List Refusal
program_front heads modules g =
    repeated [] (grant_names g.grants ++ (g.uses ++ line_words g.lines)) ++
    (grant_refusals (head_names heads) g.grants ++
    (uses_refusals heads modules (program_atoms heads modules g) g.uses ++
    lines_refusals heads modules (program_atoms heads modules g) (grant_owners heads modules g) g.lines))
