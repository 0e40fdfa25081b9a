-- A program with its tables.
use Rattle.std.specs.Prelude.{◌≡◌, map}
use Rattle.wy_types.specs.Program.{Program, program_of}
use Rattle.wy_meaning.specs.Starts.{Starts, starts_of, started_of}
use Rattle.wy_lower.specs.Lowering.{text_table, method_table}
use Rattle.wy_lower.specs.EmitScopes.{AreTabled}
use Rattle.wy_lower.specs.declared.emitting.Whole.{Whole}

abbrev pub whole_program : Whole → Program
whole_program w = program_of w.core.now

abbrev pub whole_starts : Whole → Starts
whole_starts w = starts_of (whole_program w) (map started_of w.linked.now)

-- what is kept of a program is the program's
pub record IsWhole (w : Whole) : Type 0 where
  pub actuals : w.actuals.items ≡ (whole_starts w).main.actuals
  pub texts : w.texts.keys ≡ text_table (whole_program w)
  pub methods : w.methods.keys ≡ method_table (whole_program w)
  pub tables : AreTabled (whole_program w).scopes w.tables.items
