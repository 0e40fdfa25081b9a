-- The `val`s of the program of some texts are numbered in the order in which they stand there.
use Rattle.std.specs.Prelude.{ℕ, List}
use Rattle.wy_text.specs.Members.{In}
use Rattle.wy_types.specs.Program.{Program, Scope}
use Rattle.wy_well_formed.specs.ValPlaces.{AreInOrder, scope_vals_at}
use Rattle.wy_engine.specs.NameFaults.{ResolveTo}

-- of two `val`s of a scope the one of the lesser number stands before the other
abbrev pub ValsStandInOrder : Type 0
ValsStandInOrder = (texts : List (List ℕ)) (program : Program) → ResolveTo texts program → (s : Scope) → In s program.scopes → AreInOrder (scope_vals_at s)
