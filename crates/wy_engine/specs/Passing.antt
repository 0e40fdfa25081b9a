-- Texts that pass.
use Rattle.std.specs.Prelude.{ℕ, List}
use Rattle.wy_types.specs.Program.{Program}
use Rattle.wy_rules.specs.Ends.{IsAccepted}
use Rattle.wy_engine.specs.NameFaults.{ResolveTo}

-- the texts are those of the program, which is accepted by the rules, within the limits
pub record Passes (texts : List (List ℕ)) (program : Program) : Type 0 where
  pub read : ResolveTo texts program
  pub accepted : IsAccepted program
