-- What contracts see of a table of pairs: what it was made for, and the pairs that were unfolded in it.
use Rattle.std.specs.Prelude.{◌≡◌, ℕ, ◌+◌, ◌≤◌, List, ◌++◌, length}
use Rattle.wy_text.specs.Members.{In}
use Rattle.wy_types.specs.declared.path.Step.{Step}
use Rattle.wy_types.specs.Program.{Program}
use Rattle.wy_subtype.specs.declared.verdict.Mode.{Mode}
use Rattle.wy_subtype.specs.Verdict.{LeadsTo}
use Rattle.wy_subtype.specs.Steps.{Pair}

-- the program, the scope and the mode in which pairs are asked
pub record About : Type 0 where
  pub program : Program
  pub scope : ℕ
  pub mode : Mode

pub record Decided : Type 0 where
  pub about : About
  pub pairs : List Pair

-- a path leads from the first pair to the second
pub record IsReached (about : About) (q r : Pair) : Type 0 where
  pub path : List Step
  pub leads : LeadsTo about.program about.scope about.mode q path r

-- the pairs stay, with others behind them that are reached from this one
pub record Extends (about : About) (q : Pair) (old new : List Pair) : Type 0 where
  pub tail : List Pair
  pub more : new ≡ old ++ tail
  pub reached : (r : Pair) → In r tail → IsReached about q r

-- a table for the same, with pairs behind its own that are reached from this one; no more steps were taken than there are new pairs
pub record Grows (q : Pair) (old new : Decided) (before after : ℕ) : Type 0 where
  pub same : new.about ≡ old.about
  pub extends : Extends old.about q old.pairs new.pairs
  pub cost : after + length old.pairs ≤ before + length new.pairs
