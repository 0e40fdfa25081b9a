-- How many `val`s there are, taken from a number.
use Rattle.std.specs.Prelude.{◌≡◌, ◌+◌, ◌<◌, ℕ, List, ◌∷◌, Option, Some, None, length}
use Rattle.wy_types.specs.declared.code.Stmt.{Stmt}
use Rattle.wy_types.specs.declared.code.Stmt.TheVariants.{Val, Do}
use Rattle.wy_types.specs.View.{value_of}
use Rattle.wy_types.specs.Vals.{value_vals}

-- so much is left of a number once `val`s are taken from it, or there are more of them
abbrev pub IsTaken : ℕ → List ℕ → Option ℕ → Type 0
IsTaken n vals None = n < length vals
IsTaken n vals (Some rest) = rest + length vals ≡ n

-- the `val`s of a statement
abbrev pub statement_vals : Stmt → List ℕ
statement_vals (Val q n typ x) = n ∷ value_vals (value_of x)
statement_vals (Do x) = value_vals (value_of x)
