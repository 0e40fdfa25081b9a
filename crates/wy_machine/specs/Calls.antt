-- Which body a call enters.
use Rattle.std.specs.Prelude.{ℕ, Option, Some, None}
use Rattle.wy_code.specs.declared.code.Literal.{Literal}
use Rattle.wy_code.specs.Machine.{body_called}

-- the number of the body of a literal's method
abbrev pub number_called : Option Literal → ℕ → Option ℕ
number_called None m = None
number_called (Some l) m = body_called m l.methods
