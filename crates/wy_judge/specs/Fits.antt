-- Several values judged, each at its type: the effect of all; the number of the first that has not its type, though no node in
-- any of them fails; or the first failing node.
use Rattle.std.specs.Prelude.{ℕ, List}
use Rattle.wy_text.specs.declared.fault.Fault as f

pub data Fits : Type 0 where
  Have : List ℕ → Fits
  Misfit : ℕ → Fits
  Fails : f.Fault → Fits
