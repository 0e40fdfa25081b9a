-- A value judged at a type: its least effect at it; that it has not the type, though no node in it fails; or the first failing node.
use Rattle.std.specs.Prelude.{ℕ, List}
use Rattle.wy_text.specs.declared.fault.Fault as f

pub data Fit : Type 0 where
  Has : List ℕ → Fit
  Misfit : Fit
  Fails : f.Fault → Fit
