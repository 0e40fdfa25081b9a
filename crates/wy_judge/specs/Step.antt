-- A statement judged before the rest of a block, or several: their effect, or the first failing node.
use Rattle.std.specs.Prelude.{ℕ, List}
use Rattle.wy_text.specs.declared.fault.Fault as f

pub data Step : Type 0 where
  Done : List ℕ → Step
  Fails : f.Fault → Step
