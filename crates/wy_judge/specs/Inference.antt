-- An expression judged by itself: its least type and effect, or the first failing node in it.
use Rattle.std.specs.Prelude.{ℕ, List}
use Rattle.wy_text.specs.declared.fault.Fault as f
use Rattle.wy_types.specs.declared.types.TypeRef as t

pub data Inference : Type 0 where
  Least : t.TypeRef → List ℕ → Inference
  Fails : f.Fault → Inference
