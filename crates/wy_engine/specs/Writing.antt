-- What writing a text to `out` does.
use Rattle.std.specs.Prelude.{◌≡◌, ◌⊎◌, ℕ, List, []}
use Rattle.wy_text.specs.Outside.{Rose, SinkState}
use Rattle.wy_text.specs.Writing.{StopsShort, WritesUpTo}
use Rattle.wy_engine.specs.declared.status.Status.{Status}
use Rattle.wy_engine.specs.declared.status.Status.TheVariants as status

-- a text was written to `out`, whole or in part
pub data Wrote (text : List ℕ) (out out' : SinkState) (end : Status) : Type 0 where
  whole : WritesUpTo text [] out out' → end ≡ status.Ended → Wrote text out out' end
  cut : StopsShort text out out' → Rose out.faults out'.faults → end ≡ status.Unwritten → Wrote text out out' end
  starved : (rest : List ℕ) → WritesUpTo text rest out out' → end ≡ status.Memory → Wrote text out out' end

-- a text came to the end of a report, whole unless its sink counted a fault
pub record EndsReport (text : List ℕ) (before after : SinkState) : Type 0 where
  pub rest : List ℕ
  pub written : WritesUpTo text rest before after
  pub whole : (rest ≡ []) ⊎ Rose before.faults after.faults

-- .. or a part of it, since the sink ran out of memory
pub record BeginsEnd (text : List ℕ) (before after : SinkState) : Type 0 where
  pub rest : List ℕ
  pub written : WritesUpTo text rest before after
