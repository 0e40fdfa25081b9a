-- How the line of Memory closes the report of a call that ran out of memory for its last line.
use Rattle.std.proofs.Common.{inr, List, ℕ, refl, Result, Ok, Err, OnErr}
use Rattle.wy_text.specs.Outside.{SinkState}
use Rattle.wy_engine.specs.Headline.{Closes}
use Rattle.wy_engine.specs.LastLine.{LineWords, last_line}
use Rattle.wy_engine.specs.Writing.{BeginsEnd, EndsReport}
use Rattle.wy_engine.specs.declared.status.Status.{Status}
use Rattle.wy_engine.specs.declared.status.Status.TheVariants as status

-- the line of Memory was written, whole or in part
pub closes_untold : (words : LineWords) (settled : Status) (before after : SinkState) → BeginsEnd (last_line words status.Memory) before after → Closes words settled status.Memory before after
closes_untold words settled before after begins = record {
  said = status.Memory;
  says = inr (refl, refl);
  line = begins.written.front;
  cut = begins.rest;
  split = begins.written.split;
  taken = begins.written.taken;
  whole = λ full. absurd (full refl);
  counted = begins.written.counted;
  kept = inr refl;
}

pub begun_of_told : (text : List ℕ) (before after : SinkState) → EndsReport text before after → BeginsEnd text before after
begun_of_told text before after ends = record { rest = ends.rest; written = ends.written }

-- what holds, holds on an error
pub on_error : {A B P : Type 0} → (r : Result A B) → P → OnErr r P
on_error (Ok x) p = tt
on_error (Err e) p = p
