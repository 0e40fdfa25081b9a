use Rattle.std.proofs.Common.{◌≡◌, length}
use Rattle.wy_layout.specs.Read.{scan}
use Rattle.wy_layout.specs.Faults.{Sane}
use Rattle.wy_layout.specs.Gives.{put_all}
use Rattle.wy_layout.specs.declared.escape.State.TheVariants as state
use Rattle.wy_layout.proofs.words.by_bytes.Given as goal

abbrev pub invariant-loop-text : goal.invariant-loop-text
invariant-loop-text l = (put_all l.out.items (scan l.state l.text) ≡ put_all l.initial.out.items (scan state.Plain l.initial.text)) × Sane l.state

abbrev pub decreases-loop-text : goal.decreases-loop-text
decreases-loop-text l = length l.text
