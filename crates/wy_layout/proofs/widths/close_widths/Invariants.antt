use Rattle.std.proofs.Common.{◌≡◌, reverse, ◌+◌, ◌≤◌, vec_len}
use Rattle.wy_layout.specs.Widths.{above, rest}
use Rattle.wy_layout.proofs.widths.close_widths.Given as goal

abbrev pub invariant-loop-top : goal.invariant-loop-top
invariant-loop-top l = record {
  count : l.outs + above l.width (reverse l.widths.items) ≡ above l.width (reverse l.initial.widths.items);
  bound : l.outs + vec_len l.widths ≤ vec_len l.initial.widths;
  left : rest l.width (reverse l.widths.items) ≡ rest l.width (reverse l.initial.widths.items);
}

abbrev pub decreases-loop-top : goal.decreases-loop-top
decreases-loop-top l = vec_len l.widths
