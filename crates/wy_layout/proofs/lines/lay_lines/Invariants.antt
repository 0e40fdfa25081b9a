use Rattle.std.proofs.Common.{◌≡◌, ◌+◌, ◌≤◌, length, reverse}
use Rattle.wy_layout.specs.Lines.{lines}
use Rattle.wy_layout.specs.Lexed.{join, lex_lines}
use Rattle.wy_layout.proofs.lines.lay_lines.Given as goal

abbrev pub invariant-lines : goal.invariant-lines
invariant-lines l =
    (join l.out.items (lex_lines l.row (length l.text) (length l.out.items) (reverse l.widths.items) (lines l.row l.rest))
    ≡ join l.initial.out.items (lex_lines l.fn.first (length l.text) (length l.initial.out.items) (reverse l.initial.widths.items) (lines l.fn.first l.text)))
    × (l.row.start + length l.rest ≡ length l.text) × (l.row.number ≤ l.row.start + 1)

abbrev pub decreases-lines : goal.decreases-lines
decreases-lines l = length l.rest
