use Rattle.std.proofs.Common.{◌≡◌, ◌≤◌, ◌+◌, length}
use Rattle.wy_layout.specs.Counts.{counted_from}
use Rattle.wy_layout.specs.Gives.{IsCalm}
use Rattle.wy_layout.specs.Lexed.{words_of}
use Rattle.wy_layout.specs.Turns.{prepend}
use Rattle.wy_layout.proofs.line.line_tokens.Given as goal

abbrev pub invariant-loop-token : goal.invariant-loop-token
invariant-loop-token l =
    (prepend l.out.items (words_of l.row l.count l.at l.rest) ≡ prepend l.initial.out.items (words_of l.row (counted_from l.tokens) l.start l.text)) ×
    (l.at + length l.rest ≡ l.start + length l.text) × (l.start ≤ l.at) × IsCalm l.count

abbrev pub decreases-loop-token : goal.decreases-loop-token
decreases-loop-token l = length l.rest
