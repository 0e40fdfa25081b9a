use Rattle.std.proofs.Common.{◌≡◌, ◌++◌, replicate}
use Rattle.wy_text.specs.declared.token.TokenKind.TheVariants as kind
use Rattle.wy_layout.specs.Layout.{mark}
use Rattle.wy_layout.proofs.lines.push_outs.Given as goal

abbrev pub invariant-loop-left : goal.invariant-loop-left
invariant-loop-left l = l.out.items ++ replicate l.left (mark l.row kind.Out l.at) ≡ l.initial.out.items ++ replicate l.count (mark l.row kind.Out l.at)

abbrev pub decreases-loop-left : goal.decreases-loop-left
decreases-loop-left l = l.left
