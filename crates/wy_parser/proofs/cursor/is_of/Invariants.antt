use Rattle.std.proofs.Common.{◌≡◌, drop}
use Rattle.wy_syntax.specs.Tokens.{member}
use Rattle.wy_parser.specs.Sorts.{numbers}
use Rattle.wy_parser.proofs.cursor.is_of.Given as goal

-- it is in what is left exactly where it is in the set
abbrev pub invariant-loop-sort : goal.invariant-loop-sort
invariant-loop-sort l = member l.number (numbers (drop l.sort-index l.set)) ≡ member l.number (numbers l.set)
