use Rattle.std.proofs.Common.{◌≡◌, ◌++◌, drop}
use Rattle.wy_symbols.specs.Meanings.{abstract_bounds}
use Rattle.wy_symbols.proofs.declarations.abstract_bounds.Given as goal

abbrev pub invariant-loop-member : goal.invariant-loop-member
invariant-loop-member l = l.bounds ++ abstract_bounds (drop l.member-index l.members) ≡ abstract_bounds l.members
