use Rattle.std.proofs.Common.{◌≡◌, ◌++◌, drop}
use Rattle.wy_symbols.specs.Meanings.{abstract_bounds}
use Rattle.wy_symbols.specs.Atoms.{bounds_at}
use Rattle.wy_symbols.proofs.atoms.add_member_bounds.Given as goal

abbrev pub invariant-loop-member : goal.invariant-loop-member
invariant-loop-member l =
    l.bounds ++ bounds_at l.sets (abstract_bounds (drop l.member-index l.members)) ≡ l.initial.bounds ++ bounds_at l.sets (abstract_bounds l.members)
