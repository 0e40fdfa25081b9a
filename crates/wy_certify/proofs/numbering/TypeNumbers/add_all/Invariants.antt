use Rattle.std.proofs.Common.{◌≡◌, drop}
use Rattle.wy_certify.specs.PartTable.{each_once_after}
use Rattle.wy_certify.proofs.numbering.TypeNumbers.add_all.Given as goal

abbrev pub invariant-loop-typ : goal.invariant-loop-typ
invariant-loop-typ l = each_once_after l.self (drop l.typ-index l.types) ≡ each_once_after l.initial.self l.types
