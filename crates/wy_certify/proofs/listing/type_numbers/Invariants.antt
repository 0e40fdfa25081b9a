use Rattle.std.proofs.Common.{◌≡◌, take, map}
use Rattle.wy_proving.specs.Written.{number}
use Rattle.wy_certify.proofs.listing.type_numbers.Given as goal

abbrev pub invariant-loop-typ : goal.invariant-loop-typ
invariant-loop-typ l = l.numbers ≡ map (number l.table) (take l.typ-index l.types)
