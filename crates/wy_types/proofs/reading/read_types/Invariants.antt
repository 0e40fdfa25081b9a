use Rattle.std.proofs.Common.{◌≡◌, take, map}
use Rattle.wy_types.specs.Readings.{type_read}
use Rattle.wy_types.proofs.reading.read_types.Given as goal

abbrev pub invariant-loop-t : goal.invariant-loop-t
invariant-loop-t l = l.out ≡ map (type_read l.reading) (take l.t-index l.types)
