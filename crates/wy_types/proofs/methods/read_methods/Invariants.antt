use Rattle.std.proofs.Common.{◌≡◌, take, map}
use Rattle.wy_types.specs.Types.{signature}
use Rattle.wy_types.specs.Readings.{signature_read}
use Rattle.wy_types.proofs.methods.read_methods.Given as goal

abbrev pub invariant-loop-m : goal.invariant-loop-m
invariant-loop-m l = map signature l.out.items ≡ map (signature_read l.reading) (map signature (take l.m-index l.methods))
