use Rattle.std.proofs.Common.{◌≡◌, drop, map}
use Rattle.wy_types.specs.Signature.{find_method}
use Rattle.wy_types.specs.Types.{signature}
use Rattle.wy_types.proofs.methods.find.Given as goal

abbrev pub invariant-loop-m : goal.invariant-loop-m
invariant-loop-m l = find_method l.name (map signature (drop l.m-index l.methods)) ≡ find_method l.name (map signature l.methods)
