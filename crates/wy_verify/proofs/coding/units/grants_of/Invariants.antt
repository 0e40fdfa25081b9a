use Rattle.std.proofs.Common.{◌≡◌, map, take}
use Rattle.wy_verified.specs.CodeOf.{grant_of}
use Rattle.wy_verify.proofs.coding.units.grants_of.Given as goal

abbrev pub invariant-loop-grant : goal.invariant-loop-grant
invariant-loop-grant l = l.list ≡ map grant_of (take l.grant-index l.grants)
