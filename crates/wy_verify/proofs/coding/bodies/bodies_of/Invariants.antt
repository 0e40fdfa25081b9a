use Rattle.std.proofs.Common.{◌≡◌, take}
use Rattle.wy_verified.specs.CodeOf.{bodies_of, typings_of}
use Rattle.wy_verify.proofs.coding.bodies.bodies_of.Given as goal

abbrev pub invariant-loop-number : goal.invariant-loop-number
invariant-loop-number l = l.list ≡ bodies_of l.texts.keys (typings_of l.file) 0 (take l.number l.bodies)
