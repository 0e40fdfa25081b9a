use Rattle.std.proofs.Common.{◌≡◌, take}
use Rattle.wy_code.specs.EachOnce.{each_once_after}
use Rattle.wy_verified.specs.CodeOf.{bodies_texts}
use Rattle.wy_verify.proofs.coding.texts.put_bodies.Given as goal

abbrev pub invariant-loop-body : goal.invariant-loop-body
invariant-loop-body l = l.table.keys ≡ each_once_after l.fn.table.keys (bodies_texts (take l.body-index l.bodies))
