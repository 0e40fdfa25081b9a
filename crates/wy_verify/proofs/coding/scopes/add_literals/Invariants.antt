use Rattle.std.proofs.Common.{◌≡◌, ◌++◌, map, take}
use Rattle.wy_verified.specs.CodeOf.{literal_of}
use Rattle.wy_verify.proofs.coding.scopes.add_literals.Given as goal

abbrev pub invariant-loop-literal : goal.invariant-loop-literal
invariant-loop-literal l = l.list ≡ l.fn.list ++ map literal_of (take l.literal-index l.literals)
