use Rattle.std.proofs.Common.{◌≡◌, map, take}
use Rattle.wy_verified.specs.CodeOf.{scope_of}
use Rattle.wy_verify.proofs.coding.scopes.scopes_of.Given as goal

abbrev pub invariant-loop-scope : goal.invariant-loop-scope
invariant-loop-scope l = l.list ≡ map scope_of (take l.scope-index l.scopes)
