use Rattle.std.proofs.Common.{◌≡◌, map, take}
use Rattle.wy_verified.specs.CodeOf.{method_of}
use Rattle.wy_verify.proofs.coding.scopes.methods_of.Given as goal

abbrev pub invariant-loop-entry : goal.invariant-loop-entry
invariant-loop-entry l = l.methods ≡ map method_of (take l.entry-index l.entries)
