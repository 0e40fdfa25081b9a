use Rattle.std.proofs.Common.{◌≡◌, map, take}
use Rattle.wy_verified.specs.CodeOf.{source_of}
use Rattle.wy_verify.proofs.coding.scopes.sources_of.Given as goal

abbrev pub invariant-loop-capture : goal.invariant-loop-capture
invariant-loop-capture l = l.sources ≡ map source_of (take l.capture-index l.captures)
