use Rattle.std.proofs.Common.{◌≡◌, take}
use Rattle.wy_certify.proofs.settling.listed.Given as goal

abbrev pub invariant-loop-typ : goal.invariant-loop-typ
invariant-loop-typ l = l.list ≡ take l.typ-index l.types
