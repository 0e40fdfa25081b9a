use Rattle.std.proofs.Common.{◌≡◌, take, map}
use Rattle.wy_types.proofs.primitive.members_of.Given as goal

abbrev pub invariant-loop-name : goal.invariant-loop-name
invariant-loop-name l = l.members ≡ map (λ n. n.now) (take l.name-index l.names)
