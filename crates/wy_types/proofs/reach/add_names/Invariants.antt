use Rattle.std.proofs.Common.{◌≡◌, ◌++◌, take, map}
use Rattle.wy_types.specs.declared.resolved.OwnName.{OwnName}
use Rattle.wy_types.proofs.reach.add_names.Given as goal

abbrev pub invariant-loop-name : goal.invariant-loop-name
invariant-loop-name l = l.out ≡ l.initial.out ++ map (λ (n : OwnName). n.typ) (take l.name-index l.names)
