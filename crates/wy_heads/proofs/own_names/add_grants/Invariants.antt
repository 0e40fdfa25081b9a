use Rattle.std.proofs.Common.{◌≡◌, ◌++◌, drop, map}
use Rattle.wy_heads.specs.Lines.{grant_name}
use Rattle.wy_heads.proofs.own_names.add_grants.Given as goal

abbrev pub invariant-loop-i : goal.invariant-loop-i
invariant-loop-i l = l.list ++ map (grant_name l.owners) (drop l.i l.grants) ≡ l.initial.list ++ map (grant_name l.owners) l.grants
