use Rattle.std.proofs.Common.{drop, map}
use Rattle.wy_symbols.specs.declared.scoping.Owner.{Owner}
use Rattle.wy_syntax.specs.Collected.{Collected, Adds}
use Rattle.wy_symbols.specs.Atoms.{grant_owner}
use Rattle.wy_heads.proofs.owners.add_grants.Given as goal

abbrev pub invariant-loop-grant : goal.invariant-loop-grant
invariant-loop-grant l = (end : Collected Owner) → Adds (map (grant_owner l.types) (drop l.grant-index l.grants)) l.owners end → Adds (map (grant_owner l.types) l.grants) l.initial.owners end
