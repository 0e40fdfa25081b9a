use Rattle.std.proofs.Common.{drop}
use Rattle.wy_symbols.specs.declared.scoping.Owner.{Owner}
use Rattle.wy_syntax.specs.Collected.{Collected, Adds}
use Rattle.wy_symbols.specs.Atoms.{params_owners}
use Rattle.wy_heads.proofs.owners.add_params.Given as goal

abbrev pub invariant-loop-param : goal.invariant-loop-param
invariant-loop-param l = (end : Collected Owner) → Adds (params_owners l.types l.plain (drop l.param-index l.params)) l.owners end → Adds (params_owners l.types l.plain l.params) l.initial.owners end
