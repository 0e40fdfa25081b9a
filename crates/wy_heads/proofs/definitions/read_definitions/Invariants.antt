use Rattle.std.proofs.Common.{◌≡◌, [], drop, take}
use Rattle.wy_symbols.specs.Least.{noted}
use Rattle.wy_heads.specs.ScopeHeads.{definitions_after, definitions_refusals}
use Rattle.wy_heads.proofs.definitions.read_definitions.Given as goal

abbrev pub invariant-loop-define : goal.invariant-loop-define
invariant-loop-define l = record {
  before : definitions_after l.owners.heads l.owners.atoms (take l.visible l.owners.owners) l.before (drop l.define-index l.defines) ≡
      definitions_after l.owners.heads l.owners.atoms (take l.visible l.owners.owners) [] l.defines;
  least : noted l.least (definitions_refusals l.owners.heads l.owners.atoms (take l.visible l.owners.owners) l.before (drop l.define-index l.defines)) ≡
      noted l.initial.least (definitions_refusals l.owners.heads l.owners.atoms (take l.visible l.owners.owners) [] l.defines);
}
