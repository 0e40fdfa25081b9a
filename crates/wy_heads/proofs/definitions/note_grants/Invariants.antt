use Rattle.std.proofs.Common.{◌≡◌, drop}
use Rattle.wy_symbols.specs.Least.{noted}
use Rattle.wy_heads.specs.Lines.{grant_refusals}
use Rattle.wy_heads.proofs.definitions.note_grants.Given as goal

abbrev pub invariant-loop-grant : goal.invariant-loop-grant
invariant-loop-grant l = noted l.least (grant_refusals l.types (drop l.grant-index l.grants)) ≡ noted l.initial.least (grant_refusals l.types l.grants)
