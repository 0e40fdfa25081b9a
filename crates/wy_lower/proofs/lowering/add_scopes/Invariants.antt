use Rattle.std.proofs.Common.{◌≡◌, ◌++◌, length, map, drop}
use Rattle.wy_types.specs.Program.{scope_of}
use Rattle.wy_lower.specs.Lowering.{scopes_bodies, scopes_code}
use Rattle.wy_lower.specs.EmitBodies.{whole_program, whole_starts}
use Rattle.wy_lower.proofs.lowering.add_scopes.Given as goal

abbrev pub invariant-loop-k : goal.invariant-loop-k
invariant-loop-k l = record {
  bodies : l.bodies ++ scopes_bodies (whole_program l.whole) (whole_starts l.whole) (map scope_of (drop l.k l.whole.core.now.scopes)) ≡ scopes_bodies (whole_program l.whole) (whole_starts l.whole) (whole_program l.whole).scopes;
  scopes : l.scopes ++ scopes_code (whole_program l.whole) (whole_starts l.whole) (length l.bodies) (map scope_of (drop l.k l.whole.core.now.scopes)) ≡ scopes_code (whole_program l.whole) (whole_starts l.whole) 0 (whole_program l.whole).scopes;
}
