use Rattle.std.proofs.Common.{◌≡◌, ◌+◌, map, drop}
use Rattle.wy_types.specs.Program.{scope_of}
use Rattle.wy_lower.specs.Capped.{capped}
use Rattle.wy_lower.specs.Counts.{body_count}
use Rattle.wy_lower.proofs.limits.body_count.Given as goal

abbrev pub invariant-loop-scope : goal.invariant-loop-scope
invariant-loop-scope l = record {
  counted : l.count ≡ capped l.count;
  by : capped (l.count + body_count (map scope_of (drop l.scope-index l.scopes))) ≡ capped (body_count (map scope_of l.scopes));
}
