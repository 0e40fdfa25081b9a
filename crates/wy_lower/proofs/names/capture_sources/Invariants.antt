use Rattle.std.proofs.Common.{◌≡◌, ◌++◌, drop, ◌-◌}
use Rattle.wy_lower.specs.Inside.{own_values, own_sources, sources_of, capture_sources}
use Rattle.wy_lower.specs.Emits.{inside_of}
use Rattle.wy_lower.proofs.names.capture_sources.Given as goal

abbrev pub invariant-loop-number : goal.invariant-loop-number
invariant-loop-number l = l.sources ++ own_sources l.number (own_values (inside_of l.inside) - l.number) ≡ own_sources 0 (own_values (inside_of l.inside))

abbrev pub invariant-loop-variable : goal.invariant-loop-variable
invariant-loop-variable l = l.sources ++ sources_of (inside_of l.inside) (drop l.variable-index l.variables) ≡ capture_sources (inside_of l.inside) l.variables
