use Rattle.std.proofs.Common.{◌↔◌, drop}
use Rattle.wy_types.specs.declared.resolved.OwnName.{OwnName}
use Rattle.wy_rules.specs.Acceptance.{IsLine}
use Rattle.wy_premises.specs.Tried.{OfEach}
use Rattle.wy_recheck.proofs.lines.has_no_line.Given as goal

abbrev pub invariant-loop-name : goal.invariant-loop-name
invariant-loop-name l = OfEach (λ (f : OwnName). IsLine f.origin → ⊥) (drop l.name-index l.names) ↔ OfEach (λ (f : OwnName). IsLine f.origin → ⊥) l.names
