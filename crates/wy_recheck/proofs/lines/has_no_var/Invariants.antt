use Rattle.std.proofs.Common.{◌≡◌, ◌↔◌, drop, false}
use Rattle.wy_types.specs.declared.resolved.Field.{Field}
use Rattle.wy_premises.specs.Tried.{OfEach}
use Rattle.wy_recheck.proofs.lines.has_no_var.Given as goal

abbrev pub invariant-loop-field : goal.invariant-loop-field
invariant-loop-field l = OfEach (λ (f : Field). f.mutable ≡ false) (drop l.field-index l.fields) ↔ OfEach (λ (f : Field). f.mutable ≡ false) l.fields
