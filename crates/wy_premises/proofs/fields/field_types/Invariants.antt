use Rattle.std.proofs.Common.{◌≡◌, map, take}
use Rattle.wy_types.specs.declared.resolved.Field.{Field}
use Rattle.wy_premises.proofs.fields.field_types.Given as goal

abbrev pub invariant-loop-field : goal.invariant-loop-field
invariant-loop-field l = l.types ≡ map (λ (f : Field). f.typ) (take l.field-index l.field-items)
