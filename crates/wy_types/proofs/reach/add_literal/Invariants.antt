use Rattle.std.proofs.Common.{◌≡◌, ◌++◌, take, map}
use Rattle.wy_types.specs.declared.resolved.Field.{Field}
use Rattle.wy_types.proofs.reach.add_literal.Given as goal

abbrev pub invariant-loop-field : goal.invariant-loop-field
invariant-loop-field l = l.out ≡ l.initial.out ++ map (λ (f : Field). f.typ) (take l.field-index l.field-items)
