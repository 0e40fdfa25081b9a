use Rattle.std.proofs.Common.{drop}
use Rattle.wy_types.specs.View.{values_of}
use Rattle.wy_lower.specs.Listing.{fields_listing}
use Rattle.wy_lower.specs.Emits.{inside_of}
use Rattle.wy_lower.proofs.EmitSteps.{Leaves}
use Rattle.wy_lower.proofs.expressions.emit_fields.Given as goal

abbrev pub invariant-loop-i : goal.invariant-loop-i
invariant-loop-i l =
    Leaves l.initial.out l.out
    (λ at. fields_listing (inside_of l.inside) at l.i (values_of (drop l.i l.values.items)))
    (λ at. fields_listing (inside_of l.inside) at 0 (values_of l.values.items))
