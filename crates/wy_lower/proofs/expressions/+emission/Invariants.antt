use Rattle.std.proofs.Common.{drop}
use Rattle.wy_types.specs.Code.{Last}
use Rattle.wy_types.specs.View.{value_of, values_of, stmts_block, block_of}
use Rattle.wy_lower.specs.Listing.{values_listing, block_listing}
use Rattle.wy_lower.specs.Emits.{inside_of}
use Rattle.wy_lower.proofs.EmitSteps.{Leaves}
use Rattle.wy_lower.proofs.expressions.+emission.Given as goal

abbrev pub invariant-emit_values-loop-i : goal.invariant-emit_values-loop-i
invariant-emit_values-loop-i l =
    Leaves l.initial.out l.out
    (λ at. values_listing (inside_of l.inside) at (values_of (drop l.i l.values.items)))
    (λ at. values_listing (inside_of l.inside) at (values_of l.values.items))

abbrev pub invariant-emit_block-loop-i : goal.invariant-emit_block-loop-i
invariant-emit_block-loop-i l =
    Leaves l.initial.out l.out
    (λ at. block_listing (inside_of l.inside) at (stmts_block (drop l.i l.block.statements.items) (Last (value_of l.block.last.value))))
    (λ at. block_listing (inside_of l.inside) at (block_of l.block))
