use Rattle.std.proofs.Common.{◌≡◌, drop}
use Rattle.wy_types.specs.View.{values_of}
use Rattle.wy_certify.specs.Settling.{standing_of, values_settled, front_settled}
use Rattle.wy_certify.proofs.settling.Settler.+settling.Given as goal

abbrev pub invariant-settle_values-loop-value : goal.invariant-settle_values-loop-value
invariant-settle_values-loop-value l = values_settled (standing_of l.self) (values_of (drop l.value-index l.value-items)) l.known.items ≡ values_settled (standing_of l.self) (values_of l.value-items) l.initial.known.items

abbrev pub invariant-settle_block-loop-statement : goal.invariant-settle_block-loop-statement
invariant-settle_block-loop-statement l = front_settled (standing_of l.self) (drop l.statement-index l.statement-items) l.known.items ≡ front_settled (standing_of l.self) l.statement-items l.initial.known.items
