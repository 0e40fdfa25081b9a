use Rattle.std.proofs.Common.{◌≡◌, ◌+◌, ◌≤◌, drop}
use Rattle.wy_syntax.specs.Views.{part_trees}
use Rattle.wy_heads.specs.Counts.{method_count, field_count, part_params}
use Rattle.wy_heads.specs.Most.{greatest}
use Rattle.wy_heads.proofs.counts.with_parts.Given as goal

abbrev pub invariant-loop-part : goal.invariant-loop-part
invariant-loop-part l = record {
  methods : l.methods + method_count (part_trees (drop l.part-index l.parts)) ≡ method_count (part_trees l.parts);
  fields : l.fields + field_count (part_trees (drop l.part-index l.parts)) ≡ field_count (part_trees l.parts);
  parameters : greatest l.parameters (part_params (part_trees (drop l.part-index l.parts))) ≡ greatest l.initial.parameters (part_params (part_trees l.parts));
  few_methods : l.methods ≤ l.part-index;
  few_fields : l.fields ≤ l.part-index;
}
