use Rattle.std.proofs.Common.{drop}
use Rattle.wy_syntax.specs.declared.types.Name.{Name}
use Rattle.wy_syntax.specs.Views.{part_trees}
use Rattle.wy_syntax.specs.Collected.{Collected, Adds}
use Rattle.wy_bodies.specs.BodyRefusals.{field_names}
use Rattle.wy_bodies.proofs.literals.add_field_names.Given as goal

abbrev pub invariant-loop-part : goal.invariant-loop-part
invariant-loop-part l = (end : Collected Name) → Adds (field_names (part_trees (drop l.part-index l.parts))) l.names end → Adds (field_names (part_trees l.parts)) l.initial.names end
