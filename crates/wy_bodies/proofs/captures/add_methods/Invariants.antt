use Rattle.std.proofs.Common.{ℕ, List, drop}
use Rattle.wy_syntax.specs.Views.{part_trees}
use Rattle.wy_syntax.specs.Collected.{Collected, Adds}
use Rattle.wy_bodies.specs.Written.{methods_names}
use Rattle.wy_bodies.proofs.captures.add_methods.Given as goal

abbrev pub invariant-loop-part : goal.invariant-loop-part
invariant-loop-part l = (end : Collected (List ℕ)) → Adds (methods_names (part_trees (drop l.part-index l.parts))) l.names end → Adds (methods_names (part_trees l.parts)) l.initial.names end
