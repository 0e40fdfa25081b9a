use Rattle.std.proofs.Common.{◌≡◌, ◌++◌, drop}
use Rattle.wy_types.specs.Reached.{field_types}
use Rattle.wy_types.proofs.reach.add_fields.Given as goal

abbrev pub invariant-loop-literal : goal.invariant-loop-literal
invariant-loop-literal l = l.out ++ field_types (drop l.literal-index l.literals) ≡ l.initial.out ++ field_types l.literals
