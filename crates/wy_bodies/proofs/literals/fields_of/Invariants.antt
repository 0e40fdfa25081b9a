use Rattle.std.proofs.Common.{◌≡◌, ◌++◌, drop}
use Rattle.wy_syntax.specs.Views.{part_trees}
use Rattle.wy_bodies.specs.Lending.{lent_within}
use Rattle.wy_bodies.specs.Bodies.{fields_of}
use Rattle.wy_bodies.proofs.literals.fields_of.Given as goal

abbrev pub invariant-loop-part : goal.invariant-loop-part
invariant-loop-part l = l.fields ++ fields_of (lent_within l.within) (part_trees (drop l.part-index l.parts)) ≡ fields_of (lent_within l.within) (part_trees l.parts)
