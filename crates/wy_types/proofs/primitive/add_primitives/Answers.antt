use Rattle.std.proofs.Common.{append_assoc}
use Rattle.wy_types.proofs.primitive.add_primitives.Goals as goal

pub returns : goal.returns
returns c =
    simp (c.in_ok-add_type-4.ensures, c.in_ok-add_type-3.ensures, c.in_ok-add_type-2.ensures, c.in_ok-add_type.ensures, append_assoc)
    at c.add_type-5.ensures
