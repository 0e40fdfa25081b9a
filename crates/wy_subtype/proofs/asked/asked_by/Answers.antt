use Rattle.std.proofs.Common.{map, sym}
use Rattle.wy_types.specs.Types.{signature}
use Rattle.wy_types.proofs.Closing.{find_in}
use Rattle.wy_subtype.proofs.asked.asked_by.Goals as goal

pub asking_part-requires : goal.asking_part-requires
asking_part-requires c = record {
  few = c.requires.few (signature c.in-Some.left.now) (find_in c.args.right.now.name (map signature c.args.lefts.now) (signature c.in-Some.left.now) (sym c.in-Some.ensures));
}
