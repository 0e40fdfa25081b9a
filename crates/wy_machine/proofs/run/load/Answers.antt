use Rattle.std.proofs.Common.{arith}
use Rattle.wy_machine.proofs.Loads.{some_words}
use Rattle.wy_machine.proofs.run.load.Goals as goal

pub new-requires : goal.new-requires
new-requires c = let some = some_words c.as_slice.result.now in omega (arith, some, c.most_words.ensures)
