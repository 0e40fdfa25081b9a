use Rattle.std.proofs.Common.{arith}
use Rattle.wy_machine.specs.Loading.{most_words}
use Rattle.wy_machine.proofs.Loads.{some_words, no_more}
use Rattle.wy_machine.proofs.run.most_words.Goals as goal

pub loop-body-init : goal.loop-body-init
loop-body-init c = record { some = omega arith; rest = no_more (most_words c.args.bodies.now) (some_words c.args.bodies.now) }
