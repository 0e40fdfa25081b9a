use Rattle.std.proofs.Common.{arith, pos}
use Rattle.std.proofs.lemmas.Option.{unwrap_or-slice_get}
use Rattle.wy_memory.proofs.mem_random.number_at.Goals as goal

pub returns-in-None : goal.returns-in-None
returns-in-None c = grind (arith, unwrap_or-slice_get c.args.numbers.now c.args.at (pos 0))
