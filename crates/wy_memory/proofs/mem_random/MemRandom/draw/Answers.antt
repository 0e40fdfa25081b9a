use Rattle.std.proofs.Common.{arith}
use Rattle.std.proofs.lemmas.Grind.{common_steps}
use Rattle.wy_memory.proofs.Rounds.{mod-next}
use Rattle.wy_memory.proofs.mem_random.MemRandom.draw.Goals as goal

pub invariant_of-self-2 : goal.invariant_of-self-2
invariant_of-self-2 c = grind (arith, common_steps, mod-next)
