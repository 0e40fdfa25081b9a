use Rattle.std.proofs.Common.{◌≡◌, map, take}
use Rattle.wy_code.specs.Running.{word_handed}
use Rattle.wy_machine.proofs.instances.words_handed.Given as goal

abbrev pub invariant-loop-argument : goal.invariant-loop-argument
invariant-loop-argument l = l.words.items ≡ map word_handed (take l.argument-index l.arguments)
