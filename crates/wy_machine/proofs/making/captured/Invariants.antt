use Rattle.std.proofs.Common.{◌≡◌, drop}
use Rattle.wy_machine.specs.Captures.{words_found, after_words}
use Rattle.wy_machine.proofs.making.captured.Given as goal

abbrev pub invariant-loop-source : goal.invariant-loop-source
invariant-loop-source l = after_words l.words.items (words_found l.machine.stack l.machine.store (drop l.source-index l.sources)) ≡ words_found l.machine.stack l.machine.store l.sources
