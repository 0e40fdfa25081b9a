use Rattle.std.proofs.Common.{◌≡◌, ◌≤◌, drop}
use Rattle.std.specs.Prelude.{max}
use Rattle.wy_machine.specs.Loading.{most_words}
use Rattle.wy_machine.proofs.run.most_words.Given as goal

abbrev pub invariant-loop-body : goal.invariant-loop-body
invariant-loop-body l = record {
  some : 1 ≤ l.most;
  rest : max l.most (most_words (drop l.body-index l.bodies)) ≡ most_words l.bodies;
}
