use Rattle.std.proofs.Common.{◌≡◌, drop}
use Rattle.wy_code.specs.Machine.{body_called}
use Rattle.wy_machine.proofs.lookup.body_called.Given as goal

abbrev pub invariant-loop-entry : goal.invariant-loop-entry
invariant-loop-entry l = body_called l.method (drop l.entry-index l.methods) ≡ body_called l.method l.methods
