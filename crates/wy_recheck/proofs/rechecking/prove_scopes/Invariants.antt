use Rattle.std.proofs.Common.{ℕ, ◌<◌}
use Rattle.wy_types.specs.Program.{program_of}
use Rattle.wy_proving.specs.Proving.{ProvesScope}
use Rattle.wy_recheck.proofs.rechecking.prove_scopes.Given as goal

abbrev pub invariant-loop-number : goal.invariant-loop-number
invariant-loop-number g l = (j : ℕ) → j < l.number → ProvesScope (program_of l.core) l.parts j
