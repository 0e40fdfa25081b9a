use Rattle.std.proofs.Common.{take}
use Rattle.wy_text.specs.Members.{In}
use Rattle.wy_types.specs.declared.resolved.Scope.{Scope}
use Rattle.wy_types.specs.Program.{program_of}
use Rattle.wy_core_tests.proofs.RangeLemmas.{ScopeFits}
use Rattle.wy_core_tests.proofs.ranges.scopes_fit.Given as goal

abbrev pub invariant-loop-one : goal.invariant-loop-one
invariant-loop-one l = (s : Scope) → In s (take l.one-index l.scopes) → ScopeFits (program_of l.core) s
