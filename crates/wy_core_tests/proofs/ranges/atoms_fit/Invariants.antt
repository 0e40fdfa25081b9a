use Rattle.std.proofs.Common.{take}
use Rattle.wy_text.specs.Members.{In}
use Rattle.wy_types.specs.declared.resolved.Scope.{Scope}
use Rattle.wy_core_tests.proofs.RangeLemmas.{AtomsFit}
use Rattle.wy_core_tests.proofs.ranges.atoms_fit.Given as goal

abbrev pub invariant-loop-one : goal.invariant-loop-one
invariant-loop-one l = (s : Scope) → In s (take l.one-index l.scopes) → AtomsFit s
