use Rattle.std.proofs.Common.{take}
use Rattle.wy_text.specs.Members.{In}
use Rattle.wy_types.specs.declared.resolved.Body.{Body}
use Rattle.wy_types.specs.Program.{program_of}
use Rattle.wy_core_tests.proofs.RangeLemmas.{BodyFits}
use Rattle.wy_core_tests.proofs.ranges.bodies_fit.Given as goal

abbrev pub invariant-loop-body : goal.invariant-loop-body
invariant-loop-body l = (b : Body) → In b (take l.body-index l.bodies) → BodyFits (program_of l.core) b
