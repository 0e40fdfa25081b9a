use Rattle.std.proofs.Common.{take}
use Rattle.wy_text.specs.Members.{In}
use Rattle.wy_types.specs.declared.types.Method.{Method}
use Rattle.wy_types.specs.Program.{program_of}
use Rattle.wy_core_tests.proofs.RangeLemmas.{MethodFits}
use Rattle.wy_core_tests.proofs.ranges.methods_fit.Given as goal

abbrev pub invariant-loop-m : goal.invariant-loop-m
invariant-loop-m l = (m : Method) → In m (take l.m-index l.methods) → MethodFits (program_of l.core) l.number m
