use Rattle.std.proofs.Common.{take}
use Rattle.wy_text.specs.Members.{In}
use Rattle.wy_types.specs.declared.types.TypeRef.{TypeRef}
use Rattle.wy_types.specs.Program.{program_of}
use Rattle.wy_types.specs.Fitting.{FitsType}
use Rattle.wy_core_tests.proofs.ranges.types_fit.Given as goal

abbrev pub invariant-loop-t : goal.invariant-loop-t
invariant-loop-t l = (t : TypeRef) → In t (take l.t-index l.types) → FitsType (program_of l.core) l.number 0 t
