use Rattle.std.proofs.Common.{take}
use Rattle.wy_text.specs.Members.{In}
use Rattle.wy_types.specs.declared.resolved.TypeDecl.{TypeDecl}
use Rattle.wy_types.specs.Program.{program_of}
use Rattle.wy_core_tests.proofs.RangeLemmas.{DeclarationFits}
use Rattle.wy_core_tests.proofs.ranges.declarations_fit.Given as goal

abbrev pub invariant-loop-declaration : goal.invariant-loop-declaration
invariant-loop-declaration l = (d : TypeDecl) → In d (take l.declaration-index l.declarations) → DeclarationFits (program_of l.core) d
