use Rattle.wy_types.specs.Program.{program_of}
use Rattle.wy_types.specs.Bounds.{bounds_of}
use Rattle.wy_premises.specs.Outside.{RespectsBefore}
use Rattle.wy_premises.proofs.respecting.first_outside.Given as goal

abbrev pub invariant-loop-member : goal.invariant-loop-member
invariant-loop-member l = RespectsBefore l.bounds (bounds_of (program_of l.core) l.scope) l.sets l.member
