use Rattle.std.proofs.Common.{ℕ, Option, drop}
use Rattle.wy_types.specs.Program.{program_of}
use Rattle.wy_premises.specs.Tried.{FirstLack}
use Rattle.wy_link.specs.Tried.{Bounded, Exceeds}
use Rattle.wy_link.proofs.imports.first_excess.Given as goal

abbrev pub invariant-loop-argument : goal.invariant-loop-argument
invariant-loop-argument l =
    (o : Option ℕ) →
    FirstLack (Bounded (program_of l.core) l.number l.scope.names l.bound) (Exceeds (program_of l.core) l.number l.scope.names l.bound) (drop l.argument-index l.arguments) o →
    FirstLack (Bounded (program_of l.core) l.number l.scope.names l.bound) (Exceeds (program_of l.core) l.number l.scope.names l.bound) l.arguments o
