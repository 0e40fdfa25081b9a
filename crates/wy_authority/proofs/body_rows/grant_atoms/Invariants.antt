use Rattle.std.proofs.Common.{◌≡◌, ◌++◌, drop}
use Rattle.wy_types.specs.Program.{program_of}
use Rattle.wy_authority.specs.Authority.{grant_atoms}
use Rattle.wy_authority.proofs.body_rows.grant_atoms.Given as goal

abbrev pub invariant-loop-name : goal.invariant-loop-name
invariant-loop-name l = l.atoms ++ grant_atoms (program_of l.core) (drop l.name-index l.names) ≡ grant_atoms (program_of l.core) l.names
