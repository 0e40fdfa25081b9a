use Rattle.std.proofs.Common.{◌≡◌, ◌++◌, drop}
use Rattle.wy_verify.specs.Authority.{grant_atoms}
use Rattle.wy_verify.proofs.authority.grant_atoms.Given as goal

abbrev pub invariant-loop-grant : goal.invariant-loop-grant
invariant-loop-grant l = l.atoms ++ grant_atoms (drop l.grant-index l.grants) ≡ grant_atoms l.grants
