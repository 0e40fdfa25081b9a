use Rattle.std.proofs.Common.{◌≡◌, [], drop}
use Rattle.wy_verify.specs.Authority.{with_atoms}
use Rattle.wy_verify.proofs.authority.set_of.Given as goal

abbrev pub invariant-loop-atom : goal.invariant-loop-atom
invariant-loop-atom l = with_atoms l.firsts (drop l.atom-index l.atom-items) l.set ≡ with_atoms l.firsts l.atoms []
