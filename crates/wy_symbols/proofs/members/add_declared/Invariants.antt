use Rattle.std.proofs.Common.{◌≡◌, ◌++◌, drop, map}
use Rattle.wy_symbols.specs.Atoms.{head}
use Rattle.wy_symbols.specs.Lent.{lent_type}
use Rattle.wy_symbols.proofs.members.add_declared.Given as goal

abbrev pub invariant-loop-decl : goal.invariant-loop-decl
invariant-loop-decl l = l.heads.items ++ map head (map lent_type (drop l.decl-index l.types)) ≡ l.initial.heads.items ++ map head (map lent_type l.types)
