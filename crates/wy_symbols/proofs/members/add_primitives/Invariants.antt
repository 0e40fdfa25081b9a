use Rattle.std.proofs.Common.{◌≡◌, ◌++◌, drop, map}
use Rattle.wy_symbols.specs.Atoms.{primitive_head}
use Rattle.wy_symbols.proofs.members.add_primitives.Given as goal

abbrev pub invariant-loop-decl : goal.invariant-loop-decl
invariant-loop-decl l = l.heads.items ++ map primitive_head (drop l.decl-index l.primitives) ≡ l.initial.heads.items ++ map primitive_head l.primitives
