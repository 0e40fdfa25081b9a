use Rattle.std.proofs.Common.{◌≡◌, ◌++◌, drop}
use Rattle.wy_symbols.specs.Meanings.{abstract_names}
use Rattle.wy_symbols.proofs.declarations.abstract_names.Given as goal

abbrev pub invariant-loop-member : goal.invariant-loop-member
invariant-loop-member l = l.names ++ abstract_names (drop l.member-index l.members) ≡ abstract_names l.members
