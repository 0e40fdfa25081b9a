use Rattle.std.proofs.Common.{◌≡◌, ◌++◌, [], drop}
use Rattle.wy_symbols.specs.Meanings.{abstract_names}
use Rattle.wy_heads.specs.ScopeHeads.{definitions_for}
use Rattle.wy_heads.proofs.definitions.add_definitions.Given as goal

abbrev pub invariant-loop-member : goal.invariant-loop-member
invariant-loop-member l =
    l.list ++ definitions_for l.heads [] l.meanings (abstract_names (drop l.member-index l.members)) ≡ l.initial.list ++ definitions_for l.heads [] l.meanings (abstract_names l.members)
