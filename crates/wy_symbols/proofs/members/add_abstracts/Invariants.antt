use Rattle.std.proofs.Common.{◌≡◌, ◌++◌, drop}
use Rattle.wy_symbols.specs.Atoms.{abstract_members}
use Rattle.wy_symbols.proofs.members.add_abstracts.Given as goal

abbrev pub invariant-loop-name : goal.invariant-loop-name
invariant-loop-name l = record {
  number : l.number ≡ l.name-index;
  members : l.members ++ abstract_members l.number (drop l.name-index l.names) ≡ l.initial.members ++ abstract_members 0 l.names;
}
