use Rattle.std.proofs.Common.{◌≡◌, ◌++◌, List, map, drop}
use Rattle.wy_text.specs.declared.fault.AtomName.{AtomName}
use Rattle.wy_symbols.specs.declared.atom_scope.Opened.{Opened}
use Rattle.wy_symbols.specs.Atoms.{bounds_of_owners}
use Rattle.wy_symbols.specs.Found.{HaveSets}
use Rattle.wy_symbols.proofs.atom_scope.bounds_of.Given as goal

abbrev pub invariant-loop-opened : goal.invariant-loop-opened
invariant-loop-opened l =
    (atoms : List AtomName) → HaveSets l.heads atoms l.list →
    l.bounds ++ bounds_of_owners l.heads atoms (map (λ (p : Opened). p.owner) (drop l.opened-index l.list)) ≡ bounds_of_owners l.heads atoms (map (λ (p : Opened). p.owner) l.list)
