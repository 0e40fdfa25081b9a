-- What is found of an owner: itself, and the sets of its atoms.
use Rattle.std.specs.Prelude.{◌≡◌, List, Option, Some, None}
use Rattle.wy_text.specs.declared.fault.AtomName.{AtomName}
use Rattle.wy_text.specs.Members.{In}
use Rattle.wy_symbols.specs.declared.scoping.Head.{Head}
use Rattle.wy_symbols.specs.declared.scoping.Owner.{Owner}
use Rattle.wy_symbols.specs.declared.atom_scope.Opened.{Opened}
use Rattle.wy_symbols.specs.Atoms.{AtomScope, owner_sets, opened_names}

abbrev pub IsFound : AtomScope → Option Owner → Option Opened → Type 0
IsFound s owner None = owner ≡ None
IsFound s owner (Some p) = (owner ≡ Some p.owner) × (owner_sets s.atoms p.owner.name (opened_names s.heads p.owner.opening) ≡ p.sets)

-- each owner stands beside the sets of its atoms
abbrev pub HaveSets : List Head → List AtomName → List Opened → Type 0
HaveSets heads atoms list = (p : Opened) → In p list → owner_sets atoms p.owner.name (opened_names heads p.owner.opening) ≡ p.sets
