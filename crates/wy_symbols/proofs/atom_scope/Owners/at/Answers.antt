use Rattle.std.proofs.Common.{[], subst, map, rules}
use Rattle.std.specs.Prelude.{slice_get}
use Rattle.std.specs.Option.{option_copied}
use Rattle.wy_symbols.specs.declared.atom_scope.Opened.{Opened}
use Rattle.wy_symbols.specs.Atoms.{AtomScope}
use Rattle.wy_symbols.specs.Found.{IsFound}
use Rattle.wy_symbols.proofs.Finding.{found_number}
use Rattle.wy_symbols.proofs.atom_scope.Owners.at.Goals as goal

pub returns : goal.returns
returns c =
    let os = map (λ (p : Opened). p.owner) c.self.inside.list.items in
    let whole : AtomScope = record { heads = c.self.inside.heads.now; atoms = c.self.inside.atoms; owners = os; meanings = [] } in
    let P : AtomScope → Type 0 = λ s. IsFound s (slice_get s.owners c.args.number) (option_copied c.item.result) in
    subst P c.self.view_is (found_number whole c.self.inside.list.items c.args.number c.self.invariant.1 (option_copied c.item.result) (search rules))
