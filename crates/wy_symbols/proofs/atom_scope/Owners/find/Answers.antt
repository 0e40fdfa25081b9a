use Rattle.std.proofs.Common.{◌≡◌, [], Some, None, ap, subst, ◌∙◌, sym, take, map, rules}
use Rattle.std.specs.Option.{option_copied}
use Rattle.wy_symbols.specs.declared.atom_scope.Opened.{Opened}
use Rattle.wy_symbols.specs.Declarations.{first_from}
use Rattle.wy_symbols.specs.Atoms.{AtomScope, owner_of, owner_names}
use Rattle.wy_symbols.specs.Found.{IsFound}
use Rattle.wy_symbols.proofs.Finding.{owner_absent, owner_beyond, found_at}
use Rattle.wy_symbols.proofs.atom_scope.Owners.find.Goals as goal

pub returns-in-None : goal.returns-in-None
returns-in-None c =
    let os = map (λ (p : Opened). p.owner) c.self.inside.list.items in
    let P : AtomScope → Type 0 = λ s. owner_of (take c.args.visible s.owners) c.args.name.now ≡ None in
    let at : first_from 0 (owner_names os) c.args.name.now ≡ None = ap (λ ns. first_from 0 ns c.args.name.now) (sym c.self.invariant.0) ∙ sym c.in-None.ensures.value in
    subst P c.self.view_is (owner_absent os c.args.visible c.args.name.now at)

pub returns-then-number-visible : goal.returns-then-number-visible
returns-then-number-visible c =
    let os = map (λ (p : Opened). p.owner) c.self.inside.list.items in
    let whole : AtomScope = record { heads = c.self.inside.heads.now; atoms = c.self.inside.atoms; owners = os; meanings = [] } in
    let P : AtomScope → Type 0 = λ s. IsFound s (owner_of (take c.args.visible s.owners) c.args.name.now) (option_copied c.item.result) in
    let at : first_from 0 (owner_names os) c.args.name.now ≡ Some c.in-Some.number = ap (λ ns. first_from 0 ns c.args.name.now) (sym c.self.invariant.0) ∙ sym c.in-Some.ensures.value in
    subst P c.self.view_is (found_at whole c.self.inside.list.items c.args.visible c.in-Some.number c.args.name.now at (search rules) c.self.invariant.1 (option_copied c.item.result) (search rules))

pub returns-else-number-visible : goal.returns-else-number-visible
returns-else-number-visible c =
    let os = map (λ (p : Opened). p.owner) c.self.inside.list.items in
    let P : AtomScope → Type 0 = λ s. owner_of (take c.args.visible s.owners) c.args.name.now ≡ None in
    let at : first_from 0 (owner_names os) c.args.name.now ≡ Some c.in-Some.number = ap (λ ns. first_from 0 ns c.args.name.now) (sym c.self.invariant.0) ∙ sym c.in-Some.ensures.value in
    subst P c.self.view_is (owner_beyond os c.args.visible c.in-Some.number c.args.name.now at (search rules))
