use Rattle.std.proofs.Common.{◌≡◌, Some, None, ap, subst, ◌∙◌, sym, take, map, rules}
use Rattle.wy_symbols.specs.declared.atom_scope.Opened.{Opened}
use Rattle.wy_symbols.specs.Declarations.{first_from}
use Rattle.wy_symbols.specs.Atoms.{AtomScope, owner_names}
use Rattle.wy_symbols.proofs.Finding.{number_absent, number_beyond, number_there}
use Rattle.wy_symbols.proofs.atom_scope.Owners.number.Goals as goal

pub returns-in-None : goal.returns-in-None
returns-in-None c =
    let os = map (λ (p : Opened). p.owner) c.self.inside.list.items in
    let P : AtomScope → Type 0 = λ s. None ≡ first_from 0 (owner_names (take c.args.visible s.owners)) c.args.name.now in
    let at : first_from 0 (owner_names os) c.args.name.now ≡ None = ap (λ ns. first_from 0 ns c.args.name.now) (sym c.self.invariant.0) ∙ sym c.in-None.ensures.value in
    subst P c.self.view_is (sym (number_absent os c.args.visible c.args.name.now at))

pub returns-then-number-visible : goal.returns-then-number-visible
returns-then-number-visible c =
    let os = map (λ (p : Opened). p.owner) c.self.inside.list.items in
    let P : AtomScope → Type 0 = λ s. Some c.in-Some.number ≡ first_from 0 (owner_names (take c.args.visible s.owners)) c.args.name.now in
    let at : first_from 0 (owner_names os) c.args.name.now ≡ Some c.in-Some.number = ap (λ ns. first_from 0 ns c.args.name.now) (sym c.self.invariant.0) ∙ sym c.in-Some.ensures.value in
    subst P c.self.view_is (sym (number_there os c.args.visible c.in-Some.number c.args.name.now at (search rules)))

pub returns-else-number-visible : goal.returns-else-number-visible
returns-else-number-visible c =
    let os = map (λ (p : Opened). p.owner) c.self.inside.list.items in
    let P : AtomScope → Type 0 = λ s. None ≡ first_from 0 (owner_names (take c.args.visible s.owners)) c.args.name.now in
    let at : first_from 0 (owner_names os) c.args.name.now ≡ Some c.in-Some.number = ap (λ ns. first_from 0 ns c.args.name.now) (sym c.self.invariant.0) ∙ sym c.in-Some.ensures.value in
    subst P c.self.view_is (sym (number_beyond os c.args.visible c.in-Some.number c.args.name.now at (search rules)))
