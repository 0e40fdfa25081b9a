use Rattle.std.proofs.Common.{◌≡◌, Ok, ap, subst, ◌∙◌}
use Rattle.wy_text.specs.declared.fault.AtomName.{AtomName}
use Rattle.wy_symbols.specs.Atoms.{atom_of, with_atom}
use Rattle.wy_symbols.proofs.AtomsPut.{put_on}
use Rattle.wy_symbols.proofs.atoms.add_atom.Goals as goal

pub returns-in-Ok-clause-put : goal.returns-in-Ok-clause-put
returns-in-Ok-clause-put c =
    let owner = c.in_ok-owner.owner in
    let member = c.in_ok-member.member in
    let same = ap (λ x. atom_of x member) c.in_ok-owner.ensures ∙ ap (λ x. atom_of c.args.owner.now x) c.in_ok-member.ensures in
    let P : AtomName → Type 0 = λ a. c.insert.new.self ≡ with_atom c.args.atoms.now a in
    subst P same (put_on c.args.atoms.now c.insert.new.self (atom_of owner member) (Ok c.in-Ok.atom) c.in-Ok.ensures)
