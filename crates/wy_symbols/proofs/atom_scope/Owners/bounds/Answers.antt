use Rattle.std.proofs.Common.{◌≡◌, List, map, ap, ◌∙◌, subst, sym}
use Rattle.std.specs.Prelude.{IfOk}
use Rattle.std.proofs.lemmas.Result.{IfOk-weaker}
use Rattle.wy_effects.specs.Bounds.{Bounds}
use Rattle.wy_symbols.specs.declared.atom_scope.Opened.{Opened}
use Rattle.wy_symbols.specs.Atoms.{AtomScope, bounds_of_owners}
use Rattle.wy_symbols.specs.Found.{HaveSets}
use Rattle.wy_symbols.proofs.atom_scope.Owners.bounds.Goals as goal

pub returns : goal.returns
returns c =
    let heads = c.self.inside.heads.now in
    let atoms = c.self.inside.atoms in
    let list = c.deref.ensures.value in
    let sets = subst (λ (ps : List Opened). HaveSets heads atoms ps) (sym list) c.self.invariant.1 in
    let P : AtomScope → Type 0 = λ s. IfOk c.bounds_of.result (λ bs. bs ≡ bounds_of_owners s.heads s.atoms s.owners) in
    subst P c.self.view_is
    (IfOk-weaker c.bounds_of.result _ _ (λ (bs : Bounds) h. h atoms sets ∙ ap (λ (ps : List Opened). bounds_of_owners heads atoms (map (λ (p : Opened). p.owner) ps)) list) c.bounds_of.ensures)
