use Rattle.std.proofs.Common.{◌≡◌, ◌≤◌, ◌<◌, ◌++◌, ◌∷◌, [], List, length, Some, ◌∙◌, refl, sym, ap, subst, inl, inr, rules}
use Rattle.std.specs.Prelude.{slice_get, if◌then◌else◌, Result}
use Rattle.wy_text.specs.declared.fault.AtomName.{AtomName}
use Rattle.wy_effects.specs.AtomTable.{Inserts, atom_name}
use Rattle.wy_text.specs.Members.{In}
use Rattle.wy_effects.specs.declared.atom.Atom.{Atom}
use Rattle.wy_effects.specs.declared.atom.TableRefusal.{TableRefusal}
use Rattle.wy_effects.proofs.Places.{found_at, absent, name_exact, name_same}
use Rattle.wy_effects.proofs.atom.AtomTable.insert.Goals as goal
use Rattle.wy_effects.proofs.atom.AtomTable.insert.Goals.{in-Ok, in-Err}

pub returns-in-Some : goal.returns-in-Some
returns-in-Some c =
    let name : AtomName = atom_name c.args.owner c.args.member in
    let P : List AtomName → Type 0 = λ l. slice_get l c.in-Some.at ≡ Some name in
    (subst P c.self.view_is (found_at _ name (λ y e. name_exact name y e) c.self.inside.names.keys c.in-Some.at (sym c.in-Some.ensures.index)), inl refl)

pub returns-then-len-ge-MOST_ATOMS : goal.returns-then-len-ge-MOST_ATOMS
returns-then-len-ge-MOST_ATOMS c =
    let name : AtomName = atom_name c.args.owner c.args.member in
    let P : List AtomName → Type 0 = λ l. (In name l → ⊥) × (512 ≤ length l) in
    let r = subst P c.self.view_is (absent _ c.self.inside.names.keys name (sym c.in_default.ensures.found) (name_same name), (search rules)) in
    (refl, refl, r.0, r.1)

pub returns : goal.returns
returns c =
    let name : AtomName = atom_name c.args.owner c.args.member in
    let old : List AtomName = c.self.inside.names.keys in
    let new : List AtomName = c.insert_full.new.self.keys in
    let P : Result Atom TableRefusal → Type 0 = λ r. Inserts c.args.self.now name new r in
    let Q : List AtomName → Type 0 = λ l. (In name l → ⊥) × (new ≡ l ++ name ∷ []) × (length l < 512) in
    elim c.match-insert_full.branch [
      | in-Ok w ↦
          let keys : new ≡ old ++ name ∷ [] = w.in-Ok.ensures.keys ∙ ap (λ b. if b then old else (old ++ name ∷ [])) (sym c.in_default.ensures.found) in
          let at : slice_get new w.in-Ok.at ≡ Some name = w.in-Ok.ensures.stored.1 ∙ ap (λ (n : AtomName). Some n) (name_exact name w.in-Ok.ensures.stored.0 w.in-Ok.ensures.stored.2) in
          let q = subst Q c.self.view_is (absent _ old name (sym c.in_default.ensures.found) (name_same name), keys, (search rules)) in
          subst P (sym w.result-is) (at, inr q)
      | in-Err w ↦ subst P (sym w.result-is) (w.in-Err.ensures.err ∙ c.self.view_is)
    ]
