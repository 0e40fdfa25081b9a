-- A walk over the members that an owner opens, which adds their atoms and gathers their sets.
use Rattle.std.proofs.Common.{◌≡◌, ℕ, List, [], ◌∷◌, ◌++◌, true, false, sym, ap, ◌∙◌, subst, Some, if◌then◌else◌, append_assoc}
use Rattle.std.specs.Prelude.{slice_get}
use Rattle.wy_text.specs.declared.fault.AtomName.{AtomName}
use Rattle.wy_text.specs.Members.{Apart}
use Rattle.wy_symbols.specs.declared.scoping.Meaning.{Meaning}
use Rattle.wy_symbols.specs.Meanings.{abstract_names}
use Rattle.wy_symbols.specs.Atoms.{atom_of, atom_number, with_atom, with_members, owner_sets}
use Rattle.wy_symbols.proofs.AtomsPut.{apart_with, grown_members, number_is}

module _ (start : List AtomName) (o : List ℕ) (all : List Meaning) where
  pub record Opens (atoms : List AtomName) (sets : List (List ℕ)) (left : List Meaning) : Type 0 where
    pub put : with_members atoms o (abstract_names left) ≡ with_members start o (abstract_names all)
    pub apart : Apart atoms
    pub sets_are : (more : List AtomName) →
        sets ++ owner_sets (with_members start o (abstract_names all) ++ more) o (abstract_names left) ≡
        owner_sets (with_members start o (abstract_names all) ++ more) o (abstract_names all)

  pub moved : (atoms atoms' : List AtomName) (sets sets' : List (List ℕ)) (left : List Meaning) → atoms ≡ atoms' → sets ≡ sets' → Opens atoms' sets' left → Opens atoms sets left
  moved atoms atoms' sets sets' left a s h =
      let P : List AtomName → Type 0 = λ x. Opens x sets' left in
      let Q : List (List ℕ) → Type 0 = λ x. Opens atoms x left in
      subst Q (sym s) (subst P (sym a) h)

  pub turn_defined : (atoms : List AtomName) (sets : List (List ℕ)) (m : Meaning) (left : List Meaning) →
      m.is_abstract ≡ false → Opens atoms sets (m ∷ left) → Opens atoms sets left
  turn_defined atoms sets m left plain h =
      let e : abstract_names (m ∷ left) ≡ abstract_names left = ap (λ b. if b then m.name ∷ abstract_names left else abstract_names left) plain in
      record {
        put = ap (λ l. with_members atoms o l) (sym e) ∙ h.put;
        apart = h.apart;
        sets_are = λ more. ap (λ l. sets ++ owner_sets (with_members start o (abstract_names all) ++ more) o l) (sym e) ∙ h.sets_are more;
      }

  module _ (atoms atoms' : List AtomName) (sets : List (List ℕ)) (m : Meaning) (left : List Meaning) (n : ℕ) where
    final : List AtomName
    final = with_members start o (abstract_names all)

    turn_number : atoms' ≡ with_atom atoms (atom_of o m.name) → slice_get atoms' n ≡ Some (atom_of o m.name) → Apart atoms → with_members atoms' o (abstract_names left) ≡ final →
        (more : List AtomName) → atom_number (final ++ more) (atom_of o m.name) ≡ n
    turn_number is at apart put more =
        let g = grown_members atoms' o (abstract_names left) in
        let apart' : Apart atoms' = subst Apart (sym is) (apart_with atoms (atom_of o m.name) apart) in
        ap (λ l. atom_number (l ++ more) (atom_of o m.name)) (sym put ∙ g.1)
        ∙ ap (λ l. atom_number l (atom_of o m.name)) (append_assoc atoms' g.0 more)
        ∙ number_is atoms' (g.0 ++ more) (atom_of o m.name) n apart' at

    pub turn_abstract : m.is_abstract ≡ true → atoms' ≡ with_atom atoms (atom_of o m.name) → slice_get atoms' n ≡ Some (atom_of o m.name) →
        Opens atoms sets (m ∷ left) → Opens atoms' (sets ++ (n ∷ []) ∷ []) left
    unfolding final
    turn_abstract real is at h =
        let e : abstract_names (m ∷ left) ≡ m.name ∷ abstract_names left = ap (λ b. if b then m.name ∷ abstract_names left else abstract_names left) real in
        let put = ap (λ l. with_members l o (abstract_names left)) is ∙ ap (λ l. with_members atoms o l) (sym e) ∙ h.put in
        record {
          put = put;
          apart = subst Apart (sym is) (apart_with atoms (atom_of o m.name) h.apart);
          sets_are = λ more.
              append_assoc sets ((n ∷ []) ∷ []) (owner_sets (with_members start o (abstract_names all) ++ more) o (abstract_names left))
              ∙ ap (λ k. sets ++ (k ∷ []) ∷ owner_sets (with_members start o (abstract_names all) ++ more) o (abstract_names left)) (sym (turn_number is at h.apart put more))
              ∙ ap (λ l. sets ++ owner_sets (with_members start o (abstract_names all) ++ more) o l) (sym e)
              ∙ h.sets_are more;
        }
