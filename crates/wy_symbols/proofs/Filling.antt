-- A walk over owners, which adds their atoms and keeps the sets of each.
use Rattle.std.proofs.Common.{◌≡◌, ℕ, List, [], ◌∷◌, ◌++◌, map, sym, ap, ◌∙◌, subst, inl, inr, ◌⊎◌, append_assoc}
use Rattle.std.proofs.lemmas.List.{map-append}
use Rattle.wy_text.specs.declared.fault.AtomName.{AtomName}
use Rattle.wy_text.specs.Members.{In, Apart}
use Rattle.wy_symbols.specs.declared.scoping.Head.{Head}
use Rattle.wy_symbols.specs.declared.scoping.Owner.{Owner}
use Rattle.wy_symbols.specs.declared.atom_scope.Opened.{Opened}
use Rattle.wy_symbols.specs.Atoms.{with_members, with_owners, atoms_of, owner_sets, opened_names, owner_names}
use Rattle.wy_symbols.proofs.AtomsPut.{apart_members, grown_members}

-- the sets of an owner are those of its atoms, whatever atoms come behind
abbrev pub HasSets : List Head → List AtomName → Opened → Type 0
HasSets heads atoms p = (more : List AtomName) → owner_sets (atoms ++ more) p.owner.name (opened_names heads p.owner.opening) ≡ p.sets

pub record Fills (heads : List Head) (all : List Owner) (atoms : List AtomName) (list : List Opened) (names : List (List ℕ)) (left : List Owner) : Type 0 where
  pub put : with_owners heads atoms left ≡ atoms_of heads all
  pub apart : Apart atoms
  pub owners : map (λ (p : Opened). p.owner) list ++ left ≡ all
  pub named : names ≡ owner_names (map (λ (p : Opened). p.owner) list)
  pub sets : (p : Opened) → In p list → HasSets heads atoms p

in_last : {X : Type 0} (x y : X) (xs : List X) → In x (xs ++ y ∷ []) → In x xs ⊎ (y ≡ x)
in_last x y [] (inl e) = inr e
in_last x y [] (inr i) = elim i [ ]
in_last x y (z ∷ xs) (inl e) = inl (inl e)
in_last x y (z ∷ xs) (inr i) = elim (in_last x y xs i) [ inl j ↦ inl (inr j) | inr e ↦ inr e ]

pub turn : (heads : List Head) (all : List Owner) (atoms atoms' : List AtomName) (list list' : List Opened) (names names' : List (List ℕ)) (o : Owner) (sets : List (List ℕ)) (left : List Owner) →
    atoms' ≡ with_members atoms o.name (opened_names heads o.opening) →
    HasSets heads atoms' (record { owner = o; sets = sets }) →
    list' ≡ list ++ record { owner = o; sets = sets } ∷ [] → names' ≡ names ++ o.name ∷ [] →
    Fills heads all atoms list names (o ∷ left) → Fills heads all atoms' list' names' left
turn heads all atoms atoms' list list' names names' o sets left is has l n h =
    let new : Opened = record { owner = o; sets = sets } in
    let owners' : map (λ (p : Opened). p.owner) list' ≡ map (λ (p : Opened). p.owner) list ++ o ∷ [] =
    ap (λ x. map (λ (p : Opened). p.owner) x) l ∙ map-append (λ (p : Opened). p.owner) list (new ∷ []) in
    let g = grown_members atoms o.name (opened_names heads o.opening) in
    let S : List AtomName → Type 0 = Apart in
    record {
      put = ap (λ x. with_owners heads x left) is ∙ h.put;
      apart = subst S (sym is) (apart_members atoms o.name (opened_names heads o.opening) h.apart);
      owners = ap (λ x. x ++ left) owners' ∙ append_assoc (map (λ (p : Opened). p.owner) list) (o ∷ []) left ∙ h.owners;
      named = n ∙ ap (λ x. x ++ o.name ∷ []) h.named ∙ sym (map-append (λ (w : Owner). w.name) (map (λ (p : Opened). p.owner) list) (o ∷ [])) ∙ ap owner_names (sym owners');
      sets = λ p i.
          let I : List Opened → Type 0 = λ x. In p x in
          elim (in_last p new list (subst I l i)) [
            | inl j ↦ λ more.
                ap (λ x. owner_sets (x ++ more) p.owner.name (opened_names heads p.owner.opening)) (is ∙ g.1)
                ∙ ap (λ x. owner_sets x p.owner.name (opened_names heads p.owner.opening)) (append_assoc atoms g.0 more)
                ∙ h.sets p j (g.0 ++ more)
            | inr e ↦ (let Q : Opened → Type 0 = λ x. HasSets heads atoms' x in subst Q e has)
          ];
    }
