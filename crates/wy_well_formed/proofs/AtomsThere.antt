-- The atoms that a scope's owners open are among the scope's atoms.
use Rattle.std.proofs.Common.{◌≡◌, ℕ, suc, ◌+◌, ◌<◌, List, [], ◌∷◌, ◌++◌, length, Bool, true, false, inl, inr, refl, ap, ◌∙◌, subst, arith}
use Rattle.std.specs.Prelude.{◌&&◌, if◌then◌else◌}
use Rattle.wy_text.specs.declared.fault.AtomName.{AtomName}
use Rattle.wy_text.specs.Members.{In}
use Rattle.wy_symbols.specs.declared.scoping.Head.{Head}
use Rattle.wy_symbols.specs.declared.scoping.Owner.{Owner}
use Rattle.wy_symbols.specs.Declarations.{same_name}
use Rattle.wy_symbols.specs.Atoms.{same_atom, atom_of, atom_number, has_atom, with_atom, with_members, opened_names, with_owners, atoms_of}
use Rattle.wy_symbols.proofs.Firsts.{same_itself}
use Rattle.wy_symbols.proofs.AtomsPut.{grown_members}
use Rattle.wy_well_formed.proofs.Sets.{AllOpen}

-- an atom that is there has a number below theirs
number_of_there : (atoms : List AtomName) (a : AtomName) → has_atom atoms a ≡ true → atom_number atoms a < length atoms
number_of_there [] a h = cc
number_of_there (b ∷ bs) a h =
    let P : Bool → Type 0 = λ c. (if c then true else has_atom bs a) ≡ true → (if c then 0 else atom_number bs a + 1) < suc (length bs) in
    (elim (same_atom b a) as P [
      | true ↦ λ e. omega arith
      | false ↦ λ e. (let r = number_of_there bs a e in omega (arith, r))
    ]) h

itself : (a : AtomName) → same_atom a a ≡ true
itself a = ap (λ x. x && same_name a.member a.member) (same_itself a.owner) ∙ same_itself a.member

-- it stays there when others are put behind
has_before : (atoms rest : List AtomName) (a : AtomName) → has_atom atoms a ≡ true → has_atom (atoms ++ rest) a ≡ true
has_before [] rest a h = cc
has_before (b ∷ bs) rest a h =
    let P : Bool → Type 0 = λ c. (if c then true else has_atom bs a) ≡ true → (if c then true else has_atom (bs ++ rest) a) ≡ true in
    (elim (same_atom b a) as P [ true ↦ λ e. refl | false ↦ λ e. has_before bs rest a e ]) h

has_last : (atoms : List AtomName) (a : AtomName) → has_atom (atoms ++ a ∷ []) a ≡ true
has_last [] a = ap (λ (c : Bool). if c then true else false) (itself a)
has_last (b ∷ bs) a =
    let P : Bool → Type 0 = λ c. (if c then true else has_atom (bs ++ a ∷ []) a) ≡ true in
    elim (same_atom b a) as P [ true ↦ refl | false ↦ has_last bs a ]

-- one that is put in is there
has_put : (atoms : List AtomName) (a : AtomName) → has_atom (with_atom atoms a) a ≡ true
has_put atoms a =
    let P : Bool → Type 0 = λ c. has_atom atoms a ≡ c → has_atom (if c then atoms else atoms ++ a ∷ []) a ≡ true in
    (elim (has_atom atoms a) as P [ true ↦ λ e. e | false ↦ λ e. has_last atoms a ]) refl

has_with_members : (atoms : List AtomName) (o : List ℕ) (ms : List (List ℕ)) (a : AtomName) → has_atom atoms a ≡ true → has_atom (with_members atoms o ms) a ≡ true
has_with_members atoms o ms a h =
    let g = grown_members atoms o ms in
    ap (λ l. has_atom l a) g.1 ∙ has_before atoms g.0 a h

has_member : (atoms : List AtomName) (o : List ℕ) (ms : List (List ℕ)) (m : List ℕ) → In m ms → has_atom (with_members atoms o ms) (atom_of o m) ≡ true
has_member atoms o [] m i = absurd i
has_member atoms o (k ∷ ms) m (inl e) =
    let P : List ℕ → Type 0 = λ v. has_atom (with_members (with_atom atoms (atom_of o k)) o ms) (atom_of o v) ≡ true in
    subst P e (has_with_members (with_atom atoms (atom_of o k)) o ms (atom_of o k) (has_put atoms (atom_of o k)))
has_member atoms o (k ∷ ms) m (inr i) = has_member (with_atom atoms (atom_of o k)) o ms m i

module _ (heads : List Head) where
  has_with_owners : (atoms : List AtomName) (os : List Owner) (a : AtomName) → has_atom atoms a ≡ true → has_atom (with_owners heads atoms os) a ≡ true
  has_with_owners atoms [] a h = h
  has_with_owners atoms (o ∷ os) a h =
      has_with_owners (with_members atoms o.name (opened_names heads o.opening)) os a (has_with_members atoms o.name (opened_names heads o.opening) a h)

  has_opened : (atoms : List AtomName) (os : List Owner) (o : Owner) (m : List ℕ) → In o os → In m (opened_names heads o.opening) → has_atom (with_owners heads atoms os) (atom_of o.name m) ≡ true
  has_opened atoms [] o m i j = absurd i
  has_opened atoms (k ∷ os) o m (inl e) j =
      let P : Owner → Type 0 = λ v. In m (opened_names heads v.opening) → has_atom (with_owners heads (with_members atoms k.name (opened_names heads k.opening)) os) (atom_of v.name m) ≡ true in
      (subst P e (λ l. has_with_owners (with_members atoms k.name (opened_names heads k.opening)) os (atom_of k.name m) (has_member atoms k.name (opened_names heads k.opening) m l))) j
  has_opened atoms (k ∷ os) o m (inr i) j = has_opened (with_members atoms k.name (opened_names heads k.opening)) os o m i j

  -- each atom of the owners has its number
  pub owners_open : (os : List Owner) → AllOpen (length (atoms_of heads os)) heads (atoms_of heads os) os
  owners_open os = record { opens = λ o i. (record { below = λ m j. number_of_there (atoms_of heads os) (atom_of o.name m) (has_opened [] os o m i j) }) }
