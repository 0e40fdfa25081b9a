-- The atoms that owners open are numbered one after the other, where the owners' names differ and so do the members of each.
use Rattle.std.proofs.Common.{◌≡◌, ℕ, ◌+◌, ◌<◌, ◌≤◌, List, [], ◌∷◌, ◌++◌, map, length, Bool, true, false, inl, inr, refl, sym, ap, ◌∙◌, subst, arith, append_assoc}
use Rattle.std.specs.Prelude.{◌&&◌, if◌then◌else◌}
use Rattle.std.proofs.lemmas.List.{length-map, length-append, append-nil}
use Rattle.wy_text.specs.declared.fault.AtomName.{AtomName}
use Rattle.wy_text.specs.Members.{In, Apart}
use Rattle.wy_text.proofs.Lists.{In-cases, In-unmap}
use Rattle.wy_types.specs.Ground.{single_sets}
use Rattle.wy_symbols.specs.declared.scoping.Head.{Head}
use Rattle.wy_symbols.specs.declared.scoping.Owner.{Owner}
use Rattle.wy_symbols.specs.Declarations.{same_name}
use Rattle.wy_symbols.specs.Atoms.{same_atom, atom_of, atom_number, has_atom, with_members, opened_names, with_owners, owner_sets, owner_names}
use Rattle.wy_symbols.proofs.Firsts.{same_exact, same_itself}
use Rattle.wy_symbols.proofs.AtomsPut.{grown_members}
use Rattle.wy_well_formed.proofs.Sets.{OpensBelow, AllOpen}

------------------------------------------------------------
-- One atom

both_same : (a b : Bool) → a && b ≡ true → (a ≡ true) × (b ≡ true)
both_same true b e = (refl, e)
both_same false b e = cc

same_exactly : (a b : AtomName) → same_atom a b ≡ true → a ≡ b
same_exactly a b e =
    let both = both_same (same_name a.owner b.owner) (same_name a.member b.member) e in
    let owner : a.owner ≡ b.owner = sym (same_exact a.owner b.owner both.0) in
    let member : a.member ≡ b.member = sym (same_exact a.member b.member both.1) in
    ap (λ x. atom_of x a.member) owner ∙ ap (λ x. atom_of b.owner x) member

same_itself_atom : (a : AtomName) → same_atom a a ≡ true
same_itself_atom a = ap (λ x. x && same_name a.member a.member) (same_itself a.owner) ∙ same_itself a.member

absent : (atoms : List AtomName) (a : AtomName) → (In a atoms → ⊥) → has_atom atoms a ≡ false
absent [] a n = refl
absent (b ∷ bs) a n =
    let P : Bool → Type 0 = λ c. same_atom b a ≡ c → (if c then true else has_atom bs a) ≡ false in
    (elim (same_atom b a) as P [ true ↦ λ e. absurd (n (inl (same_exactly b a e))) | false ↦ λ e. absent bs a (λ i. n (inr i)) ]) refl

-- an atom's number behind others is how many they are
number_behind : (atoms : List AtomName) (a : AtomName) (rest : List AtomName) → (In a atoms → ⊥) → atom_number (atoms ++ a ∷ rest) a ≡ length atoms
number_behind [] a rest n = ap (λ (c : Bool). if c then 0 else atom_number rest a + 1) (same_itself_atom a)
number_behind (b ∷ bs) a rest n =
    let more = number_behind bs a rest (λ i. n (inr i)) in
    let P : Bool → Type 0 = λ c. same_atom b a ≡ c → (if c then 0 else atom_number (bs ++ a ∷ rest) a + 1) ≡ length (b ∷ bs) in
    (elim (same_atom b a) as P [ true ↦ λ e. absurd (n (inl (same_exactly b a e))) | false ↦ λ e. omega (arith, more) ]) refl

------------------------------------------------------------
-- The atoms of one owner

-- none of an owner's atoms is there
abbrev AreNew : List AtomName → List ℕ → List (List ℕ) → Type 0
AreNew atoms owner members = (m : List ℕ) → In m members → In (atom_of owner m) atoms → ⊥

new_after : (atoms : List AtomName) (owner m : List ℕ) (ms : List (List ℕ)) → AreNew atoms owner (m ∷ ms) → (In m ms → ⊥) →
    AreNew (atoms ++ atom_of owner m ∷ []) owner ms
new_after atoms owner m ms new n k i j =
    elim (In-cases (atom_of owner k) atoms (atom_of owner m ∷ []) j) [
      | inl l ↦ new k (inr i) l
      | inr l ↦ elim l [
        | inl e ↦ (let P : List ℕ → Type 0 = λ v. In v ms in n (subst P (sym (ap (λ (a : AtomName). a.member) e)) i))
        | inr z ↦ absurd z
      ]
    ]

-- atoms that are new are put behind
members_behind : (atoms : List AtomName) (owner : List ℕ) (ms : List (List ℕ)) → AreNew atoms owner ms → Apart ms →
    with_members atoms owner ms ≡ atoms ++ map (atom_of owner) ms
members_behind atoms owner [] new d = sym (append-nil atoms)
members_behind atoms owner (m ∷ ms) new d =
    let a = atom_of owner m in
    ap (λ (c : Bool). with_members (if c then atoms else atoms ++ a ∷ []) owner ms) (absent atoms a (new m (inl refl)))
    ∙ members_behind (atoms ++ a ∷ []) owner ms (new_after atoms owner m ms new d.0) d.1
    ∙ append_assoc atoms (a ∷ []) (map (atom_of owner) ms)

-- and have the numbers from the count of the others on
sets_behind : (atoms : List AtomName) (owner : List ℕ) (ms : List (List ℕ)) (rest all : List AtomName) →
    all ≡ atoms ++ (map (atom_of owner) ms ++ rest) → AreNew atoms owner ms → Apart ms →
    owner_sets all owner ms ≡ single_sets (length atoms) ms
sets_behind atoms owner [] rest all e new d = refl
sets_behind atoms owner (m ∷ ms) rest all e new d =
    let a = atom_of owner m in
    let number : atom_number all a ≡ length atoms = ap (λ l. atom_number l a) e ∙ number_behind atoms a (map (atom_of owner) ms ++ rest) (new m (inl refl)) in
    let same : all ≡ (atoms ++ a ∷ []) ++ (map (atom_of owner) ms ++ rest) = e ∙ sym (append_assoc atoms (a ∷ []) (map (atom_of owner) ms ++ rest)) in
    let count : length (atoms ++ a ∷ []) ≡ length atoms + 1 = length-append atoms (a ∷ []) in
    let more = sets_behind (atoms ++ a ∷ []) owner ms rest all same (new_after atoms owner m ms new d.0) d.1 ∙ ap (λ k. single_sets k ms) count in
    ap (λ k. (k ∷ []) ∷ owner_sets all owner ms) number ∙ ap (λ l. (length atoms ∷ []) ∷ l) more

-- the numbers are below what they reach
number_below_reach : (atoms : List AtomName) (owner : List ℕ) (ms : List (List ℕ)) (k n : ℕ) → owner_sets atoms owner ms ≡ single_sets k ms →
    k + length ms ≤ n →
    (m : List ℕ) → In m ms → atom_number atoms (atom_of owner m) < n
number_below_reach atoms owner [] k n e le m i = absurd i
number_below_reach atoms owner (x ∷ ms) k n e le m (inl same) =
    let number : atom_number atoms (atom_of owner x) ≡ k = cc in
    let P : List ℕ → Type 0 = λ v. atom_number atoms (atom_of owner v) < n in
    subst P same (omega (arith, number, le))
number_below_reach atoms owner (x ∷ ms) k n e le m (inr i) =
    let rest : owner_sets atoms owner ms ≡ single_sets (k + 1) ms = cc in
    number_below_reach atoms owner ms (k + 1) n rest (omega (arith, le)) m i

------------------------------------------------------------
-- The atoms of owners, one after the other

module _ (heads : List Head) where
  -- how many atoms owners open
  abbrev pub owned_count : List Owner → ℕ
  owned_count [] = 0
  owned_count (o ∷ os) = length (opened_names heads o.opening) + owned_count os

  -- each owner's atoms have the numbers from the count of those before on
  abbrev pub AreNumbered : List AtomName → ℕ → List Owner → Type 0
  AreNumbered atoms k [] = Unit {0}
  AreNumbered atoms k (o ∷ os) =
      (owner_sets atoms o.name (opened_names heads o.opening) ≡ single_sets k (opened_names heads o.opening)) ×
      AreNumbered atoms (k + length (opened_names heads o.opening)) os

  pub numbered_left : (atoms : List AtomName) (k : ℕ) (xs ys : List Owner) → AreNumbered atoms k (xs ++ ys) → AreNumbered atoms k xs
  numbered_left atoms k [] ys h = tt
  numbered_left atoms k (x ∷ xs) ys h = (h.0, numbered_left atoms (k + length (opened_names heads x.opening)) xs ys h.1)

  pub numbered_right : (atoms : List AtomName) (k j : ℕ) (xs ys : List Owner) → j ≡ k + owned_count xs → AreNumbered atoms k (xs ++ ys) → AreNumbered atoms j ys
  numbered_right atoms k j [] ys e h =
      let same : k ≡ j = omega (arith, e) in
      let P : ℕ → Type 0 = λ v. AreNumbered atoms v ys in
      subst P same h
  numbered_right atoms k j (x ∷ xs) ys e h = numbered_right atoms (k + length (opened_names heads x.opening)) j xs ys (omega (arith, e)) h.1

  -- owners that are numbered open atoms below what they reach
  pub numbered_open : (atoms : List AtomName) (k n : ℕ) (os : List Owner) → AreNumbered atoms k os → k + owned_count os ≤ n → (o : Owner) → In o os →
      OpensBelow n heads atoms o
  numbered_open atoms k n [] h le o i = absurd i
  numbered_open atoms k n (x ∷ os) h le o (inl e) =
      let P : Owner → Type 0 = λ v. OpensBelow n heads atoms v in
      subst P e (record { below = number_below_reach atoms x.name (opened_names heads x.opening) k n h.0 (omega (arith, le)) })
  numbered_open atoms k n (x ∷ os) h le o (inr i) = numbered_open atoms (k + length (opened_names heads x.opening)) n os h.1 (omega (arith, le)) o i

  pub all_numbered_open : (atoms : List AtomName) (n : ℕ) (os : List Owner) → AreNumbered atoms 0 os → owned_count os ≤ n → AllOpen n heads atoms os
  all_numbered_open atoms n os h le = record { opens = numbered_open atoms 0 n os h (omega (arith, le)) }

  grown_owners : (atoms : List AtomName) (os : List Owner) → (rest : List AtomName) × (with_owners heads atoms os ≡ atoms ++ rest)
  grown_owners atoms [] = ([], sym (append-nil atoms))
  grown_owners atoms (o ∷ os) =
      let g = grown_members atoms o.name (opened_names heads o.opening) in
      let h = grown_owners (with_members atoms o.name (opened_names heads o.opening)) os in
      (g.0 ++ h.0, h.1 ∙ ap (λ l. l ++ h.0) g.1 ∙ append_assoc atoms g.0 h.0)

  -- no atom is one of these owners'
  abbrev AreOthers : List AtomName → List Owner → Type 0
  AreOthers atoms os = (a : AtomName) → In a atoms → In a.owner (owner_names os) → ⊥

  -- those of the first of them are new
  new_of : (atoms : List AtomName) (o : Owner) (os : List Owner) → AreOthers atoms (o ∷ os) → AreNew atoms o.name (opened_names heads o.opening)
  new_of atoms o os others m i j = others (atom_of o.name m) j (inl refl)

  -- and with them none is one of the other owners'
  others_after : (atoms : List AtomName) (o : Owner) (os : List Owner) → (In o.name (owner_names os) → ⊥) → AreOthers atoms (o ∷ os) →
      AreOthers (atoms ++ map (atom_of o.name) (opened_names heads o.opening)) os
  others_after atoms o os absent others a i j =
      let mine = map (atom_of o.name) (opened_names heads o.opening) in
      elim (In-cases a atoms mine i) [
        | inl l ↦ others a l (inr j)
        | inr l ↦ (
            let r = In-unmap (atom_of o.name) a (opened_names heads o.opening) l in
            let P : List ℕ → Type 0 = λ v. In v (owner_names os) in
            absent (subst P (sym (ap (λ (b : AtomName). b.owner) r.2)) j))
      ]

  module _ (members_apart : (o : Owner) → Apart (opened_names heads o.opening)) where
    numbered_after : (atoms : List AtomName) (os : List Owner) → Apart (owner_names os) → AreOthers atoms os →
        AreNumbered (with_owners heads atoms os) (length atoms) os
    numbered_after atoms [] d others = tt
    numbered_after atoms (o ∷ os) d others =
        let ms = opened_names heads o.opening in
        let mine = map (atom_of o.name) ms in
        let new = new_of atoms o os others in
        let behind : with_members atoms o.name ms ≡ atoms ++ mine = members_behind atoms o.name ms new (members_apart o) in
        let after = others_after atoms o os d.0 others in
        let g = grown_owners (atoms ++ mine) os in
        let all = with_owners heads (atoms ++ mine) os in
        let first : owner_sets all o.name ms ≡ single_sets (length atoms) ms =
        sets_behind atoms o.name ms g.0 all (g.1 ∙ append_assoc atoms mine g.0) new (members_apart o) in
        let count : length (atoms ++ mine) ≡ length atoms + length ms = (
        let a = length-append atoms mine in
        let b = length-map ms (atom_of o.name) in
        omega (arith, a, b)) in
        let P : ℕ → Type 0 = λ k. AreNumbered all k os in
        let rest : AreNumbered all (length atoms + length ms) os = subst P count (numbered_after (atoms ++ mine) os d.1 after) in
        let Q : List AtomName → Type 0 = λ l. AreNumbered (with_owners heads l os) (length atoms) (o ∷ os) in
        subst Q (sym behind) (first, rest)

    -- how many they are
    counted_after : (atoms : List AtomName) (os : List Owner) → Apart (owner_names os) → AreOthers atoms os → length (with_owners heads atoms os) ≡ length atoms + owned_count os
    counted_after atoms [] d others = omega arith
    counted_after atoms (o ∷ os) d others =
        let ms = opened_names heads o.opening in
        let mine = map (atom_of o.name) ms in
        let behind = members_behind atoms o.name ms (new_of atoms o os others) (members_apart o) in
        let rest = ap (λ l. length (with_owners heads l os)) behind ∙ counted_after (atoms ++ mine) os d.1 (others_after atoms o os d.0 others) in
        let a = length-append atoms mine in
        let b = length-map ms (atom_of o.name) in
        omega (arith, rest, a, b)

    pub owners_counted : (os : List Owner) → Apart (owner_names os) → length (with_owners heads [] os) ≡ owned_count os
    owners_counted os d = (let c = counted_after [] os d (λ a i j. i) in omega (arith, c))

    -- the atoms of owners are numbered from the first on
    pub owners_numbered : (os : List Owner) → Apart (owner_names os) → AreNumbered (with_owners heads [] os) 0 os
    owners_numbered os d = numbered_after [] os d (λ a i j. i)
