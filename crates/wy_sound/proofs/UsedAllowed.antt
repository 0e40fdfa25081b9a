-- What was used of an instance is in the authority of one of its calls, and so in that of all its bodies.
use Rattle.std.proofs.Common.{◌≡◌, ℕ, zero, suc, ◌+◌, Bool, true, false, List, [], ◌∷◌, ◌++◌, Option, Some, None, ◌⊎◌, All, arith, inl, inr, refl, sym, ap, ◌∙◌, subst}
use Rattle.std.proofs.lemmas.List.Elements.{All-contains}
use Rattle.std.proofs.lemmas.Slice.Eq.{bytes_eq-Decides}
use Rattle.std.specs.Cmp.{first_so, second_so}
use Rattle.std.specs.Prelude.{bytes_eq, if◌then◌else◌, Contains, slice_index_or}
use Rattle.wy_text.specs.declared.fault.AtomName.{AtomName}
use Rattle.wy_effects.specs.AtomTable.{atom_name}
use Rattle.wy_effects.specs.EffSet.{union}
use Rattle.wy_text.specs.Members.{In, Within}
use Rattle.wy_text.proofs.Lists.{In-map, In-unmap, In-cases}
use Rattle.wy_effects.proofs.SetLaws.{In-union-left, In-union-right, insert_atom-cases}
use Rattle.wy_types.specs.Program.{Program}
use Rattle.wy_authority.specs.declared.rows.BodyRow.{BodyRow}
use Rattle.wy_authority.specs.declared.rows.InstanceRow.{InstanceRow}
use Rattle.wy_authority.specs.Authority.{authority_of, whole_set}
use Rattle.wy_authority.specs.Report.{named_atoms}
use Rattle.wy_meaning.specs.Bounds.{Call, atom_of}
use Rattle.wy_meaning.specs.OpenCalls.{open_after}
use Rattle.wy_meaning.specs.Used.{IsUsed, is_open, place_from, same_atom, used_of, used_set, with_place, with_places}
use Rattle.wy_meaning.proofs.Bounding.{said_of_each_deed}
use Rattle.wy_meaning.proofs.UsedLemmas.{said_of_each_use}
use Rattle.wy_sound.specs.Programs.{allowed, body_atoms}
use Rattle.wy_sound.specs.Used.{UsedIsAllowed}
use Rattle.wy_sound.proofs.Allowing.{contains_in}
use Rattle.wy_sound.proofs.ReportRows.{instances_are_told, one_row}

------------------------------------------------------------
-- The atoms of the bodies of an instance

-- the name of a number
abbrev named : List AtomName → ℕ → AtomName
named atoms a = slice_index_or atoms a (atom_name [] [])

-- what the bodies of a name may do is among what all may do
body_in_whole : (atoms : List AtomName) (name : List ℕ) (bs : List BodyRow) → Within (body_atoms atoms name bs) (named_atoms atoms (whole_set bs))
body_in_whole atoms name [] atom n = n
body_in_whole atoms name (b ∷ bs) atom n = of (bytes_eq b.name name) (λ i. body_in_whole atoms name bs atom i) n
  where
    -- a set within the whole has its names there
    wider : (xs : List ℕ) → Within xs (union b.set (whole_set bs)) → Within (named_atoms atoms xs) (named_atoms atoms (union b.set (whole_set bs)))
    wider xs w a i =
        let found : (x : ℕ) × In x xs × (named atoms x ≡ a) = In-unmap (named atoms) a xs i in
        subst (λ (y : AtomName). In y (named_atoms atoms (union b.set (whole_set bs)))) found.2
        (In-map (named atoms) found.0 (union b.set (whole_set bs)) (w found.0 found.1))

    of : (same : Bool) → (In atom (body_atoms atoms name bs) → In atom (named_atoms atoms (whole_set bs))) →
        In atom (if same then named_atoms atoms b.set ++ body_atoms atoms name bs else body_atoms atoms name bs) →
        In atom (named_atoms atoms (union b.set (whole_set bs)))
    of true others i = elim (In-cases atom (named_atoms atoms b.set) (body_atoms atoms name bs) i) [
      | inl here ↦ wider b.set (λ x j. In-union-left x b.set (whole_set bs) j) atom here
      | inr later ↦ wider (whole_set bs) (λ x j. In-union-right x b.set (whole_set bs) j) atom (others later)
    ]
    of false others i = wider (whole_set bs) (λ x j. In-union-right x b.set (whole_set bs) j) atom (others i)

-- one of the open calls is the instance's
open_call : (i : List ℕ) (calls : List Call) → is_open i calls ≡ true → (call : Call) × In call calls × (call.instance ≡ i)
open_call i [] e = absurd (cc)
open_call i (call ∷ calls) e =
    elim (bytes_eq call.instance i) as
    (λ same. bytes_eq call.instance i ≡ same → (if same then true else is_open i calls) ≡ true → (c : Call) × In c (call ∷ calls) × (c.instance ≡ i)) [
      | true ↦ λ h f. (call, inl refl, (bytes_eq-Decides call.instance i).0 h)
      | false ↦ λ h f. (let found : (c : Call) × In c calls × (c.instance ≡ i) = open_call i calls f in (found.0, inr found.1, found.2))
    ] refl e

in_where : {X : Type 0} (xs : List X) (x : X) → Contains xs x → In x xs
in_where [] x c = absurd (omega (arith, c.1))
in_where (y ∷ xs) x (zero, l, e) = inl e
in_where (y ∷ xs) x (suc k, l, e) = inr (in_where xs x (k, omega (arith, l), e))

------------------------------------------------------------
-- The sets

same_is : (a b : AtomName) → same_atom a b ≡ true → a ≡ b
same_is a b e =
    let owner : a.owner ≡ b.owner = (bytes_eq-Decides a.owner b.owner).0 (first_so _ _ e) in
    let member : a.member ≡ b.member = (bytes_eq-Decides a.member b.member).0 (second_so _ _ e) in
    ap (λ (o : List ℕ). atom_name o a.member) owner ∙ ap (λ (m : List ℕ). atom_name b.owner m) member

-- the place of an atom has its name
place_named : (k : ℕ) (names : List AtomName) (atom : AtomName) (p : ℕ) → place_from k names atom ≡ Some p → (j : ℕ) × (p ≡ k + j) × (slice_index_or names j (atom_name [] []) ≡ atom)
place_named k [] atom p e = absurd (cc)
place_named k (name ∷ names) atom p e =
    elim (same_atom name atom) as
    (λ same. same_atom name atom ≡ same → (if same then Some k else place_from (k + 1) names atom) ≡ Some p →
    (j : ℕ) × (p ≡ k + j) × (slice_index_or (name ∷ names) j (atom_name [] []) ≡ atom)) [
      | true ↦ λ h f. (let here : k ≡ p = cc in (0, omega (arith, here), same_is name atom h))
      | false ↦ λ h f.
          (let found : (j : ℕ) × (p ≡ k + 1 + j) × (slice_index_or names j (atom_name [] []) ≡ atom) = place_named (k + 1) names atom p f in
          (suc found.0, omega (arith, found.1), found.2))
    ] refl e

-- what stands in the set of some atoms' places stood there before, or is the place of one of them
in_places : (names atoms : List AtomName) (set : List ℕ) (a : ℕ) → In a (with_places names atoms set) →
    In a set ⊎ ((atom : AtomName) × In atom atoms × (slice_index_or names a (atom_name [] []) ≡ atom))
in_places names [] set a i = inl i
in_places names (atom ∷ atoms) set a i = elim (in_places names atoms (with_place (place_from 0 names atom) set) a i) [
  | inl here ↦ of (place_from 0 names atom) refl here
  | inr later ↦ inr (later.0, inr later.1, later.2)
]
  where
    of : (place : Option ℕ) → place_from 0 names atom ≡ place → In a (with_place place set) →
        In a set ⊎ ((x : AtomName) × In x (atom ∷ atoms) × (slice_index_or names a (atom_name [] []) ≡ x))
    of None e i = inl i
    of (Some p) e i = elim (insert_atom-cases p a set i) [
      | inl same ↦ (
          let found : (j : ℕ) × (p ≡ 0 + j) × (slice_index_or names j (atom_name [] []) ≡ atom) = place_named 0 names atom p e in
          let is : found.0 ≡ a = omega (arith, found.1, same) in
          inr (atom, inl refl, subst (λ (k : ℕ). slice_index_or names k (atom_name [] []) ≡ atom) is found.2))
      | inr old ↦ inl old
    ]

------------------------------------------------------------
-- The law

-- the names of a program's atoms, and those of all that an instance may do
abbrev table_of : Program → List AtomName
table_of p = (authority_of p).atoms

abbrev whole_of : Program → InstanceRow → List AtomName
whole_of p r = named_atoms (table_of p) (whole_set r.bodies)

pub used_is_allowed : UsedIsAllowed
used_is_allowed p resolved events bounded r row = record { atoms = atoms_within; names = names_within }
  where
    in_call : (call : Call) → call.instance ≡ r.name → (atom : AtomName) → In atom (allowed p call) → In atom (whole_of p r)
    in_call call same atom i =
        body_in_whole (table_of p) call.body r.bodies atom
        (subst (λ (xs : List AtomName). In atom xs) (one_row (table_of p) (authority_of p).rows (instances_are_told p resolved) r row call.body)
        (subst (λ (n : List ℕ). In atom (allowed p (record { instance = n; body = call.body }))) same i))

    atoms_within : Within (used_of r.name events) (whole_of p r)
    atoms_within atom i =
        let used : IsUsed r.name events atom = (said_of_each_use r.name events atom).0 i in
        let found : (call : Call) × In call (open_after [] used.before) × (call.instance ≡ r.name) = open_call r.name (open_after [] used.before) used.open_then in
        let each : All (λ (call : Call). Contains (allowed p call) (atom_of used.deed)) (open_after [] used.before) =
        (said_of_each_deed (allowed p) events).0 bounded used.before used.after used.deed used.split in
        let at : Contains (allowed p found.0) (atom_of used.deed) =
        All-contains (λ (call : Call). Contains (allowed p call) (atom_of used.deed)) (open_after [] used.before) found.0 each (contains_in found.0 (open_after [] used.before) found.1) in
        in_call found.0 found.2 atom (subst (λ (a : AtomName). In a (allowed p found.0)) (sym used.is) (in_where (allowed p found.0) (atom_of used.deed) at))

    names_within : Within (named_atoms (table_of p) (used_set (table_of p) events r.name)) (whole_of p r)
    names_within name i =
        let at : (a : ℕ) × In a (used_set (table_of p) events r.name) × (named (table_of p) a ≡ name) = In-unmap (named (table_of p)) name (used_set (table_of p) events r.name) i in
        elim (in_places (table_of p) (used_of r.name events) [] at.0 at.1) [
          | inl none ↦ absurd none
          | inr found ↦ atoms_within name (subst (λ (a : AtomName). In a (used_of r.name events)) (sym found.2 ∙ at.2) found.1)
        ]
