-- A scope has at most as many atoms as its owners count.
use Rattle.std.proofs.Common.{◌≡◌, ℕ, zero, suc, ◌+◌, ◌≤◌, List, [], ◌∷◌, ◌++◌, length, map, Bool, true, false, refl, ap, ◌∙◌, arith}
use Rattle.std.specs.Prelude.{if◌then◌else◌, slice_index_or}
use Rattle.std.proofs.lemmas.List.{length-append, map-append}
use Rattle.wy_text.specs.declared.fault.AtomName.{AtomName}
use Rattle.wy_syntax.specs.declared.items.TypeDecl.{TypeDecl}
use Rattle.wy_syntax.specs.declared.items.Member.{Member}
use Rattle.wy_syntax.specs.declared.items.Member.TheVariants.{Abstract, Bounded, Defined, Method}
use Rattle.wy_types.specs.Primitive.{primitive_types}
use Rattle.wy_symbols.specs.declared.scoping.Head.{Head}
use Rattle.wy_symbols.specs.declared.scoping.Meaning.{Meaning}
use Rattle.wy_symbols.specs.declared.scoping.Opening.{Opening}
use Rattle.wy_symbols.specs.declared.scoping.Opening.TheVariants.{Members, Nothing, Missing}
use Rattle.wy_symbols.specs.declared.scoping.Owner.{Owner}
use Rattle.wy_symbols.specs.Meanings.{abstract_names}
use Rattle.wy_symbols.specs.Atoms.{atom_of, has_atom, with_atom, with_members, opened_names, with_owners, atoms_of, members_of, members_after, member_scope, abstract_member, bounded_member, defined_member, set_of, head, heads_of, primitive_head}
use Rattle.wy_heads.specs.Counts.{abstract_count, abstract_counts, type_counts, opening_count, owners_count}

length_with_atom : (atoms : List AtomName) (a : AtomName) → length (with_atom atoms a) ≤ length atoms + 1
length_with_atom atoms a =
    let P : Bool → Type 0 = λ b. length (if b then atoms else atoms ++ a ∷ []) ≤ length atoms + 1 in
    elim (has_atom atoms a) as P [
      | true ↦ omega arith
      | false ↦ (let l = length-append atoms (a ∷ []) in omega (arith, l))
    ]

length_with_members : (atoms : List AtomName) (o : List ℕ) (ms : List (List ℕ)) → length (with_members atoms o ms) ≤ length atoms + length ms
length_with_members atoms o [] = omega arith
length_with_members atoms o (m ∷ ms) =
    let one = length_with_atom atoms (atom_of o m) in
    let rest = length_with_members (with_atom atoms (atom_of o m)) o ms in
    omega (arith, one, rest)

-- each opening has at most as many members as it counts
pub record CountsMembers (heads : List Head) (counts : List ℕ) : Type 0 where
  pub most : (o : Opening) → length (opened_names heads o) ≤ opening_count counts o

length_with_owners : (heads : List Head) (counts : List ℕ) (atoms : List AtomName) (os : List Owner) → CountsMembers heads counts →
    length (with_owners heads atoms os) ≤ length atoms + owners_count counts os
length_with_owners heads counts atoms [] h = omega arith
length_with_owners heads counts atoms (o ∷ os) h =
    let here = length_with_members atoms o.name (opened_names heads o.opening) in
    let most = h.most o.opening in
    let rest = length_with_owners heads counts (with_members atoms o.name (opened_names heads o.opening)) os h in
    omega (arith, here, most, rest)

pub atoms_within : (heads : List Head) (counts : List ℕ) (os : List Owner) → CountsMembers heads counts → length (atoms_of heads os) ≤ owners_count counts os
atoms_within heads counts os h = let l = length_with_owners heads counts [] os h in omega (arith, l)

------------------------------------------------------------
-- The abstract members of types

abstract_names-append : (xs ys : List Meaning) → abstract_names (xs ++ ys) ≡ abstract_names xs ++ abstract_names ys
abstract_names-append [] ys = refl
abstract_names-append (x ∷ xs) ys =
    let P : Bool → Type 0 = λ b. (if b then x.name ∷ abstract_names (xs ++ ys) else abstract_names (xs ++ ys)) ≡ (if b then x.name ∷ abstract_names xs else abstract_names xs) ++ abstract_names ys in
    elim (x.is_abstract) as P [ true ↦ ap (λ l. x.name ∷ l) (abstract_names-append xs ys) | false ↦ abstract_names-append xs ys ]

length_abstract : (before : List Meaning) (more : Meaning) (n : ℕ) → length (abstract_names (more ∷ [])) ≡ n → length (abstract_names (before ++ more ∷ [])) ≡ length (abstract_names before) + n
length_abstract before more n e =
    let a = ap (λ (l : List (List ℕ)). length l) (abstract_names-append before (more ∷ [])) in
    let l = length-append (abstract_names before) (abstract_names (more ∷ [])) in
    omega (arith, a, l, e)

pub abstract_members_count : (before : List Meaning) (k : ℕ) (ms : List Member) → length (abstract_names (members_after before k ms)) ≡ length (abstract_names before) + abstract_count ms
abstract_members_count before k [] = omega arith
abstract_members_count before k (Abstract n ∷ ms) =
    let one = length_abstract before (abstract_member n.text k) 1 refl in
    let rest = abstract_members_count (before ++ abstract_member n.text k ∷ []) (k + 1) ms in
    omega (arith, one, rest)
abstract_members_count before k (Bounded n set ∷ ms) =
    let bounded = bounded_member n.text k (set_of (member_scope before) set) in
    let one = length_abstract before bounded 1 refl in
    let rest = abstract_members_count (before ++ bounded ∷ []) (k + 1) ms in
    omega (arith, one, rest)
abstract_members_count before k (Defined n set ∷ ms) =
    let defined = defined_member n.text (set_of (member_scope before) set) in
    let one = length_abstract before defined 0 refl in
    let rest = abstract_members_count (before ++ defined ∷ []) k ms in
    omega (arith, one, rest)
abstract_members_count before k (Method g ∷ ms) = abstract_members_count before k ms

abbrev head_count : Head → ℕ
head_count h = length (abstract_names h.members)

head_counts : (types : List TypeDecl) → map head_count (map head types) ≡ abstract_counts types
head_counts [] = refl
head_counts (d ∷ ds) =
    let here : head_count (head d) ≡ abstract_count d.members = (let l = abstract_members_count [] 0 d.members in omega (arith, l)) in
    ap (λ n. n ∷ map head_count (map head ds)) here ∙ ap (λ l. abstract_count d.members ∷ l) (head_counts ds)

all_counts : (types : List TypeDecl) → map head_count (heads_of types) ≡ type_counts types
all_counts types = map-append head_count (map primitive_head primitive_types) (map head types) ∙ ap (λ l. map head_count (map primitive_head primitive_types) ++ l) (head_counts types)

members_count : (heads : List Head) (d : ℕ) → length (abstract_names (members_of heads d)) ≡ slice_index_or (map head_count heads) d 0
members_count [] d = refl
members_count (h ∷ hs) zero = refl
members_count (h ∷ hs) (suc d) = members_count hs d

pub heads_count : (types : List TypeDecl) → CountsMembers (heads_of types) (type_counts types)
heads_count types = record { most = most }
  where
    most : (o : Opening) → length (opened_names (heads_of types) o) ≤ opening_count (type_counts types) o
    most Nothing = omega arith
    most Missing = omega arith
    most (Members d) =
        let e = members_count (heads_of types) d in
        let f = ap (λ (l : List ℕ). slice_index_or l d 0) (all_counts types) in
        omega (arith, e, f)
