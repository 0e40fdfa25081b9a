-- What a written set stands for is a set, where the scope's names stand for sets and its owners' atoms are there.
use Rattle.std.proofs.Common.{◌≡◌, ℕ, ◌<◌, List, [], ◌∷◌, Bool, true, false, Option, Some, None, inl, inr, refl, sym, subst, arith}
use Rattle.std.specs.Prelude.{if◌then◌else◌}
use Rattle.wy_text.specs.declared.fault.AtomName.{AtomName}
use Rattle.wy_syntax.specs.declared.types.Name.{Name}
use Rattle.wy_syntax.specs.declared.types.AtomUse.{AtomUse}
use Rattle.wy_text.specs.Members.{In}
use Rattle.wy_effects.specs.EffSet.{IsSet, AreSets}
use Rattle.wy_effects.proofs.Replacing.{IsSet-replace}
use Rattle.wy_effects.proofs.SetLaws.{IsSetFrom-union}
use Rattle.wy_symbols.specs.declared.scoping.Head.{Head}
use Rattle.wy_symbols.specs.declared.scoping.Meaning.{Meaning}
use Rattle.wy_symbols.specs.declared.scoping.Opening.{Opening}
use Rattle.wy_symbols.specs.declared.scoping.Opening.TheVariants.{Members, Nothing, Missing}
use Rattle.wy_symbols.specs.declared.scoping.Owner.{Owner}
use Rattle.wy_symbols.specs.Declarations.{same_name}
use Rattle.wy_symbols.specs.Meanings.{meaning_of, abstract_names}
use Rattle.wy_symbols.specs.Atoms.{AtomScope, members_of, owner_of, atom_of, atom_number, opened_names, owner_sets, member_set, opening_set, owner_set, meaning_set, atom_set, set_of}
use Rattle.wy_symbols.proofs.Firsts.{same_exact}

-- the atoms that an owner opens have numbers below `n`
pub record OpensBelow (n : ℕ) (heads : List Head) (atoms : List AtomName) (o : Owner) : Type 0 where
  pub below : (m : List ℕ) → In m (opened_names heads o.opening) → atom_number atoms (atom_of o.name m) < n

-- so have those of each of these owners
pub record AllOpen (n : ℕ) (heads : List Head) (atoms : List AtomName) (owners : List Owner) : Type 0 where
  pub opens : (o : Owner) → In o owners → OpensBelow n heads atoms o

-- names of one word stand for sets
pub record AreMeant (n : ℕ) (ms : List Meaning) : Type 0 where
  pub set : (m : Meaning) → In m ms → IsSet n m.atoms

-- a scope of atoms whose sets are those below `n`
pub record Holds (n : ℕ) (s : AtomScope) : Type 0 where
  pub owners : AllOpen n s.heads s.atoms s.owners
  pub meanings : AreMeant n s.meanings

-- what is found is there
pub meaning_In : (ms : List Meaning) (x : List ℕ) (m : Meaning) → meaning_of ms x ≡ Some m → In m ms
meaning_In [] x m e = cc
meaning_In (k ∷ ms) x m e =
    let P : Bool → Type 0 = λ b. (if b then Some k else meaning_of ms x) ≡ Some m → In m (k ∷ ms) in
    (elim (same_name k.name x) as P [ true ↦ λ f. inl (cc) | false ↦ λ f. inr (meaning_In ms x m f) ]) e

pub record IsOwner (os : List Owner) (x : List ℕ) (o : Owner) : Type 0 where
  pub there : In o os
  pub name : x ≡ o.name

pub owner_found : (os : List Owner) (x : List ℕ) (o : Owner) → owner_of os x ≡ Some o → IsOwner os x o
owner_found [] x o e = cc
owner_found (k ∷ os) x o e =
    let P : Bool → Type 0 = λ b. same_name k.name x ≡ b → (if b then Some k else owner_of os x) ≡ Some o → IsOwner (k ∷ os) x o in
    (elim (same_name k.name x) as P [
      | true ↦ λ t f. (let same : k ≡ o = cc in let Q : Owner → Type 0 = λ v. x ≡ v.name in record { there = inl same; name = subst Q same (same_exact k.name x t) })
      | false ↦ λ t f. (let r = owner_found os x o f in record { there = inr r.there; name = r.name })
    ]) refl e

-- the sets of an owner's atoms
pub owner_sets_below : (n : ℕ) (atoms : List AtomName) (owner : List ℕ) (ms : List (List ℕ)) →
    ((m : List ℕ) → In m ms → atom_number atoms (atom_of owner m) < n) → AreSets n (owner_sets atoms owner ms)
owner_sets_below n atoms owner [] h t i = absurd i
owner_sets_below n atoms owner (m ∷ ms) h t (inl e) =
    let P : List ℕ → Type 0 = λ v. IsSet n v in
    subst P e (omega arith, h m (inl refl), tt)
owner_sets_below n atoms owner (m ∷ ms) h t (inr i) = owner_sets_below n atoms owner ms (λ x j. h x (inr j)) t i

pub meaning_set_below : (n : ℕ) (ms : List Meaning) (x : List ℕ) → AreMeant n ms → IsSet n (meaning_set (meaning_of ms x))
meaning_set_below n ms x h =
    let P : Option Meaning → Type 0 = λ o. meaning_of ms x ≡ o → IsSet n (meaning_set o) in
    (elim (meaning_of ms x) as P [ None ↦ λ e. tt | Some m ↦ λ e. h.set m (meaning_In ms x m e) ]) refl

module _ (n : ℕ) (s : AtomScope) where
  opening_set_below : (owner x : List ℕ) (o : Opening) → ((m : List ℕ) → In m (opened_names s.heads o) → atom_number s.atoms (atom_of owner m) < n) → IsSet n (opening_set s owner x o)
  opening_set_below owner x Nothing h = tt
  opening_set_below owner x Missing h = tt
  opening_set_below owner x (Members d) h =
      let P : Option Meaning → Type 0 = λ m. IsSet n (member_set s.atoms owner (members_of s.heads d) m) in
      elim (meaning_of (members_of s.heads d) x) as P [
        | None ↦ tt
        | Some m ↦ IsSet-replace n (owner_sets s.atoms owner (abstract_names (members_of s.heads d))) m.atoms
            (owner_sets_below n s.atoms owner (abstract_names (members_of s.heads d)) h)
      ]

  module _ (holds : Holds n s) where
    owner_set_below : (owner x : List ℕ) → IsSet n (owner_set s owner x (owner_of s.owners owner))
    owner_set_below owner x =
        let P : Option Owner → Type 0 = λ o. owner_of s.owners owner ≡ o → IsSet n (owner_set s owner x o) in
        (elim (owner_of s.owners owner) as P [
          | None ↦ λ e. tt
          | Some o ↦ λ e. (
              let r = owner_found s.owners owner o e in
              let Q : List ℕ → Type 0 = λ v. (m : List ℕ) → In m (opened_names s.heads o.opening) → atom_number s.atoms (atom_of v m) < n in
              opening_set_below owner x o.opening (subst Q (sym r.name) (((holds.owners).opens o r.there).below)))
        ]) refl

    atom_set_below : (owner : Option Name) (x : List ℕ) → IsSet n (atom_set s owner x)
    atom_set_below None x = meaning_set_below n s.meanings x holds.meanings
    atom_set_below (Some o) x = owner_set_below o.text x

    pub set_below : (set : List AtomUse) → IsSet n (set_of s set)
    set_below [] = tt
    set_below (a ∷ more) = IsSetFrom-union 0 n (atom_set s a.owner a.member.text) (set_of s more) (atom_set_below a.owner a.member.text) (set_below more)
