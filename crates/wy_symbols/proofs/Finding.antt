-- The owner of a name among the first ones of a list, by its number in the whole list.
use Rattle.std.proofs.Common.{◌≡◌, ◌≤◌, ◌<◌, ℕ, zero, suc, ◌+◌, List, [], ◌∷◌, map, take, refl, sym, ap, ◌∙◌, Bool, true, false, Option, Some, None, arith, if◌then◌else◌}
use Rattle.std.specs.Prelude.{slice_get}
use Rattle.wy_text.specs.Members.{In}
use Rattle.wy_text.proofs.Lists.{In-slice_get}
use Rattle.wy_symbols.specs.declared.scoping.Owner.{Owner}
use Rattle.wy_symbols.specs.declared.atom_scope.Opened.{Opened}
use Rattle.wy_symbols.specs.Declarations.{same_name, first_from}
use Rattle.wy_effects.specs.EffSet.{replace}
use Rattle.wy_symbols.specs.declared.scoping.Meaning.{Meaning}
use Rattle.wy_symbols.specs.declared.scoping.Head.{Head}
use Rattle.wy_symbols.specs.declared.scoping.Opening.TheVariants.{Members}
use Rattle.wy_symbols.specs.Meanings.{meaning_of, abstract_names}
use Rattle.wy_symbols.specs.Atoms.{AtomScope, owner_of, owner_sets, opened_names, members_of, members_at, member_set, opening_set, owner_set, owner_names}
use Rattle.wy_symbols.specs.Found.{IsFound}
use Rattle.wy_symbols.proofs.Firsts.{same_exact, first_item, item_at}

take_none : (k v : ℕ) (ns : List (List ℕ)) (x : List ℕ) → first_from k ns x ≡ None → first_from k (take v ns) x ≡ None
take_none k zero ns x h = refl
take_none k (suc v) [] x h = refl
take_none k (suc v) (n ∷ ns) x h =
    let P : Bool → Type 0 = λ b. (if b then Some k else first_from (k + 1) ns x) ≡ None → (if b then Some k else first_from (k + 1) (take v ns) x) ≡ None in
    (elim (same_name n x) as P [ true ↦ λ g. cc | false ↦ λ g. take_none (k + 1) v ns x g ]) h

take_below : (k v j : ℕ) (ns : List (List ℕ)) (x : List ℕ) → first_from k ns x ≡ Some j → k ≤ j → j < k + v → first_from k (take v ns) x ≡ Some j
take_below k zero j ns x h le lt = absurd (omega arith)
take_below k (suc v) j [] x h le lt = cc
take_below k (suc v) j (n ∷ ns) x h le lt =
    let P : Bool → Type 0 = λ b. (if b then Some k else first_from (k + 1) ns x) ≡ Some j → (if b then Some k else first_from (k + 1) (take v ns) x) ≡ Some j in
    (elim (same_name n x) as P [ true ↦ λ g. g | false ↦ λ g. take_below (k + 1) v j ns x g (above (k + 1) ns x j g) (omega arith) ]) h
  where
    above : (i : ℕ) (ms : List (List ℕ)) (y : List ℕ) (l : ℕ) → first_from i ms y ≡ Some l → i ≤ l
    above i [] y l g = cc
    above i (m ∷ ms) y l g =
        let P : Bool → Type 0 = λ b. (if b then Some i else first_from (i + 1) ms y) ≡ Some l → i ≤ l in
        (elim (same_name m y) as P [
          | true ↦ λ f. (let e : i ≡ l = cc in omega arith)
          | false ↦ λ f. (let r = above (i + 1) ms y l f in omega arith)
        ]) g

take_beyond : (k v j : ℕ) (ns : List (List ℕ)) (x : List ℕ) → first_from k ns x ≡ Some j → k + v ≤ j → first_from k (take v ns) x ≡ None
take_beyond k zero j ns x h le = refl
take_beyond k (suc v) j [] x h le = refl
take_beyond k (suc v) j (n ∷ ns) x h le =
    let P : Bool → Type 0 = λ b. (if b then Some k else first_from (k + 1) ns x) ≡ Some j → (if b then Some k else first_from (k + 1) (take v ns) x) ≡ None in
    (elim (same_name n x) as P [
      | true ↦ λ g. (let e : k ≡ j = cc in absurd (omega arith))
      | false ↦ λ g. take_beyond (k + 1) v j ns x g (omega arith)
    ]) h

names_take : (v : ℕ) (os : List Owner) → owner_names (take v os) ≡ take v (owner_names os)
names_take zero os = refl
names_take (suc v) [] = refl
names_take (suc v) (o ∷ os) = ap (λ l. o.name ∷ l) (names_take v os)

pub get_take : {X : Type 0} (v j : ℕ) (xs : List X) → j < v → slice_get (take v xs) j ≡ slice_get xs j
get_take zero j xs lt = absurd (omega arith)
get_take (suc v) j [] lt = refl
get_take (suc v) zero (x ∷ xs) lt = refl
get_take (suc v) (suc j) (x ∷ xs) lt = get_take v j xs (omega arith)

item_owner : (os : List Owner) (x : List ℕ) → owner_of os x ≡ item_at os (first_from 0 (owner_names os) x)
item_owner os x = first_item (λ (o : Owner). o.name) owner_of (λ y. refl) (λ i is y. refl) os x

pub owner_absent : (os : List Owner) (v : ℕ) (x : List ℕ) → first_from 0 (owner_names os) x ≡ None → owner_of (take v os) x ≡ None
owner_absent os v x h = item_owner (take v os) x ∙ ap (λ ns. item_at (take v os) (first_from 0 ns x)) (names_take v os) ∙ ap (item_at (take v os)) (take_none 0 v (owner_names os) x h)

pub owner_beyond : (os : List Owner) (v j : ℕ) (x : List ℕ) → first_from 0 (owner_names os) x ≡ Some j → v ≤ j → owner_of (take v os) x ≡ None
owner_beyond os v j x h le =
    item_owner (take v os) x ∙ ap (λ ns. item_at (take v os) (first_from 0 ns x)) (names_take v os)
    ∙ ap (item_at (take v os)) (take_beyond 0 v j (owner_names os) x h (omega arith))

pub owner_there : (os : List Owner) (v j : ℕ) (x : List ℕ) → first_from 0 (owner_names os) x ≡ Some j → j < v → owner_of (take v os) x ≡ slice_get os j
owner_there os v j x h lt =
    item_owner (take v os) x ∙ ap (λ ns. item_at (take v os) (first_from 0 ns x)) (names_take v os)
    ∙ ap (item_at (take v os)) (take_below 0 v j (owner_names os) x h (omega arith) (omega arith)) ∙ get_take v j os lt

owner_some : (list : List Opened) (j : ℕ) (p : Opened) → slice_get list j ≡ Some p → slice_get (map (λ (q : Opened). q.owner) list) j ≡ Some p.owner
owner_some [] j p h = cc
owner_some (q ∷ list) zero p h = (let e : q ≡ p = cc in ap (λ (r : Opened). Some r.owner) e)
owner_some (q ∷ list) (suc j) p h = owner_some list j p h

owner_none : (list : List Opened) (j : ℕ) → slice_get list j ≡ None → slice_get (map (λ (q : Opened). q.owner) list) j ≡ None
owner_none [] j h = refl
owner_none (q ∷ list) zero h = cc
owner_none (q ∷ list) (suc j) h = owner_none list j h

-- the owner at a number in sight is found, with its sets
pub found_at : (s : AtomScope) (list : List Opened) (v j : ℕ) (x : List ℕ) → first_from 0 (owner_names (map (λ (p : Opened). p.owner) list)) x ≡ Some j → j < v →
    ((p : Opened) → In p list → owner_sets s.atoms p.owner.name (opened_names s.heads p.owner.opening) ≡ p.sets) →
    (r : Option Opened) → r ≡ slice_get list j → IsFound s (owner_of (take v (map (λ (p : Opened). p.owner) list)) x) r
found_at s list v j x at lt sets None e = owner_there (map (λ (p : Opened). p.owner) list) v j x at lt ∙ owner_none list j (sym e)
found_at s list v j x at lt sets (Some p) e =
    (owner_there (map (λ (p : Opened). p.owner) list) v j x at lt ∙ owner_some list j p (sym e), sets p (In-slice_get list j p (sym e)))

owner_named : (os : List Owner) (x : List ℕ) (o : Owner) → owner_of os x ≡ Some o → o.name ≡ x
owner_named [] x o h = cc
owner_named (w ∷ os) x o h =
    let P : Bool → Type 0 = λ b. same_name w.name x ≡ b → (if b then Some w else owner_of os x) ≡ Some o → o.name ≡ x in
    (elim (same_name w.name x) as P [
      | true ↦ λ e g. (let s : w ≡ o = cc in ap (λ (q : Owner). q.name) (sym s) ∙ sym (same_exact w.name x e))
      | false ↦ λ e g. owner_named os x o g
    ]) refl h

-- the set of a member of an owner that is found
pub member_found : (s : AtomScope) (x m : List ℕ) (p : Opened) (d : ℕ) (h : Head) (g : Meaning) →
    IsFound s (owner_of s.owners x) (Some p) → p.owner.opening ≡ Members d → slice_get s.heads d ≡ Some h → meaning_of h.members m ≡ Some g →
    replace p.sets g.atoms ≡ owner_set s x m (owner_of s.owners x)
member_found s x m p d h g f o at e =
    let members : members_of s.heads d ≡ h.members = ap members_at at in
    let named = owner_named s.owners x p.owner f.0 in
    sym (
    ap (owner_set s x m) f.0
    ∙ ap (opening_set s x m) o
    ∙ ap (λ l. member_set s.atoms x l (meaning_of l m)) members
    ∙ ap (member_set s.atoms x h.members) e
    ∙ ap (λ l. replace (owner_sets s.atoms x (abstract_names l)) g.atoms) (sym members)
    ∙ ap (λ y. replace (owner_sets s.atoms y (abstract_names (members_of s.heads d))) g.atoms) (sym named)
    ∙ ap (λ y. replace (owner_sets s.atoms p.owner.name (opened_names s.heads y)) g.atoms) (sym o)
    ∙ ap (λ sets. replace sets g.atoms) f.1
    )

pub number_absent : (os : List Owner) (v : ℕ) (x : List ℕ) → first_from 0 (owner_names os) x ≡ None → first_from 0 (owner_names (take v os)) x ≡ None
number_absent os v x h = ap (λ ns. first_from 0 ns x) (names_take v os) ∙ take_none 0 v (owner_names os) x h

pub number_beyond : (os : List Owner) (v j : ℕ) (x : List ℕ) → first_from 0 (owner_names os) x ≡ Some j → v ≤ j → first_from 0 (owner_names (take v os)) x ≡ None
number_beyond os v j x h le = ap (λ ns. first_from 0 ns x) (names_take v os) ∙ take_beyond 0 v j (owner_names os) x h (omega arith)

pub number_there : (os : List Owner) (v j : ℕ) (x : List ℕ) → first_from 0 (owner_names os) x ≡ Some j → j < v → first_from 0 (owner_names (take v os)) x ≡ Some j
number_there os v j x h lt = ap (λ ns. first_from 0 ns x) (names_take v os) ∙ take_below 0 v j (owner_names os) x h (omega arith) (omega arith)

-- the owner at a number is there, with its sets
pub found_number : (s : AtomScope) (list : List Opened) (j : ℕ) →
    ((p : Opened) → In p list → owner_sets s.atoms p.owner.name (opened_names s.heads p.owner.opening) ≡ p.sets) →
    (r : Option Opened) → r ≡ slice_get list j → IsFound s (slice_get (map (λ (p : Opened). p.owner) list) j) r
found_number s list j sets None e = owner_none list j (sym e)
found_number s list j sets (Some p) e = (owner_some list j p (sym e), sets p (In-slice_get list j p (sym e)))
