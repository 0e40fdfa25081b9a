-- The report of an image says of each body what its calls may do.
use Rattle.std.proofs.Common.{◌⊎◌, ◌≡◌, ◌↔◌, ℕ, zero, suc, ◌+◌, ◌<◌, Bool, true, false, List, [], ◌∷◌, ◌++◌, length, map, inl, inr, refl, sym, ap, ◌∙◌, subst, Option, Some, None, slice_index_or, arith}
use Rattle.std.specs.Prelude.{codes, slice_get, bytes_eq, if◌then◌else◌}
use Rattle.std.proofs.lemmas.List.{append_assoc, get_or_append_left, length-append, length-map}
use Rattle.std.proofs.lemmas.Slice.Eq.{bytes_eq-Decides}
use Rattle.wy_text.specs.Members.{In, Apart}
use Rattle.wy_text.specs.declared.fault.AtomName.{AtomName}
use Rattle.wy_text.proofs.Lists.{In-left, In-right, In-cases, In-at, In-map, In-unmap, Apart-push}
use Rattle.wy_effects.specs.AtomTable.{atom_name}
use Rattle.wy_effects.specs.EffSet.{insert_atom}
use Rattle.wy_effects.proofs.SetLaws.{insert_atom-cases, In-insert_atom-new, In-insert_atom-old}
use Rattle.wy_authority.specs.Report.{named_atoms}
use Rattle.wy_authority.specs.declared.rows.BodyRow.{BodyRow}
use Rattle.wy_authority.specs.declared.rows.InstanceRow.{InstanceRow}
use Rattle.wy_code.specs.declared.code.Grant.{Grant as CodeGrant}
use Rattle.wy_image.specs.declared.file.Grant.{Grant}
use Rattle.wy_image.specs.declared.file.ImageFile.{ImageFile}
use Rattle.wy_image.specs.declared.file.Instance.{Instance}
use Rattle.wy_image.specs.declared.file.Main.{Main}
use Rattle.wy_image.specs.declared.typing.Atom.{Atom}
use Rattle.wy_image.specs.declared.typing.Bounds.{Bounds}
use Rattle.wy_image.specs.declared.typing.Typing.{Typing}
use Rattle.wy_meaning.specs.Bounds.{Call}
use Rattle.wy_verified.specs.CodeOf.{grant_of, image_of, instance_of, main_of}
use Rattle.wy_verified.specs.Laws.{atom_in, atoms_named, authority_of, member_called, of_bodies, of_instances}
use Rattle.wy_verified.specs.Members.{members_of}
use Rattle.wy_verified.specs.Ranges.{AtomInRange, IsInRange, IsMember}
use Rattle.wy_verified.proofs.Lists.{none_some, some_same}
use Rattle.wy_verify.specs.Authority.{IsReported, atoms_of, body_row, call_of, firsts_from, firsts_of, grant_atoms, instance_row, number_of, unit_row, with_atoms}
use Rattle.wy_verify.proofs.Small.{stated_range}

------------------------------------------------------------
-- Atoms by their numbers

-- no atom
abbrev nothing : AtomName
nothing = atom_name [] []

-- the item at a place past a first part
past : {X : Type 0} (xs ys : List X) (m : ℕ) (d : X) → slice_index_or (xs ++ ys) (length xs + m) d ≡ slice_index_or ys m d
past [] ys m d = let z : 0 + m ≡ m = omega arith in ap (λ n. slice_index_or ys n d) z
past (x ∷ xs) ys m d =
    let z : suc (length xs) + m ≡ suc (length xs + m) = omega arith in
    ap (λ n. slice_index_or (x ∷ (xs ++ ys)) n d) z ∙ past xs ys m d

-- the name of a member, and the atom at its place
member_at : (owner : List ℕ) (ms : List (List ℕ)) (m : ℕ) → m < length ms → (name : List ℕ) ×
    (slice_get ms m ≡ Some name) × (slice_index_or (map (atom_name owner) ms) m nothing ≡ atom_name owner name)
member_at owner [] m h = absurd (omega (arith, h))
member_at owner (x ∷ ms) zero h = (x, refl, refl)
member_at owner (x ∷ ms) (suc m) h = member_at owner ms m (omega (arith, h))

-- the atom of a member of a grant is at its number
atom_at : (before : List AtomName) (gs : List Grant) (k m : ℕ) (g : Grant) → slice_get gs k ≡ Some g →
    m < length (members_of g.primitive) → (name : List ℕ) × (slice_get (members_of g.primitive) m ≡ Some name) ×
    (slice_index_or (before ++ grant_atoms gs) (slice_index_or (firsts_from (length before) gs) k 0 + m) nothing ≡ atom_name g.name name)
atom_at before [] k m g e h = absurd (none_some e)
atom_at before (x ∷ gs) zero m g e h =
    let same : x ≡ g = some_same e in
    let p = member_at g.name (members_of g.primitive) m h in
    let long : m < length (atoms_of g) = subst (λ n. m < n) (sym (length-map (members_of g.primitive) (atom_name g.name))) h in (
      p.0,
      p.1,
      (
          past before (atoms_of x ++ grant_atoms gs) m nothing ∙
          ap (λ (x : Grant). slice_index_or (atoms_of x ++ grant_atoms gs) m nothing) same ∙
          get_or_append_left (atoms_of g) (grant_atoms gs) nothing m long ∙ p.2),
    )
atom_at before (x ∷ gs) (suc k) m g e h =
    let p = atom_at (before ++ atoms_of x) gs k m g e h in
    let long : length (before ++ atoms_of x) ≡ length before + length (members_of x.primitive) =
    length-append before (atoms_of x) ∙ ap (λ n. length before + n) (length-map (members_of x.primitive) (atom_name x.name)) in (
      p.0,
      p.1,
      (
          ap (λ n. slice_index_or (before ++ (atoms_of x ++ grant_atoms gs)) (slice_index_or (firsts_from n gs) k 0 + m) nothing) (sym long) ∙
          ap (λ (l : List AtomName). slice_index_or l (slice_index_or (firsts_from (length (before ++ atoms_of x)) gs) k 0 + m) nothing)
          (sym (append_assoc before (atoms_of x) (grant_atoms gs))) ∙ p.2),
    )

-- the grant of code at a place
grant_at : (gs : List Grant) (k : ℕ) (g : Grant) → slice_get gs k ≡ Some g → slice_get (map grant_of gs) k ≡ Some (grant_of g)
grant_at [] k g e = absurd (none_some e)
grant_at (x ∷ gs) zero g e = ap (λ (x : Grant). Some (grant_of x)) (some_same e)
grant_at (x ∷ gs) (suc k) g e = grant_at gs k g e

module _ (gs : List Grant) where
  -- the name of an atom by its number
  abbrev named : Atom → AtomName
  named a = slice_index_or (grant_atoms gs) (number_of (firsts_of gs) a) nothing

  -- an atom in range is that of its number
  one_atom : (a : Atom) (o : Option Grant) → slice_get gs a.grant ≡ o → (m : ℕ) → a.member ≡ m →
      ((g : Grant) → o ≡ Some g → m < length (members_of g.primitive)) → (o ≡ None → ⊥) →
      atom_in (slice_get (map grant_of gs) a.grant) a.member ≡ named a ∷ []
  one_atom a None e m f less some = absurd (some refl)
  one_atom a (Some g) e m f less some =
      let p = atom_at [] gs a.grant a.member g e (subst (λ n. n < length (members_of g.primitive)) (sym f) (less g refl)) in
      ap (λ (o : Option CodeGrant). atom_in o a.member) (grant_at gs a.grant g e) ∙
      ap (λ (o : Option (List ℕ)). member_called g.name o) p.1 ∙
      ap (λ (x : AtomName). x ∷ []) (sym p.2)

  -- .. of each of a list
  abbrev AreNamed : List Atom → Type 0
  AreNamed atoms = (a : Atom) → In a atoms → atom_in (slice_get (map grant_of gs) a.grant) a.member ≡ named a ∷ []

  -- what is among the names of atoms
  from_named : (t : AtomName) (atoms : List Atom) → AreNamed atoms → In t (atoms_named (map grant_of gs) atoms) →
      (a : Atom) × In a atoms × (named a ≡ t)
  from_named t [] are h = absurd h
  from_named t (a ∷ more) are h =
      let P : List AtomName → Type 0 = λ l. In t l in
      elim (In-cases t (atom_in (slice_get (map grant_of gs) a.grant) a.member) (atoms_named (map grant_of gs) more) h) [
        | inl i ↦ (elim (subst P (are a (inl refl)) i) [ inl e ↦ (a, inl refl, e) | inr f ↦ absurd f ])
        | inr i ↦ (let r = from_named t more (λ x j. are x (inr j)) i in (r.0, inr r.1, r.2))
      ]

  to_named : (a : Atom) (atoms : List Atom) → AreNamed atoms → In a atoms → In (named a) (atoms_named (map grant_of gs) atoms)
  to_named a [] are h = absurd h
  to_named a (x ∷ more) are (inl e) =
      let P : List AtomName → Type 0 = λ l. In (named a) l in
      In-left (named a) (atom_in (slice_get (map grant_of gs) x.grant) x.member) (atoms_named (map grant_of gs) more)
      (subst P (sym (are x (inl refl))) (inl (ap named e)))
  to_named a (x ∷ more) are (inr h) =
      In-right (named a) (atom_in (slice_get (map grant_of gs) x.grant) x.member) (atoms_named (map grant_of gs) more)
      (to_named a more (λ y j. are y (inr j)) h)

  ------------------------------------------------------------
  -- Sets of numbers

  from_set : (k : ℕ) (atoms : List Atom) (set : List ℕ) → In k (with_atoms (firsts_of gs) atoms set) →
      In k set ⊎ ((a : Atom) × In a atoms × (number_of (firsts_of gs) a ≡ k))
  from_set k [] set h = inl h
  from_set k (a ∷ more) set h =
      elim (from_set k more (insert_atom (number_of (firsts_of gs) a) set) h) [
        | inl i ↦ (elim (insert_atom-cases (number_of (firsts_of gs) a) k set i) [ inl e ↦ inr (a, inl refl, e) | inr j ↦ inl j ])
        | inr r ↦ inr (r.0, inr r.1, r.2)
      ]

  stays : (k : ℕ) (atoms : List Atom) (set : List ℕ) → In k set → In k (with_atoms (firsts_of gs) atoms set)
  stays k [] set h = h
  stays k (a ∷ more) set h =
      stays k more (insert_atom (number_of (firsts_of gs) a) set) (In-insert_atom-old (number_of (firsts_of gs) a) k set h)

  to_set : (a : Atom) (atoms : List Atom) (set : List ℕ) → In a atoms →
      In (number_of (firsts_of gs) a) (with_atoms (firsts_of gs) atoms set)
  to_set a [] set h = absurd h
  to_set a (x ∷ more) set (inl e) =
      let P : Atom → Type 0 = λ y. In (number_of (firsts_of gs) y) (with_atoms (firsts_of gs) (x ∷ more) set) in
      subst P e (stays (number_of (firsts_of gs) x) more (insert_atom (number_of (firsts_of gs) x) set) (In-insert_atom-new (number_of (firsts_of gs) x) set))
  to_set a (x ∷ more) set (inr h) = to_set a more (insert_atom (number_of (firsts_of gs) x) set) h

  -- an effect by its names and by the numbers of its set
  same_names : (t : AtomName) (atoms : List Atom) → AreNamed atoms →
      In t (atoms_named (map grant_of gs) atoms) ↔ In t (named_atoms (grant_atoms gs) (with_atoms (firsts_of gs) atoms []))
  same_names t atoms are = (
    λ h. let r = from_named t atoms are h in
        let P : AtomName → Type 0 = λ x. In x (named_atoms (grant_atoms gs) (with_atoms (firsts_of gs) atoms [])) in
        subst P r.2 (In-map (λ (k : ℕ). slice_index_or (grant_atoms gs) k nothing) (number_of (firsts_of gs) r.0)
        (with_atoms (firsts_of gs) atoms []) (to_set r.0 atoms [] r.1)),
    λ h. let r = In-unmap (λ (k : ℕ). slice_index_or (grant_atoms gs) k nothing) t (with_atoms (firsts_of gs) atoms []) h in
        elim (from_set r.0 atoms [] r.1) [
          | inl f ↦ absurd f
          | inr q ↦ (
              let P : AtomName → Type 0 = λ x. In x (atoms_named (map grant_of gs) atoms) in
              subst P (ap (λ (k : ℕ). slice_index_or (grant_atoms gs) k nothing) q.2 ∙ r.2) (to_named q.0 atoms are q.1))
        ],
  )

------------------------------------------------------------
-- Bodies and instances by their names

one_of : {X : Type 0} (f : X → List ℕ) (xs : List X) (x y : X) → Apart (map f xs) → In x xs → In y xs → f x ≡ f y → x ≡ y
one_of f [] x y d i j e = absurd i
one_of f (z ∷ zs) x y d (inl i) (inl j) e = sym i ∙ j
one_of f (z ∷ zs) x y d (inl i) (inr j) e =
    absurd (d.0 (subst (λ n. In n (map f zs)) (sym e ∙ sym (ap f i)) (In-map f y zs j)))
one_of f (z ∷ zs) x y d (inr i) (inl j) e =
    absurd (d.0 (subst (λ n. In n (map f zs)) (e ∙ sym (ap f j)) (In-map f x zs i)))
one_of f (z ∷ zs) x y d (inr i) (inr j) e = one_of f zs x y d.1 i j e

-- what is among the items of a choice
chosen : (c : Bool) (xs : List AtomName) (t : AtomName) → In t (if c then xs else []) → (c ≡ true) × In t xs
chosen true xs t h = (refl, h)
chosen false xs t h = absurd h

chooses : (c : Bool) (xs : List AtomName) (t : AtomName) → c ≡ true → In t xs → In t (if c then xs else [])
chooses c xs t e h = subst (λ (c : Bool). In t (if c then xs else [])) (sym e) h

module _ (grants : List CodeGrant) (t : AtomName) where
  from_bodies : (body : List ℕ) (bs : List Bounds) → In t (of_bodies grants body bs) →
      (b : Bounds) × In b bs × (b.name ≡ body) × In t (atoms_named grants b.effect)
  from_bodies body [] h = absurd h
  from_bodies body (b ∷ more) h =
      elim (In-cases t (if bytes_eq b.name body then atoms_named grants b.effect else []) (of_bodies grants body more) h) [
        | inl i ↦ (let q = chosen (bytes_eq b.name body) (atoms_named grants b.effect) t i in (b, inl refl, (bytes_eq-Decides b.name body).0 q.0, q.1))
        | inr i ↦ (let r = from_bodies body more i in (r.0, inr r.1, r.2, r.3))
      ]

  to_bodies : (b : Bounds) (bs : List Bounds) → In b bs → In t (atoms_named grants b.effect) → In t (of_bodies grants b.name bs)
  to_bodies b [] i h = absurd i
  to_bodies b (x ∷ more) (inl e) h =
      In-left t (if bytes_eq x.name b.name then atoms_named grants x.effect else []) (of_bodies grants b.name more)
      (chooses (bytes_eq x.name b.name) (atoms_named grants x.effect) t ((bytes_eq-Decides x.name b.name).1 (ap (λ (x : Bounds). x.name) e))
      (subst (λ (x : Bounds). In t (atoms_named grants x.effect)) (sym e) h))
  to_bodies b (x ∷ more) (inr i) h =
      In-right t (if bytes_eq x.name b.name then atoms_named grants x.effect else []) (of_bodies grants b.name more) (to_bodies b more i h)

  -- a name of an instance or the program, and what it states
  abbrev Named : Type 0
  Named = List ℕ × Typing

  abbrev all_named : List Instance → Main → List Named
  all_named is m = map (λ (i : Instance). let u : Named = (i.name, i.typing) in u) is ++ (codes "main", m.typing) ∷ []

  abbrev of_file : Call → List Instance → Main → List AtomName
  of_file call is m = of_instances grants call (map instance_of is ++ main_of m ∷ []) (map (λ (i : Instance). i.typing) is ++ m.typing ∷ [])

  from_file : (call : Call) (is : List Instance) (m : Main) → In t (of_file call is m) →
      (u : Named) × In u (all_named is m) × (u.0 ≡ call.instance) × In t (of_bodies grants call.body u.1.bodies)
  from_file call [] m h =
      elim (In-cases t (if bytes_eq (codes "main") call.instance then of_bodies grants call.body m.typing.bodies else []) [] h) [
        | inl i ↦ (
            let q = chosen (bytes_eq (codes "main") call.instance) (of_bodies grants call.body m.typing.bodies) t i in
            ((codes "main", m.typing), inl refl, (bytes_eq-Decides (codes "main") call.instance).0 q.0, q.1))
        | inr i ↦ absurd i
      ]
  from_file call (x ∷ is) m h =
      elim (In-cases t (if bytes_eq x.name call.instance then of_bodies grants call.body x.typing.bodies else []) (of_file call is m) h) [
        | inl i ↦ (
            let q = chosen (bytes_eq x.name call.instance) (of_bodies grants call.body x.typing.bodies) t i in
            ((x.name, x.typing), inl refl, (bytes_eq-Decides x.name call.instance).0 q.0, q.1))
        | inr i ↦ (let r = from_file call is m i in (r.0, inr r.1, r.2, r.3))
      ]

  to_file : (call : Call) (is : List Instance) (m : Main) (u : Named) → In u (all_named is m) → u.0 ≡ call.instance →
      In t (of_bodies grants call.body u.1.bodies) → In t (of_file call is m)
  to_file call [] m u (inl e) f h =
      In-left t (if bytes_eq (codes "main") call.instance then of_bodies grants call.body m.typing.bodies else []) []
      (chooses (bytes_eq (codes "main") call.instance) (of_bodies grants call.body m.typing.bodies) t
      ((bytes_eq-Decides (codes "main") call.instance).1 (ap (λ (u : Named). u.0) e ∙ f))
      (subst (λ (u : Named). In t (of_bodies grants call.body u.1.bodies)) (sym e) h))
  to_file call [] m u (inr i) f h = absurd i
  to_file call (x ∷ is) m u (inl e) f h =
      In-left t (if bytes_eq x.name call.instance then of_bodies grants call.body x.typing.bodies else []) (of_file call is m)
      (chooses (bytes_eq x.name call.instance) (of_bodies grants call.body x.typing.bodies) t
      ((bytes_eq-Decides x.name call.instance).1 (ap (λ (u : Named). u.0) e ∙ f))
      (subst (λ (u : Named). In t (of_bodies grants call.body u.1.bodies)) (sym e) h))
  to_file call (x ∷ is) m u (inr i) f h =
      In-right t (if bytes_eq x.name call.instance then of_bodies grants call.body x.typing.bodies else []) (of_file call is m)
      (to_file call is m u i f h)

------------------------------------------------------------
-- A file in range

module _ (file : ImageFile) (range : IsInRange file) where
  abbrev gs : List Grant
  gs = file.grants

  -- an atom in range is that of its number
  in_range : (a : Atom) → AtomInRange file a → atom_in (slice_get (map grant_of gs) a.grant) a.member ≡ named gs a ∷ []
  in_range a h = one_atom gs a (slice_get gs a.grant) refl a.member refl
      (λ g e. subst (λ (o : Option Grant). IsMember file o a.member) e h)
      (λ e. subst (λ (o : Option Grant). IsMember file o a.member) e h)

  -- the names of instances and the program differ
  names_apart : (is : List Instance) → Apart (codes "main" ∷ map (λ (i : Instance). i.name) is) →
      Apart (map (λ (i : Instance). i.name) is ++ codes "main" ∷ [])
  names_apart is d = Apart-push (codes "main") (map (λ (i : Instance). i.name) is) d.1 d.0

  -- .. of what is stated by name
  names_of_all : (is : List Instance) (m : Main) →
      map (λ (u : List ℕ × Typing). u.0) (map (λ (i : Instance). let u : List ℕ × Typing = (i.name, i.typing) in u) is ++ (codes "main", m.typing) ∷ []) ≡
      map (λ (i : Instance). i.name) is ++ codes "main" ∷ []
  names_of_all [] m = refl
  names_of_all (i ∷ is) m = ap (λ l. i.name ∷ l) (names_of_all is m)

  abbrev Stated : List ℕ × Typing → Type 0
  Stated u = In u (map (λ (i : Instance). let u : List ℕ × Typing = (i.name, i.typing) in u) file.instances ++ (codes "main", file.main.typing) ∷ [])

  one_stated : (u v : List ℕ × Typing) → Stated u → Stated v → u.0 ≡ v.0 → u ≡ v
  one_stated u v i j e =
      one_of (λ (u : List ℕ × Typing). u.0)
      (map (λ (i : Instance). let u : List ℕ × Typing = (i.name, i.typing) in u) file.instances ++ (codes "main", file.main.typing) ∷ [])
      u v (subst (λ l. Apart l) (sym (names_of_all file.instances file.main)) (names_apart file.instances range.names)) i j e

  -- a row of the report is of an instance or the program
  of_row : (is : List Instance) (m : Main) (r : InstanceRow) →
      In r (map (instance_row (firsts_of gs)) is ++ unit_row (firsts_of gs) (codes "main") m.typing ∷ []) →
      (u : List ℕ × Typing) × In u (map (λ (i : Instance). let u : List ℕ × Typing = (i.name, i.typing) in u) is ++ (codes "main", m.typing) ∷ []) ×
      (unit_row (firsts_of gs) u.0 u.1 ≡ r)
  of_row [] m r (inl e) = ((codes "main", m.typing), inl refl, e)
  of_row [] m r (inr f) = absurd f
  of_row (i ∷ is) m r (inl e) = ((i.name, i.typing), inl refl, e)
  of_row (i ∷ is) m r (inr h) = let q = of_row is m r h in (q.0, inr q.1, q.2)

  -- what is stated by name is what the file states
  typing_in : (is : List Instance) (m : Main) (u : List ℕ × Typing) →
      In u (map (λ (i : Instance). let u : List ℕ × Typing = (i.name, i.typing) in u) is ++ (codes "main", m.typing) ∷ []) →
      In u.1 (map (λ (i : Instance). i.typing) is ++ m.typing ∷ [])
  typing_in [] m u (inl e) = inl (ap (λ (u : List ℕ × Typing). u.1) e)
  typing_in [] m u (inr f) = absurd f
  typing_in (i ∷ is) m u (inl e) = inl (ap (λ (u : List ℕ × Typing). u.1) e)
  typing_in (i ∷ is) m u (inr h) = inr (typing_in is m u h)

  -- the names of the bodies of an instance differ
  bodies_apart : (u : List ℕ × Typing) → Stated u → Apart (map (λ (n : Bounds). n.name) u.1.bodies)
  bodies_apart u i =
      elim (In-cases u (map (λ (i : Instance). let u : List ℕ × Typing = (i.name, i.typing) in u) file.instances) ((codes "main", file.main.typing) ∷ []) i) [
        | inl h ↦ (
            let q = In-unmap (λ (i : Instance). let u : List ℕ × Typing = (i.name, i.typing) in u) u file.instances h in
            let at = In-at q.0 file.instances q.1 in
            subst (λ (u : List ℕ × Typing). Apart (map (λ (n : Bounds). n.name) u.1.bodies)) q.2 (range.instances at.0 q.0 at.2).typing.names)
        | inr h ↦ (elim h [
          | inl e ↦ subst (λ (u : List ℕ × Typing). Apart (map (λ (n : Bounds). n.name) u.1.bodies)) e range.main.typing.names
          | inr f ↦ absurd f
        ])
      ]

  -- the atoms of what is stated of a body are in range
  effect_named : (u : List ℕ × Typing) (n : Bounds) → Stated u → In n u.1.bodies → (a : Atom) → In a n.effect →
      atom_in (slice_get (map grant_of gs) a.grant) a.member ≡ named gs a ∷ []
  effect_named u n i j a h =
      let r = stated_range file range u.1 n (typing_in file.instances file.main u i) j in in_range a (r.3.atoms a h)

  -- a body of an instance, by both names
  of_body : (u : List ℕ × Typing) (n : Bounds) (t : AtomName) → Stated u → In n u.1.bodies →
      In t (authority_of (image_of file) (record { instance = u.0; body = n.name })) ↔ In t (atoms_named (map grant_of gs) n.effect)
  of_body u n t i j = (
    λ h. let call : Call = record { instance = u.0; body = n.name } in
        let r = from_file (map grant_of gs) t call file.instances file.main h in
        let same : r.0 ≡ u = one_stated r.0 u r.1 i r.2 in
        let q = from_bodies (map grant_of gs) t n.name u.1.bodies (subst (λ (u : List ℕ × Typing). In t (of_bodies (map grant_of gs) n.name u.1.bodies)) same r.3) in
        let one : q.0 ≡ n = one_of (λ (n : Bounds). n.name) u.1.bodies q.0 n (bodies_apart u i) q.1 j q.2 in
        subst (λ (n : Bounds). In t (atoms_named (map grant_of gs) n.effect)) one q.3,
    λ h. let call : Call = record { instance = u.0; body = n.name } in
        to_file (map grant_of gs) t call file.instances file.main u i refl (to_bodies (map grant_of gs) t n u.1.bodies j h),
  )

  -- a row of a body of the report is of what is stated of a body
  of_row_body : (u : List ℕ × Typing) → Stated u → (b : BodyRow) → In b (map (body_row (firsts_of gs)) u.1.bodies) → (t : AtomName) →
      In t (authority_of (image_of file) (record { instance = u.0; body = b.name })) ↔ In t (named_atoms (grant_atoms gs) b.set)
  of_row_body u i b j t =
      let q = In-unmap (body_row (firsts_of gs)) b u.1.bodies j in
      let one = of_body u q.0 t i q.1 in
      let two = same_names gs t q.0.effect (effect_named u q.0 i q.1) in
      subst (λ (b : BodyRow). In t (authority_of (image_of file) (record { instance = u.0; body = b.name })) ↔ In t (named_atoms (grant_atoms gs) b.set)) q.2
      ((λ h. two.0 (one.0 h)), (λ h. one.1 (two.1 h)))

  -- the report says of each body what its calls may do
  pub reported : IsReported file
  reported = λ r i b j t.
      let q = of_row file.instances file.main r i in
      subst (λ (r : InstanceRow). In b r.bodies → In t (authority_of (image_of file) (call_of r b)) ↔ In t (named_atoms (grant_atoms gs) b.set)) q.2
      (λ j. of_row_body q.0 q.1 b j t) j
