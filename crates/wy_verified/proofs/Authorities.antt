-- What is stated of a body is in the authority of its calls.
use Rattle.std.proofs.Common.{◌≡◌, ℕ, zero, suc, Bool, true, false, List, [], ◌∷◌, inl, inr, refl, sym, ap, ◌∙◌, subst}
use Rattle.std.proofs.Common.{Some, Contains}
use Rattle.std.specs.Prelude.{slice_get, nat_eq, bytes_eq, if◌then◌else◌}
use Rattle.std.proofs.lemmas.Slice.Eq.{bytes_eq-Decides}
use Rattle.wy_text.specs.declared.fault.AtomName.{AtomName}
use Rattle.wy_code.specs.declared.code.Grant.{Grant}
use Rattle.wy_code.specs.declared.code.Instance.{Instance}
use Rattle.wy_code.specs.Machine.{all_instances, name_in}
use Rattle.wy_image.specs.declared.typing.Atom.{Atom}
use Rattle.wy_image.specs.declared.typing.Bounds.{Bounds}
use Rattle.wy_image.specs.declared.typing.Typing.{Typing}
use Rattle.wy_verified.specs.Images.{Image}
use Rattle.wy_meaning.specs.Bounds.{Call}
use Rattle.wy_verified.specs.Kinds.{In, stated_in, stated_by, stated}
use Rattle.wy_verified.specs.Laws.{atom_in, atoms_named, of_bodies, of_instances, authority_of}
use Rattle.wy_text.proofs.Lists.{In-left, In-right}
use Rattle.wy_verified.proofs.Lists.{some_same, In-contains}

same_bytes : (xs : List ℕ) → bytes_eq xs xs ≡ true
same_bytes xs = (bytes_eq-Decides xs xs).1 refl

picked : (c : Bool) (xs : List AtomName) (n : AtomName) → c ≡ true → In n xs → In n (if c then xs else [])
picked c xs n e h = subst (λ (c : Bool). In n (if c then xs else [])) (sym e) h

named_in : (grants : List Grant) (a : Atom) (n : AtomName) (atoms : List Atom) → In a atoms →
    In n (atom_in (slice_get grants a.grant) a.member) →
    In n (atoms_named grants atoms)
named_in grants a n [] h i = absurd h
named_in grants a n (b ∷ more) (inl e) i =
    In-left n (atom_in (slice_get grants b.grant) b.member) (atoms_named grants more)
    (subst (λ (b : Atom). In n (atom_in (slice_get grants b.grant) b.member)) (sym e) i)
named_in grants a n (b ∷ more) (inr h) i =
    In-right n (atom_in (slice_get grants b.grant) b.member) (atoms_named grants more) (named_in grants a n more h i)

body_in : (grants : List Grant) (n : AtomName) (b : ℕ) (bounds : Bounds) (bs : List Bounds) →
    stated_in b bs ≡ Some bounds → In n (atoms_named grants bounds.effect) →
    In n (of_bodies grants bounds.name bs)
body_in grants n b bounds [] e h = absurd cc
body_in grants n b bounds (s ∷ ss) e h = by_case (λ f. body_in grants n b bounds ss f h) (nat_eq s.body b) refl
  where
    by_case : (stated_in b ss ≡ Some bounds → In n (of_bodies grants bounds.name ss)) → (c : Bool) →
        nat_eq s.body b ≡ c → In n (of_bodies grants bounds.name (s ∷ ss))
    by_case later true f =
        let same : s ≡ bounds = some_same (sym (ap (λ c. if c then Some s else stated_in b ss) f) ∙ e) in
        In-left n (if bytes_eq s.name bounds.name then atoms_named grants s.effect else [])
        (of_bodies grants bounds.name ss)
        (subst (λ (s : Bounds). In n (if bytes_eq s.name bounds.name then atoms_named grants s.effect else []))
        (sym same)
        (picked (bytes_eq bounds.name bounds.name) (atoms_named grants bounds.effect) n (same_bytes bounds.name) h))
    by_case later false f =
        In-right n (if bytes_eq s.name bounds.name then atoms_named grants s.effect else [])
        (of_bodies grants bounds.name ss)
        (later (sym (ap (λ c. if c then Some s else stated_in b ss) f) ∙ e))

instance_in : (grants : List Grant) (n : AtomName) (b : ℕ) (bounds : Bounds) (is : List Instance) (ts : List Typing)
    (x : ℕ) (i : Instance) → slice_get is x ≡ Some i →
    stated_by (slice_get ts x) b ≡ Some bounds → In n (atoms_named grants bounds.effect) →
    In n (of_instances grants (record { instance = i.name; body = bounds.name }) is ts)
instance_in grants n b bounds [] ts x i e f h = absurd cc
instance_in grants n b bounds (j ∷ is) [] x i e f h = absurd cc
instance_in grants n b bounds (j ∷ is) (t ∷ ts) zero i e f h =
    let same : j ≡ i = some_same e in
    In-left n (if bytes_eq j.name i.name then of_bodies grants bounds.name t.bodies else [])
    (of_instances grants (record { instance = i.name; body = bounds.name }) is ts)
    (picked (bytes_eq j.name i.name) (of_bodies grants bounds.name t.bodies) n
    (ap (λ (j : Instance). bytes_eq j.name i.name) same ∙ same_bytes i.name)
    (body_in grants n b bounds t.bodies f h))
instance_in grants n b bounds (j ∷ is) (t ∷ ts) (suc x) i e f h =
    In-right n (if bytes_eq j.name i.name then of_bodies grants bounds.name t.bodies else [])
    (of_instances grants (record { instance = i.name; body = bounds.name }) is ts)
    (instance_in grants n b bounds is ts x i e f h)

pub allowed : (image : Image) (x : ℕ) (i : Instance) (b : ℕ) (bounds : Bounds) (name : List ℕ) (a : Atom)
    (n : AtomName) →
    slice_get (all_instances image.code) x ≡ Some i → stated image x b ≡ Some bounds → name ≡ bounds.name →
    In a bounds.effect →
    In n (atom_in (slice_get image.code.grants a.grant) a.member) →
    Contains (authority_of image (record { instance = name_in (slice_get (all_instances image.code) x); body = name }))
    n
allowed image x i b bounds name a n e f same h m =
    let call : List ℕ → List ℕ → Call = λ inst body. record { instance = inst; body = body } in
    subst (λ (inst : List ℕ). Contains (authority_of image (call inst name)) n) (sym (ap name_in e))
    (subst (λ (body : List ℕ). Contains (authority_of image (call i.name body)) n) (sym same)
    (In-contains n (authority_of image (call i.name bounds.name))
    (instance_in image.code.grants n b bounds (all_instances image.code) image.typings x i e f
    (named_in image.code.grants a n bounds.effect h m))))
