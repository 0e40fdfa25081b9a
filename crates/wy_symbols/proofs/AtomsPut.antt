-- What a table of atoms does is what the definition of a scope's atoms says.
use Rattle.std.proofs.Common.{◌≡◌, ℕ, zero, suc, ◌+◌, List, [], ◌∷◌, ◌++◌, Bool, true, false, refl, sym, ap, ◌∙◌, subst, inl, inr, ◌⊎◌, if◌then◌else◌, Ok, Err, Result, Some, arith, append_assoc}
use Rattle.std.specs.Prelude.{◌&&◌, slice_get, OnOk}
use Rattle.std.proofs.lemmas.List.{append-nil}
use Rattle.wy_text.specs.declared.fault.AtomName.{AtomName}
use Rattle.wy_text.specs.Members.{In, Apart}
use Rattle.wy_effects.specs.AtomTable.{Inserts}
use Rattle.wy_effects.specs.declared.atom.Atom.{Atom}
use Rattle.wy_effects.specs.declared.atom.TableRefusal.{TableRefusal}
use Rattle.wy_text.proofs.Lists.{In-slice_get}
use Rattle.wy_symbols.specs.Declarations.{same_name}
use Rattle.wy_symbols.specs.Atoms.{same_atom, has_atom, with_atom, with_members, atom_of, atom_number}
use Rattle.wy_symbols.proofs.Firsts.{same_exact, same_itself}

both_true : (a b : Bool) → a ≡ true → b ≡ true → a && b ≡ true
both_true a b h g = ap (λ x. x && b) h ∙ g

itself : (a : AtomName) → same_atom a a ≡ true
itself a = both_true (same_name a.owner a.owner) (same_name a.member a.member) (same_itself a.owner) (same_itself a.member)

first_true : (a b : Bool) → a && b ≡ true → a ≡ true
first_true true b h = refl
first_true false b h = cc

second_true : (a b : Bool) → a && b ≡ true → b ≡ true
second_true true b h = h
second_true false b h = cc

named : List ℕ → List ℕ → AtomName
named o m = record { owner = o; member = m }

exact : (a b : AtomName) → same_atom a b ≡ true → a ≡ b
unfolding named
exact a b h =
    let o : b.owner ≡ a.owner = same_exact a.owner b.owner (first_true (same_name a.owner b.owner) (same_name a.member b.member) h) in
    let m : b.member ≡ a.member = same_exact a.member b.member (second_true (same_name a.owner b.owner) (same_name a.member b.member) h) in
    ap (λ x. named x a.member) (sym o) ∙ ap (λ x. named b.owner x) (sym m)

there : (all : List AtomName) (a : AtomName) → In a all → has_atom all a ≡ true
there [] a i = absurd i
there (b ∷ bs) a (inl e) =
    let P : AtomName → Type 0 = λ x. (if same_atom x a then true else has_atom bs a) ≡ true in
    subst P (sym e) (ap (λ c. if c then true else has_atom bs a) (itself a))
there (b ∷ bs) a (inr i) =
    let P : Bool → Type 0 = λ c. (if c then true else has_atom bs a) ≡ true in
    elim (same_atom b a) as P [ true ↦ refl | false ↦ there bs a i ]

absent : (all : List AtomName) (a : AtomName) → (In a all → ⊥) → has_atom all a ≡ false
absent [] a h = refl
absent (b ∷ bs) a h =
    let P : Bool → Type 0 = λ c. same_atom b a ≡ c → (if c then true else has_atom bs a) ≡ false in
    (elim (same_atom b a) as P [ true ↦ λ e. absurd (h (inl (exact b a e))) | false ↦ λ e. absent bs a (λ i. h (inr i)) ]) refl

pub put_is : (old new : List AtomName) (a : AtomName) (k : Atom) → Inserts old a new (Ok k) → new ≡ with_atom old a
put_is old new a k (at, inl e) =
    let P : List AtomName → Type 0 = λ l. In a l in
    let i : In a old = subst P e (In-slice_get new k.0 a at) in
    e ∙ sym (ap (λ c. if c then old else old ++ a ∷ []) (there old a i))
put_is old new a k (at, inr h) = h.1 ∙ sym (ap (λ c. if c then old else old ++ a ∷ []) (absent old a h.0))

pub named_there : (old new : List AtomName) (a : AtomName) (k : Atom) → Inserts old a new (Ok k) → slice_get new k.0 ≡ Some a
named_there old new a k h = h.0

in_with : (xs : List AtomName) (a b : AtomName) → In b (xs ++ a ∷ []) → In b xs ⊎ (a ≡ b)
in_with [] a b (inl e) = inr e
in_with [] a b (inr i) = elim i [ ]
in_with (x ∷ xs) a b (inl e) = inl (inl e)
in_with (x ∷ xs) a b (inr i) = elim (in_with xs a b i) [ inl j ↦ inl (inr j) | inr e ↦ inr e ]

apart_append : (xs : List AtomName) (a : AtomName) → Apart xs → has_atom xs a ≡ false → Apart (xs ++ a ∷ [])
apart_append [] a h n = ((λ i. absurd i), tt)
apart_append (x ∷ xs) a h n =
    let P : Bool → Type 0 = λ b. same_atom x a ≡ b → (if b then true else has_atom xs a) ≡ false → Apart ((x ∷ xs) ++ a ∷ []) in
    (elim (same_atom x a) as P [
      | true ↦ λ e m. cc
      | false ↦ λ e m. (
        (λ i. elim (in_with xs a x i) [
          | inl j ↦ h.0 j
          | inr s ↦ (let Q : AtomName → Type 0 = λ y. same_atom x y ≡ true in let yes = subst Q (sym s) (itself x) in cc)
        ]),
        apart_append xs a h.1 m,
      )
    ]) refl n

-- atoms stay apart
pub apart_with : (xs : List AtomName) (a : AtomName) → Apart xs → Apart (with_atom xs a)
apart_with xs a h =
    let P : Bool → Type 0 = λ b. has_atom xs a ≡ b → Apart (if b then xs else xs ++ a ∷ []) in
    (elim (has_atom xs a) as P [ true ↦ λ e. h | false ↦ λ e. apart_append xs a h e ]) refl

pub apart_members : (xs : List AtomName) (o : List ℕ) (ms : List (List ℕ)) → Apart xs → Apart (with_members xs o ms)
apart_members xs o [] h = h
apart_members xs o (m ∷ ms) h = apart_members (with_atom xs (atom_of o m)) o ms (apart_with xs (atom_of o m) h)

-- more atoms come behind
pub grown : (xs : List AtomName) (a : AtomName) → (rest : List AtomName) × (with_atom xs a ≡ xs ++ rest)
grown xs a =
    let P : Bool → Type 0 = λ b. (rest : List AtomName) × ((if b then xs else xs ++ a ∷ []) ≡ xs ++ rest) in
    elim (has_atom xs a) as P [ true ↦ ([], sym (append-nil xs)) | false ↦ (a ∷ [], refl) ]

pub grown_members : (xs : List AtomName) (o : List ℕ) (ms : List (List ℕ)) → (rest : List AtomName) × (with_members xs o ms ≡ xs ++ rest)
grown_members xs o [] = ([], sym (append-nil xs))
grown_members xs o (m ∷ ms) =
    let g = grown xs (atom_of o m) in
    let h = grown_members (with_atom xs (atom_of o m)) o ms in
    (g.0 ++ h.0, h.1 ∙ ap (λ l. l ++ h.0) g.1 ∙ append_assoc xs g.0 h.0)

-- an atom's number is its place
pub number_is : (xs more : List AtomName) (a : AtomName) (n : ℕ) → Apart xs → slice_get xs n ≡ Some a → atom_number (xs ++ more) a ≡ n
number_is [] more a n h at = cc
number_is (x ∷ xs) more a zero h at =
    let e : x ≡ a = cc in
    let P : AtomName → Type 0 = λ y. (if same_atom x y then 0 else atom_number (xs ++ more) y + 1) ≡ 0 in
    subst P e (ap (λ b. if b then 0 else atom_number (xs ++ more) x + 1) (itself x))
number_is (x ∷ xs) more a (suc n) h at =
    let P : Bool → Type 0 = λ b. same_atom x a ≡ b → (if b then 0 else atom_number (xs ++ more) a + 1) ≡ suc n in
    let step : n + 1 ≡ suc n = omega arith in
    (elim (same_atom x a) as P [
      | true ↦ λ e. (let Q : AtomName → Type 0 = λ y. In y xs in absurd (h.0 (subst Q (sym (exact x a e)) (In-slice_get xs n a at))))
      | false ↦ λ e. ap (λ k. k + 1) (number_is xs more a n h.1 at) ∙ step
    ]) refl

-- what a table answers about a name that is put in
pub put_on : (old new : List AtomName) (a : AtomName) (r : Result Atom TableRefusal) → Inserts old a new r → OnOk r (new ≡ with_atom old a)
put_on old new a (Ok k) h = put_is old new a k h
put_on old new a (Err e) h = tt
