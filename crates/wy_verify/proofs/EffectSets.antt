-- Effects as sets of numbers.
use Rattle.std.proofs.Common.{◌⊎◌, ◌≡◌, ◌↔◌, ℕ, ◌+◌, ◌*◌, ◌<◌, Bool, true, false, ◌||◌, List, [], ◌∷◌, inl, inr, refl, sym, ap, ◌∙◌, subst, nat_eq, arith}
use Rattle.std.specs.Prelude.{IsTrue}
use Rattle.std.proofs.lemmas.Bool.{cases_lt, eq-eqb, eqb-true, or_cases}
use Rattle.wy_text.specs.Members.{In, Within}
use Rattle.wy_lanes.specs.Numbers.{with_number, is_in, AllIn}
use Rattle.wy_lanes.proofs.NumberLaws.{is_in-with_number}
use Rattle.wy_image.specs.declared.typing.Atom.{Atom}
use Rattle.wy_verify.specs.Effects.{atom_number, IsSmall, AreSmall, numbers_after, effect_numbers}

or_right : (p q : Bool) → q ≡ true → (p || q) ≡ true
or_right true q e = refl
or_right false q e = e

or_left : (p q : Bool) → p ≡ true → (p || q) ≡ true
or_left true q e = refl
or_left false q e = cc

-- what was in the set stays there
stays_in : (b : ℕ) (set : List ℕ) (rest : List Atom) → is_in b set ≡ true → is_in b (numbers_after set rest) ≡ true
stays_in b set [] h = h
stays_in b set (a ∷ rest) h =
    stays_in b (with_number (atom_number a) set) rest (is_in-with_number (atom_number a) b set ∙ or_right (nat_eq (atom_number a) b) (is_in b set) h)

-- each atom's number is there
comes_in : (a : Atom) (set : List ℕ) (rest : List Atom) → In a rest → is_in (atom_number a) (numbers_after set rest) ≡ true
comes_in a set [] h = absurd h
comes_in a set (x ∷ rest) (inl e) =
    stays_in (atom_number a) (with_number (atom_number x) set) rest (
    is_in-with_number (atom_number x) (atom_number a) set ∙
    or_left (nat_eq (atom_number x) (atom_number a)) (is_in (atom_number a) set) (eq-eqb (atom_number x) (atom_number a) (ap atom_number e)))
comes_in a set (x ∷ rest) (inr h) = comes_in a (with_number (atom_number x) set) rest h

-- .. and no other
came_from : (b : ℕ) (set : List ℕ) (rest : List Atom) → is_in b (numbers_after set rest) ≡ true → (is_in b set ≡ true) ⊎ ((a : Atom) × In a rest × (atom_number a ≡ b))
came_from b set [] h = inl h
came_from b set (a ∷ rest) h =
    elim (came_from b (with_number (atom_number a) set) rest h) [
      | inl e ↦ elim (or_cases (nat_eq (atom_number a) b) (is_in b set) (sym (is_in-with_number (atom_number a) b set) ∙ e)) [
        | inl f ↦ inr (a, inl refl, eqb-true (atom_number a) b f)
        | inr f ↦ inl f
      ]
      | inr r ↦ inr (r.0, inr r.1, r.2)
    ]

same_parts : (g h m n : ℕ) → m < 8 → n < 8 → 8 * g + m ≡ 8 * h + n → (g ≡ h) × (m ≡ n)
same_parts g h m n lm ln e =
    elim (cases_lt g h) [
      | inl lt ↦ absurd (omega arith)
      | inr le ↦ elim (cases_lt h g) [
        | inl lt ↦ absurd (omega arith)
        | inr ge ↦ (omega arith, omega arith)
      ]
    ]

-- small atoms of one number are one
same_atom : (a b : Atom) → IsSmall a → IsSmall b → atom_number a ≡ atom_number b → a ≡ b
same_atom a b s t e =
    let p = same_parts a.grant b.grant a.member b.member s.1 t.1 e in
    ap (λ (g : ℕ). let x : Atom = record { grant = g; member = a.member } in x) p.0 ∙ ap (λ (m : ℕ). let x : Atom = record { grant = b.grant; member = m } in x) p.1

-- one set is in the other where the atoms are
pub sets_within : (xs ys : List Atom) → AreSmall xs → AreSmall ys → AllIn (effect_numbers xs) (effect_numbers ys) ↔ Within xs ys
sets_within xs ys small_xs small_ys = (
  λ h a i. elim (came_from (atom_number a) [] ys (h (atom_number a) (comes_in a [] xs i))) [
    | inl e ↦ absurd (cc)
    | inr r ↦ (let P : Atom → Type 0 = λ x. In x ys in subst P (same_atom r.0 a (small_ys r.0 r.1) (small_xs a i) r.2) r.1)
  ],
  λ w n e. elim (came_from n [] xs e) [
    | inl f ↦ absurd (cc)
    | inr r ↦ (let P : ℕ → Type 0 = λ x. is_in x (effect_numbers ys) ≡ true in subst P r.2 (comes_in r.0 [] ys (w r.0 r.1)))
  ],
)

-- .. as the sets tell
pub within_sets : (t : Bool) (inner outer : List ℕ) (xs ys zs : List Atom) → inner ≡ effect_numbers xs → outer ≡ effect_numbers ys → AreSmall xs → AreSmall ys → ys ≡ zs →
    (IsTrue t ↔ AllIn inner outer) → (IsTrue t ↔ Within xs zs)
within_sets t inner outer xs ys zs e f small_xs small_ys same h =
    let w = sets_within xs ys small_xs small_ys in
    let P : List ℕ → Type 0 = λ s. AllIn s outer in
    let Q : List ℕ → Type 0 = λ s. AllIn (effect_numbers xs) s in
    let R : List Atom → Type 0 = λ l. Within xs l in (
      λ b. subst R same (w.0 (subst Q f (subst P e (h.0 b)))),
      λ i. h.1 (subst P (sym e) (subst Q (sym f) (w.1 (subst R (sym same) i)))),
    )
