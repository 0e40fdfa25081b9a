-- The least atom that a method of the table's entries lacks.
use Rattle.std.proofs.Common.{◌≡◌, ℕ, suc, ◌+◌, ◌<◌, ◌≤◌, List, [], ◌∷◌, reverse, ◌⊎◌, inl, inr, length, refl, sym, ◌∙◌, subst, arith, Option, Some, None, Bool as Truth, true, false, add-zero, zero-add}
use Rattle.std.specs.Prelude.{◌↔◌, slice_get, nat_lt, if◌then◌else◌}
use Rattle.std.proofs.lemmas.Bool.Decides.{nat_tests}
use Rattle.std.proofs.lemmas.Option.{slice_get_within}
use Rattle.wy_effects.specs.declared.atom.Atom.{Atom}
use Rattle.wy_text.specs.Members.{In}
use Rattle.wy_effects.specs.EffSet.{IsSet, without}
use Rattle.wy_effects.proofs.Closure.{in_decided}
use Rattle.wy_effects.proofs.SetLaws.{cases_equal, IsSetFrom-without, at_least, without-from, In-without}
use Rattle.wy_effects.specs.Bounds.{IsUnder, GoDown, IsWidened}
use Rattle.wy_effects.proofs.Widening.{widened_is}
use Rattle.wy_types.specs.declared.types.TypeRef.{TypeRef}
use Rattle.wy_types.specs.declared.path.Step.{Step}
use Rattle.wy_types.specs.Program.{Program}
use Rattle.wy_types.specs.Signature.{Signature}
use Rattle.wy_types.specs.Types.{methods_of}
use Rattle.wy_types.specs.Paths.{is_positive, Walks, IsSafe}
use Rattle.wy_types.specs.Bounds.{bounds_of}
use Rattle.wy_bounds.specs.declared.entry.Entry.{Entry}
use Rattle.wy_bounds.specs.declared.least.Lack.{Lack}
use Rattle.wy_bounds.specs.declared.safety.Safety.{Safety}
use Rattle.wy_bounds.specs.declared.safety.Safety.TheVariants.{Yes, No}
use Rattle.wy_bounds.specs.Gathering.{wide_of, methods_at, first_atom, lesser, lack_of_methods, lack_of_entries}
use Rattle.wy_bounds.specs.Safety.{IsMissing, Refutes, IsAnswer, IsYes}
use Rattle.wy_bounds.specs.Worklist.{IsWhole, Traces}
use Rattle.wy_bounds.proofs.Unions.{methods_at-from, In-methods_at, entry_of}
use Rattle.wy_bounds.proofs.Working.{traces_lead}

-- the set has the atom, and a method's widened effect lacks it
abbrev LacksAny : (List ℕ → List ℕ) → List ℕ → List (Signature TypeRef) → ℕ → Type 0
LacksAny wide set ms a = In a set × ((m : Signature TypeRef) × In m ms × (In a (wide m.effect) → ⊥))

-- the least atom of those that are lacking at a place, where any is
IsLess : (ℕ → ℕ → Type 0) → Option Lack → Type 0
IsLess P None = (k a : ℕ) → P k a → ⊥
IsLess P (Some l) = P l.at l.atom.0 × ((k a : ℕ) → P k a → l.atom.0 ≤ a)

IsLess-same : (P Q : ℕ → ℕ → Type 0) (o : Option Lack) → ((k a : ℕ) → P k a → Q k a) → ((k a : ℕ) → Q k a → P k a) → IsLess P o → IsLess Q o
unfolding IsLess
IsLess-same P Q None f g h = λ k a q. h k a (g k a q)
IsLess-same P Q (Some l) f g h = (f l.at l.atom.0 h.0, λ k a q. h.1 k a (g k a q))

-- the least atom of a set that is not in another
IsFirst : (ℕ → Type 0) → Option Atom → Type 0
IsFirst Q None = (a : ℕ) → Q a → ⊥
IsFirst Q (Some x) = Q x.0 × ((a : ℕ) → Q a → x.0 ≤ a)

first_of : (n : ℕ) (xs : List ℕ) → IsSet n xs → IsFirst (λ a. In a xs) (first_atom xs)
unfolding IsFirst
first_of n [] s = λ a i. i
first_of n (x ∷ xs) s = (inl refl, λ a i. elim i [ inl e ↦ omega (arith, e) | inr j ↦ (let h : x + 1 ≤ a = at_least (x + 1) n xs a s.2 j in omega arith) ])

first_lacking : (n : ℕ) (set effect : List ℕ) → IsSet n set → IsFirst (λ a. In a set × (In a effect → ⊥)) (first_atom (without set effect))
unfolding IsFirst
first_lacking n set effect s =
    turn (first_atom (without set effect)) (first_of n (without set effect) (IsSetFrom-without 0 n set effect s))
  where
    turn : (o : Option Atom) → IsFirst (λ a. In a (without set effect)) o → IsFirst (λ a. In a set × (In a effect → ⊥)) o
    turn None h = λ a q. h a (In-without a set effect q.0 q.1)
    turn (Some x) h = (without-from x.0 set effect h.0, λ a q. h.1 a (In-without a set effect q.0 q.1))

lesser_is : (P : ℕ → ℕ → Type 0) (Q : ℕ → Type 0) (lack : Option Lack) (o : Option Atom) (at : ℕ) → IsLess P lack → IsFirst Q o → IsLess (λ k a. P k a ⊎ ((k ≡ at) × Q a)) (lesser lack o at)
unfolding IsLess IsFirst
lesser_is P Q None None at h g = λ k a q. elim q [ inl x ↦ h k a x | inr x ↦ g a x.1 ]
lesser_is P Q (Some l) None at h g = (inl h.0, λ k a q. elim q [ inl x ↦ h.1 k a x | inr x ↦ absurd (g a x.1) ])
lesser_is P Q None (Some x) at h g = (inr (refl, g.0), λ k a q. elim q [ inl y ↦ absurd (h k a y) | inr y ↦ g.1 a y.1 ])
lesser_is P Q (Some l) (Some x) at h g =
    elim (nat_lt x.0 l.atom.0) as (λ b. nat_lt x.0 l.atom.0 ≡ b → IsLess (λ k a. P k a ⊎ ((k ≡ at) × Q a)) (if b then Some (record { atom = x; at = at }) else Some l)) [
      | true ↦ λ t. (
        inr (refl, g.0),
        λ k a q. elim q [
          | inl y ↦ (let u = h.1 k a y in let v : x.0 < l.atom.0 = grind (arith, nat_tests) in omega arith)
          | inr y ↦ g.1 a y.1
        ],
      )
      | false ↦ λ t. (
        inl h.0,
        λ k a q. elim q [
          | inl y ↦ h.1 k a y
          | inr y ↦ (let u = g.1 a y.1 in let v : l.atom.0 ≤ x.0 = grind (arith, nat_tests) in omega arith)
        ],
      )
    ] refl

lack_of_methods_is : (wide : List ℕ → List ℕ) (n : ℕ) (set : List ℕ) → IsSet n set → (at : ℕ) (ms : List (Signature TypeRef)) (P : ℕ → ℕ → Type 0) (lack : Option Lack) → IsLess P lack →
    IsLess (λ k a. P k a ⊎ ((k ≡ at) × LacksAny wide set ms a)) (lack_of_methods wide set at ms lack)
lack_of_methods_is wide n set s at [] P lack h =
    IsLess-same P (λ k a. P k a ⊎ ((k ≡ at) × LacksAny wide set [] a)) lack (λ k a q. inl q) (λ k a q. elim q [ inl x ↦ x | inr x ↦ absurd x.1.1.1 ]) h
lack_of_methods_is wide n set s at (m ∷ ms) P lack h =
    let Q : ℕ → Type 0 = λ a. In a set × (In a (wide m.effect) → ⊥) in
    let P' : ℕ → ℕ → Type 0 = λ k a. P k a ⊎ ((k ≡ at) × Q a) in
    let one : IsLess P' (lesser lack (first_atom (without set (wide m.effect))) at) = lesser_is P Q lack (first_atom (without set (wide m.effect))) at h (first_lacking n set (wide m.effect) s) in
    let rest = lack_of_methods_is wide n set s at ms P' (lesser lack (first_atom (without set (wide m.effect))) at) one in
    IsLess-same (λ k a. P' k a ⊎ ((k ≡ at) × LacksAny wide set ms a)) (λ k a. P k a ⊎ ((k ≡ at) × LacksAny wide set (m ∷ ms) a)) _
    (λ k a q. elim q [
      | inl x ↦ elim x [ inl y ↦ inl y | inr y ↦ inr (y.0, (y.1.0, (m, inl refl, y.1.1))) ]
      | inr x ↦ inr (x.0, (x.1.0, (x.1.1.0, inr x.1.1.1, x.1.1.2)))
    ])
    (λ k a q. elim q [
      | inl x ↦ inl (inl x)
      | inr x ↦ elim x.1.1.1 [
        | inl e ↦ (let R : Signature TypeRef → Type 0 = λ v. In a (wide v.effect) → ⊥ in inl (inr (x.0, (x.1.0, subst R (sym e) x.1.1.2))))
        | inr i ↦ inr (x.0, (x.1.0, (x.1.1.0, i, x.1.1.2)))
      ]
    ])
    rest

module _ (p : Program) (scope : ℕ) (positive : Truth) (set : List ℕ) where
  -- the entry at a place, counted from another, has a method that lacks the atom
  LackAt : ℕ → List Entry → ℕ → ℕ → Type 0
  LackAt from [] k a = ⊥
  LackAt from (e ∷ es) k a = ((k ≡ from) × LacksAny (wide_of p scope) set (methods_at p scope positive e) a) ⊎ LackAt (from + 1) es k a

  lack_of_entries_is : (n : ℕ) → IsSet n set → (from : ℕ) (es : List Entry) (P : ℕ → ℕ → Type 0) (lack : Option Lack) → IsLess P lack →
      IsLess (λ k a. P k a ⊎ LackAt from es k a) (lack_of_entries p scope positive set from es lack)
  unfolding LackAt
  lack_of_entries_is n s from [] P lack h = IsLess-same P (λ k a. P k a ⊎ LackAt from [] k a) lack (λ k a q. inl q) (λ k a q. elim q [ inl x ↦ x | inr x ↦ absurd x ]) h
  lack_of_entries_is n s from (e ∷ es) P lack h =
      let P' : ℕ → ℕ → Type 0 = λ k a. P k a ⊎ ((k ≡ from) × LacksAny (wide_of p scope) set (methods_at p scope positive e) a) in
      let one : IsLess P' (lack_of_methods (wide_of p scope) set from (methods_at p scope positive e) lack) = lack_of_methods_is (wide_of p scope) n set s from (methods_at p scope positive e) P lack h in
      let rest = lack_of_entries_is n s (from + 1) es P' (lack_of_methods (wide_of p scope) set from (methods_at p scope positive e) lack) one in
      IsLess-same (λ k a. P' k a ⊎ LackAt (from + 1) es k a) (λ k a. P k a ⊎ LackAt from (e ∷ es) k a) _
      (λ k a q. elim q [ inl x ↦ elim x [ inl y ↦ inl y | inr y ↦ inr (inl y) ] | inr x ↦ inr (inr x) ])
      (λ k a q. elim q [ inl x ↦ inl (inl x) | inr x ↦ elim x [ inl y ↦ inl (inr y) | inr y ↦ inr y ] ])
      rest

  LackAt-from : (from : ℕ) (es : List Entry) (k a : ℕ) → LackAt from es k a → (i : ℕ) × (k ≡ from + i) × (e : Entry) × (slice_get es i ≡ Some e) × LacksAny (wide_of p scope) set (methods_at p scope positive e) a
  unfolding LackAt
  LackAt-from from [] k a h = absurd h
  LackAt-from from (e ∷ es) k a (inl h) = (0, h.0 ∙ sym (add-zero from), e, refl, h.1)
  LackAt-from from (e ∷ es) k a (inr h) =
      let r = LackAt-from (from + 1) es k a h in
      (suc r.0, (let q : k ≡ from + 1 + r.0 = r.1 in omega (arith, q)), r.2, r.3, r.4)

  LackAt-at : (from : ℕ) (es : List Entry) (e : Entry) (a : ℕ) → In e es → LacksAny (wide_of p scope) set (methods_at p scope positive e) a → (k : ℕ) × LackAt from es k a
  unfolding LackAt
  LackAt-at from [] e a i h = absurd i
  LackAt-at from (x ∷ es) e a (inl s) h = (let P : Entry → Type 0 = λ v. LacksAny (wide_of p scope) set (methods_at p scope positive v) a in (from, inl (refl, subst P (sym s) h)))
  LackAt-at from (x ∷ es) e a (inr i) h = (let r = LackAt-at (from + 1) es e a i h in (r.0, inr r.1))

  module _ (down : GoDown (bounds_of p scope)) (t : TypeRef) (es : List Entry) (whole : IsWhole p scope t es) where
    -- what is within an effect is in the widened one
    widened_at : (effect : List ℕ) → IsWidened (bounds_of p scope) effect (wide_of p scope effect)
    widened_at effect = widened_is (bounds_of p scope) down effect

    -- what is missing is lacking at an entry
    lacking_entry : (a : ℕ) → IsMissing p scope t positive set a → (k : ℕ) × LackAt 0 es k a
    lacking_entry a h =
        let r = h.1 in
        let e = entry_of p scope positive t es whole r.0 r.1 in
        let P : TypeRef → Type 0 = λ v. In r.2.0 (methods_of p scope v) in
        LackAt-at 0 es e.0 a e.1 (h.0, (r.2.0, In-methods_at p scope positive e.0 r.2.0 e.3 (subst P (sym e.2) r.2.1), λ i. r.2.2 ((widened_at r.2.0.effect a).0 i)))

    least_is : IsSet 512 set → IsLess (λ k a. LackAt 0 es k a) (lack_of_entries p scope positive set 0 es None)
    unfolding IsLess
    least_is s =
        let none : IsLess (λ k a. ⊥) None = λ k a h. h in
        IsLess-same (λ k a. ⊥ ⊎ LackAt 0 es k a) (λ k a. LackAt 0 es k a) _ (λ k a q. elim q [ inl x ↦ absurd x | inr x ↦ x ]) (λ k a q. inr q)
        (lack_of_entries_is 512 s 0 es (λ k a. ⊥) None none)

    -- where nothing is lacking the type is safe
    pub none_lacking : IsSet 512 set → None ≡ lack_of_entries p scope positive set 0 es None → IsSafe TypeRef (methods_of p scope) (IsUnder (bounds_of p scope)) t positive set
    unfolding IsLess
    none_lacking s eq u r m i a j =
        let P : Option Lack → Type 0 = λ o. IsLess (λ k a. LackAt 0 es k a) o in
        let nothing : IsLess (λ k a. LackAt 0 es k a) None = subst P (sym eq) (least_is s) in
        elim (in_decided cases_equal a (wide_of p scope m.effect)) [
          | inl there ↦ (widened_at m.effect a).0 there
          | inr absent ↦ (let q = lacking_entry a (j, (u, r, (m, i, λ h. absent ((widened_at m.effect a).1 h)))) in absurd (nothing q.0 a q.1))
        ]

    -- the entry where the least atom is lacking
    lack_at : (l : Lack) → IsSet 512 set → Some l ≡ lack_of_entries p scope positive set 0 es None →
        ((e : Entry) × (slice_get es l.at ≡ Some e) × LacksAny (wide_of p scope) set (methods_at p scope positive e) l.atom.0) × ((k a : ℕ) → LackAt 0 es k a → l.atom.0 ≤ a)
    unfolding IsLess
    lack_at l s eq =
        let P : Option Lack → Type 0 = λ o. IsLess (λ k a. LackAt 0 es k a) o in
        let here : IsLess (λ k a. LackAt 0 es k a) (Some l) = subst P (sym eq) (least_is s) in
        let r = LackAt-from 0 es l.at l.atom.0 here.0 in
        let at : l.at ≡ r.0 = r.1 ∙ zero-add r.0 in
        let Q : ℕ → Type 0 = λ k. slice_get es k ≡ Some r.2 in
        ((r.2, subst Q (sym at) r.3, r.4), here.1)

    pub lack_within : (l : Lack) → IsSet 512 set → Some l ≡ lack_of_entries p scope positive set 0 es None → l.at < length es
    lack_within l s eq = let r = lack_at l s eq in slice_get_within es l.at r.0.0 r.0.1

    -- a path to it refutes that the type is safe
    pub some_lacking : (l : Lack) → IsSet 512 set → Some l ≡ lack_of_entries p scope positive set 0 es None → (steps path : List Step) → Traces es l.at steps → path ≡ reverse steps → Refutes p scope t positive set path l.atom.0
    some_lacking l s eq steps path tr back =
        let r = lack_at l s eq in
        let e : Entry = r.0.0 in
        let lacks = r.0.2 in
        let m = lacks.1.0 in
        let q = methods_at-from p scope positive e m lacks.1.1 in
        let lead = traces_lead p scope t es whole.seen whole.begins steps l.at e r.0.1 tr in
        let P : List Step → Type 0 = λ v. Walks TypeRef (methods_of p scope) t v e.typ in
        let Q : List Step → Type 0 = λ v. is_positive v ≡ positive in
        record {
          among = lacks.0;
          at = e.typ;
          walks = subst P (sym back) lead.0;
          polarity = subst Q (sym back) (lead.1 ∙ q.0);
          lacks = (m, q.1, λ h. lacks.1.2 ((widened_at m.effect l.atom.0).1 h));
          least = λ b h. (let k = lacking_entry b h in r.1 k.0 b k.1);
        }

-- an answer is exact
pub exact : (p : Program) (scope : ℕ) (t : TypeRef) (positive : Truth) (set : List ℕ) (v : Safety) → IsAnswer p scope t positive set v → IsYes v ↔ IsSafe TypeRef (methods_of p scope) (IsUnder (bounds_of p scope)) t positive set
exact p scope t positive set Yes h = (λ _. h, λ _. tt)
exact p scope t positive set (No path atom) h = (
  λ f. absurd f,
  λ safe. h.lacks.2 (safe h.at (path, h.walks, h.polarity) h.lacks.0 h.lacks.1 atom.0 h.among),
)
