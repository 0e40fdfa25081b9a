-- The members of a declared type and what a module defines stand for sets, and the upper bounds of members are sets of those before them.
use Rattle.std.proofs.Common.{◌≡◌, ℕ, ◌+◌, ◌≤◌, List, [], ◌∷◌, ◌++◌, length, Bool as Truth, Some, true, false, inl, inr, refl, sym, ap, ◌∙◌, subst, arith}
use Rattle.std.specs.Prelude.{if◌then◌else◌}
use Rattle.std.proofs.lemmas.List.{length-append, append-nil}
use Rattle.wy_text.specs.declared.fault.AtomName.{AtomName}
use Rattle.wy_syntax.specs.declared.items.Define.{Define}
use Rattle.wy_syntax.specs.declared.items.Member.{Member}
use Rattle.wy_syntax.specs.declared.items.Member.TheVariants.{Abstract, Bounded, Defined, Method}
use Rattle.wy_effects.specs.EffSet.{IsSet}
use Rattle.wy_effects.specs.Bounds.{Bounds}
use Rattle.wy_text.proofs.Lists.{In-cases}
use Rattle.wy_symbols.specs.declared.scoping.Head.{Head}
use Rattle.wy_symbols.specs.declared.scoping.Meaning.{Meaning}
use Rattle.wy_symbols.specs.declared.scoping.Owner.{Owner}
use Rattle.wy_symbols.specs.Meanings.{abstract_names, abstract_bounds}
use Rattle.wy_symbols.specs.Atoms.{members_after, member_scope, abstract_member, bounded_member, defined_member, set_of, atom_scope}
use Rattle.wy_heads.specs.Counts.{abstract_count}
use Rattle.wy_heads.specs.ScopeHeads.{definitions_after}
use Rattle.wy_well_formed.proofs.Sets.{AllOpen, AreMeant, Holds, set_below}
use Rattle.wy_well_formed.proofs.BoundLists.{IsSet-wider, BoundsFrom, bounds_both}

pub none_meant : (n : ℕ) → AreMeant n []
none_meant n = record { set = λ m i. absurd i }

meant_push : (n : ℕ) (ms : List Meaning) (m : Meaning) → AreMeant n ms → IsSet n m.atoms → AreMeant n (ms ++ m ∷ [])
meant_push n ms m h s = record {
  set = λ k i. elim (In-cases k ms (m ∷ []) i) [
    | inl j ↦ h.set k j
    | inr j ↦ elim j [ inl e ↦ (let P : Meaning → Type 0 = λ v. IsSet n v.atoms in subst P e s) | inr l ↦ absurd l ]
  ];
}

-- a set among members sees no owner
members_hold : (n : ℕ) (before : List Meaning) → AreMeant n before → Holds n (member_scope before)
members_hold n before h = record { owners = record { opens = λ o i. absurd i }; meanings = h }

-- members stand for sets of the abstract ones
pub members_meant : (n : ℕ) (before : List Meaning) (k : ℕ) (ms : List Member) → AreMeant n before → k + abstract_count ms ≤ n → AreMeant n (members_after before k ms)
members_meant n before k [] h le = h
members_meant n before k (Abstract x ∷ ms) h le =
    members_meant n (before ++ abstract_member x.text k ∷ []) (k + 1) ms (meant_push n before (abstract_member x.text k) h (omega arith, omega arith, tt)) (omega arith)
members_meant n before k (Bounded x set ∷ ms) h le =
    let m = bounded_member x.text k (set_of (member_scope before) set) in
    members_meant n (before ++ m ∷ []) (k + 1) ms (meant_push n before m h (omega arith, omega arith, tt)) (omega arith)
members_meant n before k (Defined x set ∷ ms) h le =
    let s = set_of (member_scope before) set in
    members_meant n (before ++ defined_member x.text s ∷ []) k ms
    (meant_push n before (defined_member x.text s) h (set_below n (member_scope before) (members_hold n before h) set)) le
members_meant n before k (Method g ∷ ms) h le = members_meant n before k ms h le

------------------------------------------------------------
-- Upper bounds

bounds-append : (xs ys : List Meaning) → abstract_bounds (xs ++ ys) ≡ abstract_bounds xs ++ abstract_bounds ys
bounds-append [] ys = refl
bounds-append (x ∷ xs) ys =
    let P : Truth → Type 0 = λ b.
    (if b then x.bound ∷ abstract_bounds (xs ++ ys) else abstract_bounds (xs ++ ys)) ≡ (if b then x.bound ∷ abstract_bounds xs else abstract_bounds xs) ++ abstract_bounds ys in
    elim (x.is_abstract) as P [ true ↦ ap (λ (l : Bounds). x.bound ∷ l) (bounds-append xs ys) | false ↦ bounds-append xs ys ]

-- one bound for each abstract member
pub length_bounds : (ms : List Meaning) → length (abstract_bounds ms) ≡ length (abstract_names ms)
length_bounds [] = refl
length_bounds (m ∷ ms) =
    let more = length_bounds ms in
    let P : Truth → Type 0 = λ b. length (if b then m.bound ∷ abstract_bounds ms else abstract_bounds ms) ≡ length (if b then m.name ∷ abstract_names ms else abstract_names ms) in
    elim (m.is_abstract) as P [ true ↦ omega (arith, more) | false ↦ more ]

-- members of which `k` are abstract stand for sets of these, and have sets of those before them as bounds
record AreBounded (k : ℕ) (ms : List Meaning) : Type 0 where
  meant : AreMeant k ms
  count : length (abstract_bounds ms) ≡ k
  bounds : BoundsFrom 0 (abstract_bounds ms)

none_bounded : AreBounded 0 []
none_bounded = record { meant = none_meant 0; count = refl; bounds = tt }

meant_wider : (n : ℕ) (ms : List Meaning) → AreMeant n ms → AreMeant (n + 1) ms
meant_wider n ms h = record { set = λ m i. IsSet-wider n (n + 1) m.atoms (omega arith) (h.set m i) }

-- one more abstract member
bounded_push : (k : ℕ) (before : List Meaning) (m : Meaning) → m.is_abstract ≡ true → IsSet (k + 1) m.atoms → ((s : List ℕ) → m.bound ≡ Some s → IsSet k s) →
    AreBounded k before → AreBounded (k + 1) (before ++ m ∷ [])
bounded_push k before m real atoms bound h =
    let one : abstract_bounds (m ∷ []) ≡ m.bound ∷ [] = ap (λ (b : Truth). if b then m.bound ∷ [] else []) real in
    let all : abstract_bounds (before ++ m ∷ []) ≡ abstract_bounds before ++ m.bound ∷ [] = bounds-append before (m ∷ []) ∙ ap (λ l. abstract_bounds before ++ l) one in
    let l = ap (λ (l : Bounds). length l) all in
    let a = length-append (abstract_bounds before) (m.bound ∷ []) in
    let c = h.count in
    let P : ℕ → Type 0 = λ n. BoundsFrom n (m.bound ∷ []) in
    let Q : Bounds → Type 0 = λ bs. BoundsFrom 0 bs in
    let here : k ≡ 0 + length (abstract_bounds before) = omega (arith, c) in
    record {
      meant = meant_push (k + 1) before m (meant_wider k before h.meant) atoms;
      count = omega (arith, l, a, c);
      bounds = subst Q (sym all) (bounds_both 0 (abstract_bounds before) (m.bound ∷ []) h.bounds (subst P here (bound, tt)));
    }

-- one more defined member
defined_push : (k : ℕ) (before : List Meaning) (m : Meaning) → m.is_abstract ≡ false → IsSet k m.atoms → AreBounded k before → AreBounded k (before ++ m ∷ [])
defined_push k before m real atoms h =
    let one : abstract_bounds (m ∷ []) ≡ [] = ap (λ (b : Truth). if b then m.bound ∷ [] else []) real in
    let all : abstract_bounds (before ++ m ∷ []) ≡ abstract_bounds before =
    bounds-append before (m ∷ []) ∙ ap (λ l. abstract_bounds before ++ l) one ∙ append-nil (abstract_bounds before) in
    record {
      meant = meant_push k before m h.meant atoms;
      count = ap (λ (l : Bounds). length l) all ∙ h.count;
      bounds = subst (λ (bs : Bounds). BoundsFrom 0 bs) (sym all) h.bounds;
    }

members_bounded : (before : List Meaning) (k : ℕ) (ms : List Member) → AreBounded k before → BoundsFrom 0 (abstract_bounds (members_after before k ms))
members_bounded before k [] h = h.bounds
members_bounded before k (Abstract x ∷ ms) h =
    let m = abstract_member x.text k in
    members_bounded (before ++ m ∷ []) (k + 1) ms (bounded_push k before m refl (omega arith, omega arith, tt) (λ s e. absurd (cc)) h)
members_bounded before k (Bounded x set ∷ ms) h =
    let s = set_of (member_scope before) set in
    let below = set_below k (member_scope before) (members_hold k before h.meant) set in
    let m = bounded_member x.text k s in
    members_bounded (before ++ m ∷ []) (k + 1) ms
    (bounded_push k before m refl (omega arith, omega arith, tt) (λ t e. (let same : s ≡ t = cc in subst (λ v. IsSet k v) same below)) h)
members_bounded before k (Defined x set ∷ ms) h =
    let s = set_of (member_scope before) set in
    let m = defined_member x.text s in
    members_bounded (before ++ m ∷ []) k ms (defined_push k before m refl (set_below k (member_scope before) (members_hold k before h.meant) set) h)
members_bounded before k (Method g ∷ ms) h = members_bounded before k ms h

-- the upper bounds of a declared type's members
pub bounds_from : (ms : List Member) → BoundsFrom 0 (abstract_bounds (members_after [] 0 ms))
bounds_from ms = members_bounded [] 0 ms none_bounded

------------------------------------------------------------
-- What a module defines

-- what a module defines stands for sets of its atoms
module _ (n : ℕ) (heads : List Head) (atoms : List AtomName) (owners : List Owner) where
  pub definitions_meant : (before : List Meaning) (ds : List Define) →
      AllOpen n heads atoms owners → AreMeant n before → AreMeant n (definitions_after heads atoms owners before ds)
  definitions_meant before [] opens h = h
  definitions_meant before (d ∷ ds) opens h =
      let s = set_of (atom_scope heads atoms owners before) d.effect in
      let holds : Holds n (atom_scope heads atoms owners before) = record { owners = opens; meanings = h } in
      definitions_meant (before ++ defined_member d.name.text s ∷ []) ds opens
      (meant_push n before (defined_member d.name.text s) h (set_below n (atom_scope heads atoms owners before) holds d.effect))
