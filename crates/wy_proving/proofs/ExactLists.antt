-- The tests of what a certificate lists, and what they say: pairs, sets that can stand, and sets that include or allow others.
use Rattle.std.proofs.Common.{◌≡◌, ◌↔◌, ℕ, ◌+◌, List, [], ◌∷◌, length, inl, inr, refl, sym, ap, ap₂, subst, Some, Bool as Truth, true, false}
use Rattle.std.specs.Prelude.{slice_get, nat_lt, not, ◌&&◌, ◌||◌}
use Rattle.std.proofs.lemmas.Bool.{lt-ltb, ltb-true, le-ltb, ltb-false}
use Rattle.wy_text.specs.Members.{In, Within}
use Rattle.wy_effects.specs.EffSet.{IsSetFrom, has}
use Rattle.wy_effects.specs.Bounds.{IsWithin, GoDown}
use Rattle.wy_effects.specs.Widened.{includes, widened_set}
use Rattle.wy_text.proofs.Lists.{In-slice_get}
use Rattle.wy_effects.proofs.SetLaws.{In-has}
use Rattle.wy_effects.proofs.Ordering.{widened_exactly, fit_down}
use Rattle.wy_effects.proofs.Widening.{told, widened_is}
use Rattle.wy_types.specs.declared.types.TypeRef.{TypeRef}
use Rattle.wy_types.specs.Program.{Program, Scope}
use Rattle.wy_types.specs.Types.{erased}
use Rattle.wy_types.specs.Bounds.{scope_bounds, bounds_of}
use Rattle.wy_types.specs.Core.{IsCore}
use Rattle.wy_rules.specs.Canonical.{both, same_type}
use Rattle.wy_rules.proofs.SameTypes.{both_left, both_right, types_are_told_apart}
use Rattle.wy_proving.specs.Certified.{Pair, annotated_pairs, plain_pairs, has_pair}
use Rattle.wy_proving.specs.Proving.{ascends, is_empty, ListsAreExact}
use Rattle.wy_proving.proofs.Tests.{both_true}

------------------------------------------------------------
-- Pairs

same_pair : (q : Pair) (a b : TypeRef) → q.0 ≡ a → q.1 ≡ b → let r : Pair = (a, b) in q ≡ r
same_pair q a b e f = ap₂ (λ x z. let r : Pair = (x, z) in r) e f

is_there : (ps : List Pair) (a b : TypeRef) → has_pair ps a b ≡ true → In {X = Pair} (a, b) ps
is_there [] a b h = absurd (cc)
is_there (q ∷ ps) a b h =
    elim (both (same_type q.0 a) (same_type q.1 b)) as (λ v. both (same_type q.0 a) (same_type q.1 b) ≡ v → (v || has_pair ps a b) ≡ true → In {X = Pair} (a, b) (q ∷ ps)) [
      | true ↦ λ e g.
          let left = (types_are_told_apart q.0 a).0 (both_left (same_type q.0 a) (same_type q.1 b) e) in
          let right = (types_are_told_apart q.1 b).0 (both_right (same_type q.0 a) (same_type q.1 b) e) in
          inl (same_pair q a b left right)
      | false ↦ λ e g. inr (is_there ps a b g)
    ] refl h

later : (x y : Truth) → y ≡ true → (x || y) ≡ true
later true y e = refl
later false y e = e

is_found : (ps : List Pair) (a b : TypeRef) → In {X = Pair} (a, b) ps → has_pair ps a b ≡ true
is_found [] a b i = absurd i
is_found (q ∷ ps) a b (inl e) =
    let left = (types_are_told_apart q.0 a).1 (ap (λ (r : Pair). r.0) e) in
    let right = (types_are_told_apart q.1 b).1 (ap (λ (r : Pair). r.1) e) in
    ap (λ v. v || has_pair ps a b) (both_true (same_type q.0 a) (same_type q.1 b) left right)
is_found (q ∷ ps) a b (inr i) = later (both (same_type q.0 a) (same_type q.1 b)) (has_pair ps a b) (is_found ps a b i)

-- a pair is listed exactly where the test finds it
pub pair_listed : (ps : List Pair) (a b : TypeRef) → (has_pair ps a b ≡ true) ↔ In {X = Pair} (a, b) ps
pair_listed ps a b = (is_there ps a b, is_found ps a b)

------------------------------------------------------------
-- Sets

not_true : (b : Truth) → not b ≡ true → b ≡ false
not_true true e = absurd (cc)
not_true false e = refl

-- the test of a set that can stand says that it is one
pub ascending : (from n : ℕ) (e : List ℕ) → ascends from n e ≡ true → IsSetFrom from n e
ascending from n [] h = tt
ascending from n (a ∷ e) h =
    let rest = both_right (not (nat_lt a from)) (both (nat_lt a n) (ascends (a + 1) n e)) h in (
      ltb-false a from (not_true (nat_lt a from) (both_left (not (nat_lt a from)) (both (nat_lt a n) (ascends (a + 1) n e)) h)),
      ltb-true a n (both_left (nat_lt a n) (ascends (a + 1) n e) rest),
      ascending (a + 1) n e (both_right (nat_lt a n) (ascends (a + 1) n e) rest),
    )

-- .. and of one that can stand it says so
pub ascended : (from n : ℕ) (e : List ℕ) → IsSetFrom from n e → ascends from n e ≡ true
ascended from n [] h = refl
ascended from n (a ∷ e) h =
    both_true (not (nat_lt a from)) (both (nat_lt a n) (ascends (a + 1) n e)) (ap not (le-ltb a from h.0))
    (both_true (nat_lt a n) (ascends (a + 1) n e) (lt-ltb a n h.1) (ascended (a + 1) n e h.2))

emptied : (e : List ℕ) → is_empty e ≡ true → e ≡ []
emptied [] h = refl
emptied (a ∷ e) h = absurd (cc)

includes_within : (e f : List ℕ) → includes e f ≡ true → Within e f
includes_within [] f h a i = absurd i
includes_within (x ∷ e) f h a i =
    elim (has x f) as (λ b. has x f ≡ b → (b && includes e f) ≡ true → In a f) [
      | true ↦ λ t r. elim i [ inl same ↦ subst (λ v. In v f) same (In-has x f t) | inr j ↦ includes_within e f r a j ]
      | false ↦ λ t r. absurd (cc)
    ] refl h

-- a set that a T-Sub gives includes its part's exactly where the test says so
pub included : (e f : List ℕ) → (includes e f ≡ true) ↔ Within e f
included e f = (includes_within e f, λ w. told e f true (λ t. w, λ t. refl))

module _ (p : Program) (core : IsCore p) (k : ℕ) (s : Scope) (at : slice_get p.scopes k ≡ Some s) where
  down : GoDown (bounds_of p k)
  down = subst (λ o. GoDown (scope_bounds o)) (sym at) (fit_down (length s.atoms) s.bounds (core.scopes s (In-slice_get p.scopes k s at)).bounds)

  -- .. and a declared effect allows one, over the bounds of the scope's atoms
  pub allowed : (e f : List ℕ) → (includes e (widened_set (bounds_of p k) f) ≡ true) ↔ IsWithin (bounds_of p k) e f
  allowed e f =
      let wide = widened_set (bounds_of p k) f in
      let exactly = widened_exactly (bounds_of p k) e f wide (widened_is (bounds_of p k) down f) in
      (λ h. exactly.1 ((included e wide).0 h), λ h. (included e wide).1 (exactly.0 h))

pub lists_are_exact : ListsAreExact
lists_are_exact p k s c core at = record {
  pair = pair_listed (annotated_pairs c);
  bare_pair = λ a b. pair_listed (plain_pairs c) (erased a) (erased b);
  set = λ e. (ascending 0 (length s.atoms) e, ascended 0 (length s.atoms) e);
  no_set = λ e. (emptied e, λ h. ap is_empty h);
  inclusion = included;
  allowance = allowed p core k s at;
}
