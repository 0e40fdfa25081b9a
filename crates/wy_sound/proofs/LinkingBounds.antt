-- Sets that stand for the atoms of a scope respect the bounds of these: bounds name earlier atoms, and those of the atoms that an own name opens are the
-- bounds of its members, so one name's sets come behind those of the names before it.
use Rattle.std.proofs.Common.{◌≡◌, ℕ, zero, suc, ◌+◌, ◌<◌, ◌≤◌, List, [], ◌∷◌, ◌++◌, map, inl, inr, length, refl, sym, ap, ap₂, ◌∙◌, subst, arith, Option, Some, None, true, false, append_assoc, length-append}
use Rattle.std.specs.Prelude.{slice_get, slice_index_or}
use Rattle.std.proofs.Math.ListN.{length-map}
use Rattle.std.proofs.lemmas.List.{get_or_past}
use Rattle.wy_effects.specs.EffSet.{IsSet, union, replace}
use Rattle.wy_effects.specs.Bounds.{Bounds, IsWithin, Respects, AreNone}
use Rattle.wy_text.proofs.Lists.{In-slice_get}
use Rattle.wy_effects.proofs.Ordering.{none_bounded}
use Rattle.wy_types.specs.declared.types.TypeRef.{TypeRef}
use Rattle.wy_types.specs.declared.types.TypeRef.TheVariants.{Int, Bool, Text, Unit as Nothing, Named, At, Own}
use Rattle.wy_types.specs.declared.resolved.TypeDecl.{TypeDecl}
use Rattle.wy_types.specs.declared.resolved.Origin.{Origin}
use Rattle.wy_types.specs.declared.resolved.Origin.TheVariants.{Parameter, Grant, Use, Instance, Import}
use Rattle.wy_types.specs.declared.resolved.OwnName.{OwnName}
use Rattle.wy_types.specs.Program.{Program}
use Rattle.wy_types.specs.Bounds.{bounds_of, declaration_bounds, declared_bounds, type_bounds}
use Rattle.wy_types.specs.Core.{IsCore}
use Rattle.wy_types.specs.Ground.{abstract_names, members_of}
use Rattle.wy_types.specs.Primitive.{primitive_types, first_declared}
use Rattle.wy_rules.specs.OwnNames.{opens, opened_bounds, shifted_bounds, names_bounds, opened_count}
use Rattle.wy_sound.proofs.Lists.{taken_get}
use Rattle.wy_sound.proofs.LinkingLists.{goes_on_more, or_first, read_before, read_behind, or_behind, before_or_behind}
use Rattle.wy_sound.proofs.LinkingSets.{IsSetFrom-wider, replace_first}

------------------------------------------------------------
-- Sets behind sets

-- the bound of a name's own atom, as that of one of the scope's
abbrev pub IsShifted : ℕ → Bounds → ℕ → List ℕ → Type 0
IsShifted k bounds j b = (own : List ℕ) × (slice_get bounds j ≡ Some (Some own)) × (b ≡ map (λ m. k + m) own)

pub shifted_read : (k : ℕ) (bounds : Bounds) (j : ℕ) (b : List ℕ) → slice_get (shifted_bounds k bounds) j ≡ Some (Some b) → IsShifted k bounds j b
shifted_read k [] j b e = absurd (cc)
shifted_read k (None ∷ bounds) zero b e = absurd (cc)
shifted_read k (Some own ∷ bounds) zero b e = (own, refl, cc)
shifted_read k (o ∷ bounds) (suc j) b e = shifted_read k bounds j b e

-- atoms behind the first are read by the sets behind
replace_shifted : (sets more : List (List ℕ)) (own : List ℕ) → replace (sets ++ more) (map (λ m. length sets + m) own) ≡ replace more own
replace_shifted sets more [] = refl
replace_shifted sets more (m ∷ own) = ap₂ union (or_behind sets more (length sets + m) m [] refl) (replace_shifted sets more own)

equal_within : (there : Bounds) (e e' f f' : List ℕ) → e ≡ e' → f ≡ f' → IsWithin there e f → IsWithin there e' f'
equal_within there e e' f f' g h w = subst (λ u. IsWithin there u f') g (subst (IsWithin there e) h w)

-- no set is asked for
pub none_respect : (bounds there : Bounds) → Respects bounds there []
none_respect bounds there a b e x i = absurd i

module _ (bounds own there : Bounds) (sets more : List (List ℕ)) (fit : (a : ℕ) (b : List ℕ) → slice_get bounds a ≡ Some (Some b) → IsSet a b)
    (of : (j : ℕ) (b : List ℕ) → j < length more → slice_get bounds (length sets + j) ≡ Some (Some b) → IsShifted (length sets) own j b) where
  within_first : Respects bounds there sets → (a : ℕ) (b : List ℕ) → a < length sets → slice_get bounds a ≡ Some (Some b) →
      IsWithin there (slice_index_or (sets ++ more) a []) (replace (sets ++ more) b)
  within_first r a b lt e =
      equal_within there (slice_index_or sets a []) (slice_index_or (sets ++ more) a []) (replace sets b) (replace (sets ++ more) b)
      (sym (or_first sets more a [] lt))
      (sym (replace_first sets (sets ++ more) b (goes_on_more sets more) (IsSetFrom-wider 0 a (length sets) b (omega (arith, lt)) (fit a b e)))) (r a b e)

  within_behind : Respects own there more → (a j : ℕ) (b : List ℕ) → a ≡ length sets + j → slice_get bounds a ≡ Some (Some b) →
      IsWithin there (slice_index_or (sets ++ more) a []) (replace (sets ++ more) b)
  within_behind r a j b at e =
      elim (before_or_behind j (length more)) [
        | inl lt ↦
            let s = of j b lt (ap (slice_get bounds) (sym at) ∙ e) in
            equal_within there (slice_index_or more j []) (slice_index_or (sets ++ more) a []) (replace more s.0) (replace (sets ++ more) b)
            (sym (or_behind sets more a j [] at)) (sym (ap (replace (sets ++ more)) s.2 ∙ replace_shifted sets more s.0)) (r j s.0 s.1)
        | inr past ↦
            let le : length more ≤ j = omega (arith, past.1) in
            let none : slice_index_or (sets ++ more) a [] ≡ [] = or_behind sets more a j [] at ∙ get_or_past more j [] le in
            subst (λ u. IsWithin there u (replace (sets ++ more) b)) (sym none) (λ x i. absurd i)
      ]

  -- the sets of more atoms, of which the bounds are over themselves
  pub respects_both : Respects bounds there sets → Respects own there more → Respects bounds there (sets ++ more)
  respects_both r s a b e =
      elim (before_or_behind a (length sets)) [
        | inl lt ↦ within_first r a b lt e
        | inr h ↦ within_behind s a h.0 b h.1 e
      ]

------------------------------------------------------------
-- The bounds of own names

names_bounds_both : (p : Program) (k : ℕ) (ms ns : List OwnName) → names_bounds p k (ms ++ ns) ≡ names_bounds p k ms ++ names_bounds p (k + opened_count p ms) ns
names_bounds_both p k [] ns = ap (λ j. names_bounds p j ns) (omega arith)
names_bounds_both p k (m ∷ ms) ns =
    let own = shifted_bounds k (opened_bounds p m m.origin) in
    let j = k + length (opens p m m.origin) in
    let further : j + opened_count p ms ≡ k + (length (opens p m m.origin) + opened_count p ms) = omega arith in
    ap (λ l. own ++ l) (names_bounds_both p j ms ns) ∙ sym (append_assoc own (names_bounds p j ms) (names_bounds p (j + opened_count p ms) ns)) ∙
    ap (λ i. (own ++ names_bounds p j ms) ++ names_bounds p i ns) further

module _ (p : Program) (c : IsCore p) where
  declared_length : (d : ℕ) (o : Option TypeDecl) → slice_get p.declarations d ≡ o → length (declaration_bounds o) ≡ length (abstract_names o)
  declared_length d None e = refl
  declared_length d (Some t) e = (c.declarations t (In-slice_get p.declarations d t e)).bounds.0

  type_length : (t : TypeRef) → length (type_bounds p t) ≡ length (members_of p t)
  type_length Int = refl
  type_length Bool = refl
  type_length Text = refl
  type_length Nothing = refl
  type_length (Named d sets) = declared_length d (slice_get p.declarations d) refl
  type_length (At d bound) = declared_length d (slice_get p.declarations d) refl
  type_length (Own l) = refl

  -- a bound, or none, for each atom that is opened
  opened_length : (n : OwnName) (o : Origin) → length (opened_bounds p n o) ≡ length (opens p n o)
  opened_length n (Parameter true) = type_length n.typ
  opened_length n (Parameter false) = refl
  opened_length n Grant = type_length n.typ
  opened_length n (Use m) = type_length n.typ
  opened_length n (Instance m arguments) = type_length n.typ
  opened_length n (Import m arguments bound) = refl

  shifted_length : (k : ℕ) (n : OwnName) → length (shifted_bounds k (opened_bounds p n n.origin)) ≡ length (opens p n n.origin)
  shifted_length k n = length-map (opened_bounds p n n.origin) _ ∙ opened_length n n.origin

  names_length : (k : ℕ) (ns : List OwnName) → length (names_bounds p k ns) ≡ opened_count p ns
  names_length k [] = refl
  names_length k (n ∷ ns) =
      length-append (shifted_bounds k (opened_bounds p n n.origin)) (names_bounds p (k + length (opens p n n.origin)) ns) ∙
      ap₂ (λ x y. x + y) (shifted_length k n) (names_length (k + length (opens p n n.origin)) ns)

  -- what is read of the bounds of own names, at the atoms that one of them opens
  pub names_read : (done : List OwnName) (n : OwnName) (rest : List OwnName) (j : ℕ) (b : List ℕ) → j < length (opens p n n.origin) →
      slice_get (names_bounds p 0 (done ++ n ∷ rest)) (opened_count p done + j) ≡ Some (Some b) →
      IsShifted (opened_count p done) (opened_bounds p n n.origin) j b
  names_read done n rest j b lt e =
      let k = opened_count p done in
      let first = names_bounds p 0 done in
      let own = shifted_bounds k (opened_bounds p n n.origin) in
      let after = names_bounds p (k + length (opens p n n.origin)) rest in
      let all : names_bounds p 0 (done ++ n ∷ rest) ≡ first ++ (own ++ after) =
      names_bounds_both p 0 done (n ∷ rest) ∙ ap (λ i. first ++ names_bounds p i (n ∷ rest)) (omega arith) in
      let read : slice_get (names_bounds p 0 (done ++ n ∷ rest)) (k + j) ≡ slice_get own j =
      ap (λ l. slice_get l (k + j)) all ∙ read_behind first (own ++ after) (k + j) j (omega (arith, names_length 0 done)) ∙
      read_before own after j (omega (arith, lt, shifted_length k n)) in
      shifted_read k (opened_bounds p n n.origin) j b (sym read ∙ e)

  ------------------------------------------------------------
  -- Primitive types

  -- members of primitive types have no bounds
  pub primitive_unbounded : (d : ℕ) → d < first_declared → AreNone (declared_bounds p d)
  primitive_unbounded d lt =
      subst (λ o. AreNone (declaration_bounds o)) (sym (taken_get d first_declared p.declarations primitive_types lt c.primitives)) (of_number d lt)
    where
      of_number : (d : ℕ) → d < first_declared → AreNone (declaration_bounds (slice_get primitive_types d))
      of_number zero lt = none_bounded 2
      of_number (suc zero) lt = none_bounded 4
      of_number (suc (suc zero)) lt = none_bounded 1
      of_number (suc (suc (suc zero))) lt = none_bounded 1
      of_number (suc (suc (suc (suc zero)))) lt = none_bounded 5
      of_number (suc (suc (suc (suc (suc d))))) lt = absurd (omega arith)

------------------------------------------------------------
-- One own name more

-- the bounds of a scope's atoms name earlier atoms; those of the atoms that an own name opens are the bounds of its members
pub record NameBounds (p : Program) (m : ℕ) (done : List OwnName) (n : OwnName) : Type 0 where
  pub sets : (a : ℕ) (b : List ℕ) → slice_get (bounds_of p m) a ≡ Some (Some b) → IsSet a b
  pub own : (j : ℕ) (b : List ℕ) → j < length (opens p n n.origin) → slice_get (bounds_of p m) (opened_count p done + j) ≡ Some (Some b) →
      IsShifted (opened_count p done) (opened_bounds p n n.origin) j b

pub respects_name : (p : Program) (m : ℕ) (done : List OwnName) (n : OwnName) → NameBounds p m done n → (sets more : List (List ℕ)) →
    length sets ≡ opened_count p done → length more ≡ length (opens p n n.origin) → Respects (bounds_of p m) [] sets →
    Respects (opened_bounds p n n.origin) [] more → Respects (bounds_of p m) [] (sets ++ more)
respects_name p m done n f sets more count many =
    let own : (j : ℕ) (b : List ℕ) → j < length more → slice_get (bounds_of p m) (length sets + j) ≡ Some (Some b) →
    IsShifted (length sets) (opened_bounds p n n.origin) j b =
    λ j b lt. subst (λ k. slice_get (bounds_of p m) (k + j) ≡ Some (Some b) → IsShifted k (opened_bounds p n n.origin) j b) (sym count)
    (f.own j b (omega (arith, lt, many))) in
    respects_both (bounds_of p m) (opened_bounds p n n.origin) [] sets more f.sets own
