-- The definitions tried on worked examples.
use Rattle.std.proofs.Common.{◌≡◌, ℕ, ◌+◌, ◌*◌, List, [], ◌∷◌, length, replicate, inl, inr, refl, subst, Option, None, true, false}
use Rattle.std.specs.Prelude.{codes}
use Rattle.wy_effects.specs.Bounds.{IsWithin, by_member}
use Rattle.wy_types.specs.declared.types.TypeRef.{TypeRef}
use Rattle.wy_types.specs.declared.types.TypeRef.TheVariants.{Int, Unit as Nothing, Named, Bool}
use Rattle.wy_types.specs.declared.types.Method.{Method}
use Rattle.wy_types.specs.declared.path.Part.{Part}
use Rattle.wy_types.specs.declared.path.Part.TheVariants.{Parameter, Result}
use Rattle.wy_types.specs.declared.path.Step.{Step}
use Rattle.wy_types.specs.declared.resolved.TypeDecl.{TypeDecl}
use Rattle.wy_types.specs.Program.{Program}
use Rattle.wy_types.specs.Bounds.{bounds_of}
use Rattle.wy_types.specs.Signature.{Signature, find_method}
use Rattle.wy_types.specs.Types.{IsObject, methods_of, signature}
use Rattle.wy_types.specs.Subtyping.{IsClosed, HasCover, IsAnnotatedSubtype, Leads}
use Rattle.wy_types.proofs.Closing.{closed_path}
use Rattle.wy_types.proofs.Reaching.{no_methods}
use Rattle.wy_types.specs.Paths.{Goes, IsEffect}
use Rattle.wy_types.specs.Few.{type_count}

-- a method, and a type declaration of some abstract members
method : List ℕ → List TypeRef → List ℕ → TypeRef → Method
method name params effect result = record { name = name; params = params; effect = effect; result = result }

declaration : List ℕ → List (List ℕ) → List Method → TypeDecl
declaration name members methods = record { name = name; members = members; bounds = replicate (length members) None; defined = []; methods = methods }

------------------------------------------------------------
-- Types that go on by one method:
-- P { def next(): {} P }  Q { def next(): {} Q }  R { def next(): {} R; def more(): {} Int }

going_on : Program
going_on = record {
  declarations =
      declaration (codes "P") [] (method (codes "next") [] [] (Named 0 []) ∷ []) ∷
      declaration (codes "Q") [] (method (codes "next") [] [] (Named 1 []) ∷ []) ∷
      declaration (codes "R") [] (method (codes "next") [] [] (Named 2 []) ∷ method (codes "more") [] [] Int ∷ []) ∷ [];
  scopes = [];
}

abbrev Pair : Type 0
Pair = TypeRef × TypeRef

-- each is a subtype of the other: the pair itself is a closed list
P_under_Q : IsAnnotatedSubtype going_on 0 (Named 0 []) (Named 1 [])
unfolding going_on declaration method
P_under_Q = record {
  pairs = (Named 0 [], Named 1 []) ∷ [];
  first = inl refl;
  closed = λ p i. elim i [
    | inl e ↦ (let C : Pair → Type 0 = λ q. IsClosed TypeRef (methods_of going_on 0) IsObject (IsWithin (bounds_of going_on 0)) ((Named 0 [], Named 1 []) ∷ []) q in
        subst C e (inr (
          tt,
          tt,
          λ m j. elim j [
            | inl f ↦ (let D : Signature TypeRef → Type 0 = λ v. HasCover TypeRef (methods_of going_on 0) IsObject (IsWithin (bounds_of going_on 0)) ((Named 0 [], Named 1 []) ∷ []) (find_method v.name (methods_of going_on 0 (Named 0 []))) v in
                subst D f (record { params = tt; effect = by_member; result = inl refl }))
            | inr z ↦ absurd z
          ],
        )))
    | inr z ↦ absurd z
  ];
}

R_under_P : IsAnnotatedSubtype going_on 0 (Named 2 []) (Named 0 [])
unfolding going_on declaration method
R_under_P = record {
  pairs = (Named 2 [], Named 0 []) ∷ [];
  first = inl refl;
  closed = λ p i. elim i [
    | inl e ↦ (let C : Pair → Type 0 = λ q. IsClosed TypeRef (methods_of going_on 0) IsObject (IsWithin (bounds_of going_on 0)) ((Named 2 [], Named 0 []) ∷ []) q in
        subst C e (inr (
          tt,
          tt,
          λ m j. elim j [
            | inl f ↦ (let D : Signature TypeRef → Type 0 = λ v. HasCover TypeRef (methods_of going_on 0) IsObject (IsWithin (bounds_of going_on 0)) ((Named 2 [], Named 0 []) ∷ []) (find_method v.name (methods_of going_on 0 (Named 2 []))) v in
                subst D f (record { params = tt; effect = by_member; result = inl refl }))
            | inr z ↦ absurd z
          ],
        )))
    | inr z ↦ absurd z
  ];
}

-- P lacks the method `more`, so no closed list has the pair
P_not_under_R : IsAnnotatedSubtype going_on 0 (Named 0 []) (Named 2 []) → ⊥
unfolding going_on declaration method
P_not_under_R h =
    elim (h.closed (Named 0 [], Named 2 []) h.first) [
      | inl base ↦ base.1 tt
      | inr object ↦ object.2 (signature (method (codes "more") [] [] Int)) (inr (inl refl))
    ]

------------------------------------------------------------
-- Effects by polarity:
-- A { effect E; def f(b: B[E = {E}]): {} Unit }  B { effect E; def g(c: C[E = {E}]): {} Unit }  C { effect E; def h(): {E} A[E = {E}] }

turning : Program
turning = record {
  declarations =
      declaration (codes "A") (codes "E" ∷ []) (method (codes "f") (Named 1 ((0 ∷ []) ∷ []) ∷ []) [] Nothing ∷ []) ∷
      declaration (codes "B") (codes "E" ∷ []) (method (codes "g") (Named 2 ((0 ∷ []) ∷ []) ∷ []) [] Nothing ∷ []) ∷
      declaration (codes "C") (codes "E" ∷ []) (method (codes "h") [] (0 ∷ []) (Named 0 ((0 ∷ []) ∷ [])) ∷ []) ∷ [];
  scopes = [];
}

-- where there are two atoms, so four sets: each of the three types is bare, has one of four sets, or stands at one of four bounds; those of one literal have one type more
types_of_two_atoms : type_count turning 2 0 ≡ 4 + 3 * (1 + 4 + 4)
unfolding turning declaration method
types_of_two_atoms = refl

types_with_an_own_one : type_count turning 2 1 ≡ 32
unfolding turning declaration method
types_with_an_own_one = refl

-- types without members have one list of no sets
types_without_members : type_count going_on 2 0 ≡ 4 + 3 * (1 + 1 + 4)
unfolding going_on declaration method
types_without_members = refl

step : List ℕ → Part → Step
step name part = record { method = name; part = part }

with_atom : ℕ → ℕ → TypeRef
with_atom d x = Named d ((x ∷ []) ∷ [])

module _ (x : ℕ) where
  A_to_B : Goes TypeRef (methods_of turning 0) (with_atom 0 x) (step (codes "f") (Parameter 0)) (with_atom 1 x)
  unfolding turning declaration method with_atom step
  A_to_B = record { method = signature (method (codes "f") (with_atom 1 x ∷ []) [] Nothing); has = inl refl; named = refl; part = refl }

  B_to_C : Goes TypeRef (methods_of turning 0) (with_atom 1 x) (step (codes "g") (Parameter 0)) (with_atom 2 x)
  unfolding turning declaration method with_atom step
  B_to_C = record { method = signature (method (codes "g") (with_atom 2 x ∷ []) [] Nothing); has = inl refl; named = refl; part = refl }

  -- the effects of A[E = {x}] have x: two parameters are passed on the way to C's method
  A_has_effect : IsEffect TypeRef (methods_of turning 0) (with_atom 0 x) true x
  unfolding turning declaration method with_atom step
  A_has_effect = (
    with_atom 2 x,
    (step (codes "f") (Parameter 0) ∷ step (codes "g") (Parameter 0) ∷ [], (with_atom 1 x, A_to_B, (with_atom 2 x, B_to_C, refl)), refl),
    (signature (method (codes "h") [] (x ∷ []) (with_atom 0 x)), inl refl, inl refl),
  )

  -- the effects that B[E = {x}] asks for have x: one parameter is passed
  B_asks_for_effect : IsEffect TypeRef (methods_of turning 0) (with_atom 1 x) false x
  unfolding turning declaration method with_atom step
  B_asks_for_effect = (
    with_atom 2 x,
    (step (codes "g") (Parameter 0) ∷ [], (with_atom 2 x, B_to_C, refl), refl),
    (signature (method (codes "h") [] (x ∷ []) (with_atom 0 x)), inl refl, inl refl),
  )

------------------------------------------------------------
-- Types that go on three times and end in different base types

ending : List ℕ → TypeRef → TypeDecl
ending name last = declaration name [] (method (codes "next") [] [] last ∷ [])

ending_apart : Program
ending_apart = record {
  declarations =
      ending (codes "S0") (Named 1 []) ∷ ending (codes "S1") (Named 2 []) ∷ ending (codes "S2") Int ∷
      ending (codes "U0") (Named 4 []) ∷ ending (codes "U1") (Named 5 []) ∷ ending (codes "U2") Bool ∷ [];
  scopes = [];
}

next_result : Step
next_result = step (codes "next") Result

-- three steps lead from S0 and U0 to Int and Bool
to_different_ends : Leads TypeRef (methods_of ending_apart 0) IsObject (IsWithin (bounds_of ending_apart 0)) (Named 0 [], Named 3 []) (next_result ∷ next_result ∷ next_result ∷ []) (Int, Bool)
unfolding ending_apart ending declaration method next_result step
to_different_ends = (
  (Named 1 [], Named 4 []),
  record { left = signature (method (codes "next") [] [] (Named 1 [])); right = signature (method (codes "next") [] [] (Named 4 [])); found = refl; asked = inl refl; named = refl; leads = (refl, refl) },
  (
    (Named 2 [], Named 5 []),
    record { left = signature (method (codes "next") [] [] (Named 2 [])); right = signature (method (codes "next") [] [] (Named 5 [])); found = refl; asked = inl refl; named = refl; leads = (refl, refl) },
    ((Int, Bool), record { left = signature (method (codes "next") [] [] Int); right = signature (method (codes "next") [] [] Bool); found = refl; asked = inl refl; named = refl; leads = (refl, refl) }, (refl, refl)),
  ),
)

-- so S0 is no subtype of U0
S0_not_under_U0 : IsAnnotatedSubtype ending_apart 0 (Named 0 []) (Named 3 []) → ⊥
S0_not_under_U0 h =
    elim (h.closed (Int, Bool) (closed_path TypeRef (methods_of ending_apart 0) IsObject (IsWithin (bounds_of ending_apart 0)) (no_methods ending_apart 0) h.pairs h.closed (next_result ∷ next_result ∷ next_result ∷ []) (Named 0 [], Named 3 []) (Int, Bool) h.first to_different_ends)) [
      | inl base ↦ (let e : Int ≡ Bool = base.0 in absurd (cc))
      | inr object ↦ object.0
    ]
