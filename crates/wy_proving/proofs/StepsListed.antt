-- The types and the pairs of steps: what each step asks of the lists of a scope.
use Rattle.std.proofs.Common.{◌≡◌, ℕ, List, [], ◌∷◌, inl, inr, refl, subst, Option, Some, None, true}
use Rattle.std.specs.Prelude.{slice_get}
use Rattle.wy_text.specs.Members.{In}
use Rattle.wy_text.proofs.Lists.{In-left, In-right, In-cases}
use Rattle.wy_types.specs.declared.types.TypeRef.{TypeRef}
use Rattle.wy_types.specs.Types.{IsObject}
use Rattle.wy_rules.specs.PlainMethods.{Methods}
use Rattle.wy_rules.specs.Reached.{Each}
use Rattle.wy_rules.specs.Readings.{Reading}
use Rattle.wy_rules.proofs.Transferring.{Tests}
use Rattle.wy_proving.specs.Certified.{Pair, pair_of}
use Rattle.wy_proving.specs.Steps.{Step}
use Rattle.wy_proving.specs.Reading.{Lists}
use Rattle.wy_proving.proofs.ClosedPairs.{IsAsked}
use Rattle.wy_proving.proofs.StepsGood.{TypeIsGood, SubIsGood, IsGood}
use Rattle.wy_proving.specs.Written.{listed_types, type_of, step_types, sub_pairs}
use Rattle.wy_proving.proofs.WrittenOut.{IsListedType, IsListedSub, IsSaid}

-- types as they are written, with these methods and these tests of effects
abbrev pub over : Methods → Tests → Reading
over m tests = record { Kind = TypeRef; read = λ t. t; effect = λ e. e; methods = m; IsObject = IsObject; Includes = tests.Includes; Allows = tests.Allows; Under = tests.Under }

module _ (methods : Methods) (tests : Tests) (P : TypeRef → Type 0) (E : List ℕ → Type 0) where
  abbrev Good : Step TypeRef → Type 0
  Good st = IsGood (over methods tests) P E st

  type_stands : (o : Option TypeRef) → TypeIsGood (over methods tests) P E o → (t : TypeRef) → In t (type_of o) → P t
  type_stands None h t i = absurd i
  type_stands (Some u) h t (inl e) = subst P e h
  type_stands (Some u) h t (inr i) = absurd i

  -- each type of good steps has the property
  pub types_stand : (sts : List (Step TypeRef)) → Each Good sts → (t : TypeRef) → In t (step_types sts) → P t
  types_stand [] h t i = absurd i
  types_stand (st ∷ sts) h t i = elim (In-cases t (type_of st.typ) (step_types sts) i) [
    | inl j ↦ type_stands st.typ h.0.0 t j
    | inr j ↦ types_stand sts h.1 t j
  ]

  sub_asked : (a b : Option TypeRef) (e : List ℕ) → SubIsGood (over methods tests) P E a b e → (q : Pair) → In {X = Pair} q (pair_of a b) → IsAsked methods tests.Allows P q
  sub_asked None b e h q i = absurd i
  sub_asked (Some a) None e h q i = absurd i
  sub_asked (Some a) (Some b) e h q (inl f) = (let Q : Pair → Type 0 = IsAsked methods tests.Allows P in subst Q f (h.0, h.1, h.2))
  sub_asked (Some a) (Some b) e h q (inr i) = absurd i

  -- each pair of theirs is a subtyping of such types
  pub subs_asked : (sts : List (Step TypeRef)) → Each Good sts → (q : Pair) → In {X = Pair} q (sub_pairs sts) → IsAsked methods tests.Allows P q
  subs_asked [] h q i = absurd i
  subs_asked (st ∷ sts) h q i = elim (In-cases {X = Pair} q (pair_of st.below st.typ) (sub_pairs sts) i) [
    | inl j ↦ sub_asked st.below st.typ st.effect h.0.1 q j
    | inr j ↦ subs_asked sts h.1 q j
  ]

  module _ (ts : List TypeRef) (c : Lists TypeRef) (named : (n : ℕ) → c.named n ≡ slice_get (listed_types ts) n) (sets : (e : List ℕ) → E e → c.stands e ≡ true) where
    type_said : (o : Option TypeRef) → ((t : TypeRef) → In t (type_of o) → In t ts) → IsListedType ts c named o
    type_said None h = tt
    type_said (Some t) h = h t (inl refl)

    sub_said : (a b : Option TypeRef) (e : List ℕ) → SubIsGood (over methods tests) P E a b e → ((l r : TypeRef) → In {X = Pair} (l, r) (pair_of a b) → c.listed l r ≡ true) → IsListedSub ts c named a b e
    sub_said None b e h g = tt
    sub_said (Some a) None e h g = absurd h
    sub_said (Some a) (Some b) e h g = (g a b (inl refl), sets e h.3)

    -- good steps are said where their types and pairs are listed
    pub each_said : (sts : List (Step TypeRef)) → Each Good sts → ((t : TypeRef) → In t (step_types sts) → In t ts) → ((a b : TypeRef) → In {X = Pair} (a, b) (sub_pairs sts) → c.listed a b ≡ true) →
        Each (IsSaid ts c named) sts
    each_said [] h f g = tt
    each_said (st ∷ sts) h f g = (
      (
        type_said st.typ (λ t i. f t (In-left t (type_of st.typ) (step_types sts) i)),
        sub_said st.below st.typ st.effect h.0.1 (λ a b i. g a b (In-left {X = Pair} (a, b) (pair_of st.below st.typ) (sub_pairs sts) i)),
      ),
      each_said sts h.1 (λ t i. f t (In-right t (type_of st.typ) (step_types sts) i)) (λ a b i. g a b (In-right {X = Pair} (a, b) (pair_of st.below st.typ) (sub_pairs sts) i)),
    )
