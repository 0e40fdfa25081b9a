-- A first failure refutes the proof of a certificate, and there is one.
use Rattle.std.proofs.Common.{◌≡◌, ℕ, ◌<◌, ◌⊎◌, List, length, inl, inr, refl, sym, ◌∙◌, subst, Some, arith}
use Rattle.std.specs.Prelude.{slice_get}
use Rattle.std.proofs.lemmas.Bool.{cases_lt}
use Rattle.wy_text.proofs.Lists.{In-slice_get}
use Rattle.wy_effects.proofs.SetLaws.{cases_equal}
use Rattle.wy_types.specs.Program.{Program, Scope}
use Rattle.wy_types.specs.Core.{IsCore}
use Rattle.wy_cert.specs.declared.certificate.CertScope.{CertScope}
use Rattle.wy_proving.specs.declared.proof.CertTest.{CertTest}
use Rattle.wy_proving.specs.declared.proof.CertTest.TheVariants.{Scopes, Types, Pairs, Plain, Lines, Nodes}
use Rattle.wy_proving.specs.Proving.{AllStand, TypesHold, PairsHold, PlainPairsHold, LinesHold, NodesHold, ScopesHold, ScopeProof, IsProof}
use Rattle.wy_proving.specs.Unproved.{IsFirstWithout, FailsAt, HoldsBefore, FailsInScope, IsFirstUnproved, UnprovedIsNoProof, OneUnproved}
use Rattle.wy_proving.proofs.CertifiedNodes.{nodes_stand}

first_fails : {X : Type 0} (P : X → Type 0) (xs : List X) (i : ℕ) → IsFirstWithout P xs i → AllStand P xs → ⊥
first_fails P xs i f h = f.fails (h f.element (In-slice_get xs i f.element f.there))

-- a list has one first element without a property
one_first : {X : Type 0} (P : X → Type 0) (xs : List X) (i j : ℕ) → IsFirstWithout P xs i → IsFirstWithout P xs j → i ≡ j
one_first P xs i j f g = elim (cases_equal i j) [
  | inl e ↦ e
  | inr n ↦ absurd (elim (cases_lt i j) [ inl l ↦ f.fails (g.before i f.element l f.there) | inr l ↦ g.fails (f.before j g.element (omega (arith, l, n)) g.there) ])
]

module _ (p : Program) (core : IsCore p) (k : ℕ) (s : Scope) (c : CertScope) (at : slice_get p.scopes k ≡ Some s) where
  -- the test holds in the scope
  abbrev Holds : CertTest → Type 0
  Holds Scopes = Unit {0}
  Holds Types = TypesHold p k s c
  Holds Pairs = PairsHold p k s c
  Holds Plain = PlainPairsHold p k s c
  Holds Lines = LinesHold p k s c
  Holds Nodes = NodesHold p k s c

  refuted : (test : CertTest) (i : ℕ) → FailsAt p k s c test i → Holds test → ⊥
  refuted Scopes i f h = f
  refuted Types i f h = first_fails _ _ i f h
  refuted Pairs i f h = first_fails _ _ i f h
  refuted Plain i f h = first_fails _ _ i f h
  refuted Lines i f h = first_fails _ _ i f h
  refuted Nodes i f h = (let r = nodes_stand p core k s c at h in let e = sym f ∙ r.1 in absurd (cc))

  in_proof : (test : CertTest) → ScopeProof p k s c → Holds test
  in_proof Scopes h = tt
  in_proof Types h = h.types
  in_proof Pairs h = h.pairs
  in_proof Plain h = h.plain
  in_proof Lines h = h.lines
  in_proof Nodes h = h.nodes

  pub no_scope_proof : (test : CertTest) (i : ℕ) → FailsAt p k s c test i → ScopeProof p k s c → ⊥
  no_scope_proof test i f h = refuted test i f (in_proof test h)

  -- of two tests whose earlier ones hold one holds, where they differ
  one_holds : (t u : CertTest) → HoldsBefore p k s c t → HoldsBefore p k s c u → (t ≡ u) ⊎ (Holds t ⊎ Holds u)
  one_holds Scopes u a b = inr (inl tt)
  one_holds t Scopes a b = inr (inr tt)
  one_holds Types Types a b = inl refl
  one_holds Types Pairs a b = inr (inl b)
  one_holds Types Plain a b = inr (inl b.0)
  one_holds Types Lines a b = inr (inl b.0)
  one_holds Types Nodes a b = inr (inl b.0)
  one_holds Pairs Types a b = inr (inr a)
  one_holds Pairs Pairs a b = inl refl
  one_holds Pairs Plain a b = inr (inl b.1)
  one_holds Pairs Lines a b = inr (inl b.1)
  one_holds Pairs Nodes a b = inr (inl b.1)
  one_holds Plain Types a b = inr (inr a.0)
  one_holds Plain Pairs a b = inr (inr a.1)
  one_holds Plain Plain a b = inl refl
  one_holds Plain Lines a b = inr (inl b.2)
  one_holds Plain Nodes a b = inr (inl b.2)
  one_holds Lines Types a b = inr (inr a.0)
  one_holds Lines Pairs a b = inr (inr a.1)
  one_holds Lines Plain a b = inr (inr a.2)
  one_holds Lines Lines a b = inl refl
  one_holds Lines Nodes a b = inr (inl b.3)
  one_holds Nodes Types a b = inr (inr a.0)
  one_holds Nodes Pairs a b = inr (inr a.1)
  one_holds Nodes Plain a b = inr (inr a.2)
  one_holds Nodes Lines a b = inr (inr a.3)
  one_holds Nodes Nodes a b = inl refl

  one_place : (test : CertTest) (i j : ℕ) → FailsAt p k s c test i → FailsAt p k s c test j → i ≡ j
  one_place Scopes i j f g = absurd f
  one_place Types i j f g = one_first _ _ i j f g
  one_place Pairs i j f g = one_first _ _ i j f g
  one_place Plain i j f g = one_first _ _ i j f g
  one_place Lines i j f g = one_first _ _ i j f g
  one_place Nodes i j f g = (let e = sym f ∙ g in cc)

  one_in_scope : (t u : CertTest) (i j : ℕ) → HoldsBefore p k s c t → HoldsBefore p k s c u → FailsAt p k s c t i → FailsAt p k s c u j → (t ≡ u) × (i ≡ j)
  one_in_scope t u i j a b f g = elim (one_holds t u a b) [
    | inl e ↦ (e, one_place u i j (subst (λ v. FailsAt p k s c v i) e f) g)
    | inr h ↦ absurd (elim h [ inl l ↦ refuted t i f l | inr l ↦ refuted u j g l ])
  ]

module _ (p : Program) (core : IsCore p) (cert : List CertScope) where
  refutes : (k : ℕ) (test : CertTest) (i : ℕ) → FailsInScope p cert k test i → IsProof p cert → ⊥
  refutes k test i f w = no_scope_proof p core k f.scope f.part f.scope_there test i f.fails (w.scopes k f.scope f.part f.scope_there f.part_there)

  -- no scope before another that fails first fails
  not_before : (k l : ℕ) (t u : CertTest) (i j : ℕ) → FailsInScope p cert k t i → FailsInScope p cert l u j → k < l → ⊥
  not_before k l t u i j f g h = no_scope_proof p core k f.scope f.part f.scope_there t i f.fails (g.scopes_before k h f.scope f.part f.scope_there f.part_there)

  same_scope : (k : ℕ) (t u : CertTest) (i j : ℕ) → FailsInScope p cert k t i → FailsInScope p cert k u j → (t ≡ u) × (i ≡ j)
  same_scope k t u i j f g =
      let scope : g.scope ≡ f.scope = (let a = sym g.scope_there ∙ f.scope_there in cc) in
      let part : g.part ≡ f.part = (let a = sym g.part_there ∙ f.part_there in cc) in
      let before = subst (λ v. HoldsBefore p k f.scope v u) part (subst (λ v. HoldsBefore p k v g.part u) scope g.tests_before) in
      let fails = subst (λ v. FailsAt p k f.scope v u j) part (subst (λ v. FailsAt p k v g.part u j) scope g.fails) in
      one_in_scope p core k f.scope f.part f.scope_there t u i j f.tests_before before f.fails fails

  abbrev Same : ℕ → ℕ → CertTest → CertTest → ℕ → ℕ → Type 0
  Same k l t u i j = (k ≡ l) × (t ≡ u) × (i ≡ j)

  one_scope : (k l : ℕ) (t u : CertTest) (i j : ℕ) → FailsInScope p cert k t i → FailsInScope p cert l u j → Same k l t u i j
  one_scope k l t u i j f g = elim (cases_equal k l) [
    | inl e ↦ (let r = same_scope l t u i j (subst (λ v. FailsInScope p cert v t i) e f) g in (e, r.0, r.1))
    | inr n ↦ absurd (elim (cases_lt k l) [ inl h ↦ not_before k l t u i j f g h | inr h ↦ not_before l k u t j i g f (omega (arith, h, n)) ])
  ]

  in_scope : (k : ℕ) (t : CertTest) (i : ℕ) → IsFirstUnproved p cert k t i → ScopesHold p cert → FailsInScope p cert k t i
  in_scope k Scopes i f n = absurd (f.0 n)
  in_scope k Types i f n = f
  in_scope k Pairs i f n = f
  in_scope k Plain i f n = f
  in_scope k Lines i f n = f
  in_scope k Nodes i f n = f

  of_scopes : (k : ℕ) (t : CertTest) (i : ℕ) → IsFirstUnproved p cert k t i → (ScopesHold p cert → ⊥) → (k ≡ 0) × (t ≡ Scopes) × (i ≡ 0)
  of_scopes k Scopes i f n = (f.1, refl, f.2)
  of_scopes k Types i f n = absurd (n f.number)
  of_scopes k Pairs i f n = absurd (n f.number)
  of_scopes k Plain i f n = absurd (n f.number)
  of_scopes k Lines i f n = absurd (n f.number)
  of_scopes k Nodes i f n = absurd (n f.number)

pub unproved_is_no_proof : UnprovedIsNoProof
unproved_is_no_proof p cert core k test i f w = refutes p core cert k test i (in_scope p core cert k test i f w.number) w

pub one_unproved : OneUnproved
one_unproved p cert core k l t u i j f g =
    elim (cases_equal (length cert) (length p.scopes)) [
      | inl n ↦ one_scope p core cert k l t u i j (in_scope p core cert k t i f n) (in_scope p core cert l u j g n)
      | inr n ↦
          let a = of_scopes p core cert k t i f n in
          let b = of_scopes p core cert l u j g n in
          (a.0 ∙ sym b.0, a.1 ∙ sym b.1, a.2 ∙ sym b.2)
    ]
