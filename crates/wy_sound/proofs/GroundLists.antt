-- Lists of types of a run without one twice: what is added to one, and what adding the types that methods name comes to.
use Rattle.std.proofs.Common.{◌≡◌, ℕ, zero, suc, ◌+◌, ◌<◌, ◌≤◌, List, [], ◌∷◌, ◌++◌, ◌⊎◌, inl, inr, length, refl, sym, ap, ◌∙◌, subst, arith, true, false, length-append}
use Rattle.std.specs.Prelude.{if◌then◌else◌}
use Rattle.std.proofs.lemmas.Bool.{eqb-true, eq-eqb}
use Rattle.wy_text.specs.Members.{In, Within, Apart}
use Rattle.wy_text.proofs.Lists.{In-left, In-right, In-cases, Apart-push}
use Rattle.wy_types.specs.declared.types.TypeRef.TheVariants as of
use Rattle.wy_types.specs.declared.path.Step.{Step}
use Rattle.wy_types.specs.Program.{Program}
use Rattle.wy_types.specs.Signature.{signature_types}
use Rattle.wy_types.specs.Paths.{Walks}
use Rattle.wy_types.proofs.Reaching.{part_of_signature, signature_types-part}
use Rattle.wy_rules.specs.GroundTypes.{GroundType, Int, Bool, Text, Nothing, Named, At, Own, ground_methods}
use Rattle.wy_rules.proofs.SameTypes.{both_left, both_right, types_are_told_apart}
use Rattle.wy_sound.specs.GroundReached.{same_ground, is_among, with_others, named_by, with_named}

------------------------------------------------------------
-- The test says exactly whether two types are the same

pub ground_exact : (t u : GroundType) → same_ground t u ≡ true → t ≡ u
ground_exact Int Int h = refl
ground_exact Bool Bool h = refl
ground_exact Text Text h = refl
ground_exact Nothing Nothing h = refl
ground_exact (Named d es) (Named e fs) h =
    let q : of.Named d es ≡ of.Named e fs = (types_are_told_apart (of.Named d es) (of.Named e fs)).0 h in
    cc
ground_exact (At d e) (At f g) h =
    let q : of.At d e ≡ of.At f g = (types_are_told_apart (of.At d e) (of.At f g)).0 h in
    cc
ground_exact (Own x l) (Own y k) h =
    let q = eqb-true x y (both_left _ _ h) in
    let r = eqb-true l k (both_right _ _ h) in
    cc
ground_exact t u h = absurd (cc)

pub ground_itself : (t : GroundType) → same_ground t t ≡ true
ground_itself Int = refl
ground_itself Bool = refl
ground_itself Text = refl
ground_itself Nothing = refl
ground_itself (Named d es) = (types_are_told_apart (of.Named d es) (of.Named d es)).1 refl
ground_itself (At d e) = (types_are_told_apart (of.At d e) (of.At d e)).1 refl
ground_itself (Own x l) = rw (eq-eqb x x refl) (eq-eqb l l refl)

pub among : (t : GroundType) (us : List GroundType) → is_among t us ≡ true → In t us
among t [] e = absurd (cc)
among t (u ∷ us) e =
    elim (same_ground u t) as (λ b. same_ground u t ≡ b → (if b then true else is_among t us) ≡ true → In t (u ∷ us)) [
      | true ↦ λ h k. inl (ground_exact u t h)
      | false ↦ λ h k. inr (among t us k)
    ] refl e

absent : (t : GroundType) (us : List GroundType) → is_among t us ≡ false → In t us → ⊥
absent t [] e i = i
absent t (u ∷ us) e i =
    elim (same_ground u t) as (λ b. same_ground u t ≡ b → (if b then true else is_among t us) ≡ false → ⊥) [
      | true ↦ λ h k. absurd (cc)
      | false ↦ λ h k. elim i [
        | inl q ↦ (let same = ground_itself u in let other = subst (λ v. same_ground u v ≡ false) (sym q) h in absurd (cc))
        | inr j ↦ absent t us k j
      ]
    ] refl e

------------------------------------------------------------
-- Types that are added to a list

record Adds (us ts vs : List GroundType) : Type 0 where
  old : Within us vs
  new : Within ts vs
  only : (x : GroundType) → In x vs → In x us ⊎ In x ts
  apart : Apart us → Apart vs
  grows : (Within ts us × (vs ≡ us)) ⊎ (length us < length vs)

known : (t : GroundType) (us ts vs : List GroundType) → In t us → Adds us ts vs → Adds us (t ∷ ts) vs
known t us ts vs there a = record {
  old = a.old;
  new = λ x i. elim i [ inl e ↦ a.old x (subst (λ v. In v us) e there) | inr j ↦ a.new x j ];
  only = λ x i. elim (a.only x i) [ inl u ↦ inl u | inr v ↦ inr (inr v) ];
  apart = a.apart;
  grows = elim a.grows [
    | inl g ↦ inl ((λ x i. elim i [ inl e ↦ subst (λ v. In v us) e there | inr j ↦ g.0 x j ]), g.1)
    | inr lt ↦ inr lt
  ];
}

pushed_longer : (t : GroundType) (us vs : List GroundType) → length (us ++ t ∷ []) ≤ length vs → length us < length vs
pushed_longer t us vs le = omega (arith, le, length-append us (t ∷ []))

fresh : (t : GroundType) (us ts vs : List GroundType) → (In t us → ⊥) → Adds (us ++ t ∷ []) ts vs → Adds us (t ∷ ts) vs
fresh t us ts vs lacks a = record {
  old = λ x i. a.old x (In-left x us (t ∷ []) i);
  new = λ x i. elim i [ inl e ↦ a.old x (In-right x us (t ∷ []) (inl e)) | inr j ↦ a.new x j ];
  only = λ x i. elim (a.only x i) [
    | inl u ↦ elim (In-cases x us (t ∷ []) u) [ inl v ↦ inl v | inr w ↦ elim w [ inl e ↦ inr (inl e) | inr z ↦ absurd z ] ]
    | inr v ↦ inr (inr v)
  ];
  apart = λ h. a.apart (Apart-push t us h lacks);
  grows = inr (pushed_longer t us vs (elim a.grows [
    | inl g ↦ subst (λ (v : List GroundType). length (us ++ t ∷ []) ≤ length v) (sym g.1) (omega arith)
    | inr lt ↦ omega (arith, lt)
  ]));
}

adds : (ts us : List GroundType) → Adds us ts (with_others us ts)
adds [] us = record { old = λ x i. i; new = λ x i. absurd i; only = λ x i. inl i; apart = λ a. a; grows = inl ((λ x i. absurd i), refl) }
adds (t ∷ ts) us =
    elim (is_among t us) as (λ b. is_among t us ≡ b → Adds us (t ∷ ts) (if b then with_others us ts else with_others (us ++ t ∷ []) ts)) [
      | true ↦ λ e. known t us ts _ (among t us e) (adds ts us)
      | false ↦ λ e. fresh t us ts _ (absent t us e) (adds ts (us ++ t ∷ []))
    ] refl

-- those of a list, each once
pub each_once : (ts : List GroundType) → Apart (with_others [] ts) × ((t : GroundType) → In t ts → In t (with_others [] ts)) × ((t : GroundType) → In t (with_others [] ts) → In t ts)
each_once ts =
    let a = adds ts [] in (
      a.apart tt,
      λ t i. a.new t i,
      λ t i. elim (a.only t i) [ inl z ↦ absurd z | inr j ↦ j ],
    )

------------------------------------------------------------
-- The types that methods name, over and over

module _ (p : Program) where
  named_in : (us : List GroundType) (t u : GroundType) → In t us → In u (signature_types (ground_methods p t)) → In u (named_by p us)
  named_in [] t u i j = absurd i
  named_in (v ∷ us) t u (inl e) j = In-left u (signature_types (ground_methods p v)) (named_by p us) (subst (λ w. In u (signature_types (ground_methods p w))) (sym e) j)
  named_in (v ∷ us) t u (inr i) j = In-right u (signature_types (ground_methods p v)) (named_by p us) (named_in us t u i j)

  named_out : (us : List GroundType) (u : GroundType) → In u (named_by p us) → (t : GroundType) × In t us × In u (signature_types (ground_methods p t))
  named_out [] u i = absurd i
  named_out (v ∷ us) u i = elim (In-cases u (signature_types (ground_methods p v)) (named_by p us) i) [
    | inl j ↦ (v, inl refl, j)
    | inr j ↦ (let r = named_out us u j in (r.0, inr r.1, r.2))
  ]

  -- a path leads to it from one of these
  abbrev pub IsFrom : List GroundType → GroundType → Type 0
  IsFrom us t = (u : GroundType) × In u us × ((path : List Step) × Walks GroundType (ground_methods p) u path t)

  -- a list that has these, closed under what methods name, and what it has is reached from these
  pub record Rounds (P : GroundType → Type 0) (us vs : List GroundType) : Type 0 where
    pub old : Within us vs
    pub apart : Apart vs
    pub each : (t : GroundType) → In t vs → P t
    pub closed : (t u : GroundType) → In t vs → In u (signature_types (ground_methods p t)) → In u vs
    pub from : (t : GroundType) → In t vs → IsFrom us t

  settled : (n : ℕ) (us : List GroundType) → with_others us (named_by p us) ≡ us → with_named p n us ≡ us
  settled zero us e = refl
  settled (suc n) us e = ap (with_named p n) e ∙ settled n us e

  module _ (P : GroundType → Type 0) (kept : (t u : GroundType) → P t → In u (signature_types (ground_methods p t)) → P u)
      (bound : ℕ) (few : (us : List GroundType) → Apart us → ((u : GroundType) → In u us → P u) → length us ≤ bound) where
    closed_already : (us : List GroundType) → Apart us → ((t : GroundType) → In t us → P t) → Within (named_by p us) us → Rounds P us us
    closed_already us apart each within = record {
      old = λ t i. i;
      apart = apart;
      each = each;
      closed = λ t u i j. within u (named_in us t u i j);
      from = λ t i. (t, i, ([], refl));
    }

    -- from what these name
    step_back : (us : List GroundType) (t : GroundType) → IsFrom (with_others us (named_by p us)) t → IsFrom us t
    step_back us t r = elim ((adds (named_by p us) us).only r.0 r.1) [
      | inl i ↦ (r.0, i, r.2)
      | inr i ↦
          let n = named_out us r.0 i in
          let m = part_of_signature GroundType (ground_methods p) (ground_methods p n.0) r.0 n.2 in
          let s : Step = record { method = m.0.name; part = m.2.0 } in
          (n.0, n.1, (s ∷ r.2.0, (r.0, record { method = m.0; has = m.1; named = refl; part = m.2.1 }, r.2.1)))
    ]

    pub rounds : (n : ℕ) (us : List GroundType) → Apart us → ((t : GroundType) → In t us → P t) → bound < length us + n → Rounds P us (with_named p n us)
    rounds zero us apart each room = absurd (let le = few us apart each in omega (arith, le, room))
    rounds (suc n) us apart each room =
        let a = adds (named_by p us) us in
        elim a.grows [
          | inl g ↦ subst (Rounds P us) (sym (settled (suc n) us g.1)) (closed_already us apart each g.0)
          | inr more ↦
              let each_more : (t : GroundType) → In t (with_others us (named_by p us)) → P t =
              λ t i. elim (a.only t i) [ inl j ↦ each t j | inr j ↦ (let r = named_out us t j in kept r.0 t (each r.0 r.1) r.2) ] in
              let r = rounds n (with_others us (named_by p us)) (a.apart apart) each_more (omega (arith, more, room)) in
              record {
                old = λ t i. r.old t (a.old t i);
                apart = r.apart;
                each = r.each;
                closed = r.closed;
                from = λ t i. step_back us t (r.from t i);
              }
        ]

  -- a list that is closed so has all that is reached from it
  pub closed_walks : (vs : List GroundType) → ((t u : GroundType) → In t vs → In u (signature_types (ground_methods p t)) → In u vs) → (path : List Step) (t u : GroundType) → In t vs →
      Walks GroundType (ground_methods p) t path u → In u vs
  closed_walks vs closed [] t u i w = subst (λ v. In v vs) w i
  closed_walks vs closed (s ∷ path) t u i w =
      let next = signature_types-part GroundType (ground_methods p) (ground_methods p t) w.1.method s.part w.0 w.1.has w.1.part in
      closed_walks vs closed path w.0 u (closed t w.0 i next) w.2
