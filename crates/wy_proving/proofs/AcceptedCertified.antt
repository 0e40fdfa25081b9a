-- An accepted program has a certificate: of each scope the canonical derivation, and closed lists of the pairs that it and the
-- rules for the module and its lines ask.
use Rattle.std.proofs.Common.{◌≡◌, ℕ, zero, suc, List, [], ◌∷◌, ◌++◌, map, length, inl, inr, refl, sym, ◌∙◌, ap, subst, Some, Bool as Truth, true, false}
use Rattle.std.specs.Prelude.{slice_get}
use Rattle.std.proofs.Math.ListN.{length-map}
use Rattle.std.proofs.lemmas.List.{map-id}
use Rattle.wy_text.specs.Members.{In, Within}
use Rattle.wy_effects.specs.EffSet.{IsSet, union}
use Rattle.wy_effects.specs.Bounds.{Bounds, IsUnder, IsWithin}
use Rattle.wy_text.proofs.Lists.{In-left, In-right, In-cases, In-map, In-unmap, In-slice_get}
use Rattle.wy_effects.proofs.SetLaws.{IsSetFrom-union}
use Rattle.wy_types.specs.declared.types.TypeRef.{TypeRef}
use Rattle.wy_types.specs.Program.{Program, Scope}
use Rattle.wy_types.specs.Types.{is_plain, erased, methods_of}
use Rattle.wy_types.specs.Bounds.{bounds_of}
use Rattle.wy_types.specs.Subtyping.{AnyEffect}
use Rattle.wy_types.specs.Core.{IsCore, ScopeFits}
use Rattle.wy_types.specs.Vals.{scope_vals}
use Rattle.wy_rules.specs.Readings.{annotated_reading, plain_reading}
use Rattle.wy_rules.specs.PlainMethods.{erased_methods}
use Rattle.wy_rules.specs.Typing.{DerivesScope}
use Rattle.wy_rules.specs.Acceptance.{ScopeAccepted, reading_of, scope_reading}
use Rattle.wy_rules.specs.Canonical.{canonical_scope, same_read, same_type, locals_of}
use Rattle.wy_rules.specs.Reached.{IsReached, Each}
use Rattle.wy_rules.proofs.Reaching.{canonical_types_are_reached}
use Rattle.wy_rules.proofs.WritingScopes.{canonical_derivation_holds, scopes_have_canonical_derivations}
use Rattle.wy_rules.proofs.Transferring.{Tests}
use Rattle.wy_cert.specs.declared.certificate.CertScope.{CertScope}
use Rattle.wy_proving.specs.Certified.{Pair, bare, types_of, annotated_pairs, plain_pairs, named_types}
use Rattle.wy_proving.specs.Steps.{Step, scope_steps}
use Rattle.wy_proving.specs.Proving.{AllStand, TypeStands, is_empty, scope_rules, annotated_lists, plain_lists, AreDerivedIn, AreWrittenIn, ScopeProof, IsWrittenOver, AcceptedHasCertificate, IsCanonical, AcceptedHasCanonicalCertificate, AreTypesOfVals, AcceptedHasWrittenCertificate}
use Rattle.wy_proving.proofs.BareStand.{BareStands, decide_bare, bare_of_standing, bare_method_stands, erased_subtype}
use Rattle.wy_proving.proofs.ClosedPairs.{Closed, IsAsked, closed_of}
use Rattle.wy_proving.proofs.EffectsKept.{scope_keeps}
use Rattle.wy_proving.proofs.ExactLists.{pair_listed, ascended}
use Rattle.wy_proving.specs.Written.{asked_by_all, unless_plain, where_plain, asked_by, asked_plainly, step_types, sub_pairs, pair_types, written_out, steps_in, written_steps}
use Rattle.wy_proving.specs.WrittenLaws.{IsWhole, AreFound, AskedStand, WrittenIsProof, WhatIsAskedStands, NamedTypesStand, NamedBareTypesStand}
use Rattle.wy_proving.specs.Written as written
use Rattle.wy_proving.proofs.LinesAsked.{asked_by_each, asked_by_one, Asks, AsksPlainly, each_asked, each_asked_plainly, rules_hold, rule_stands}
use Rattle.wy_proving.proofs.ListedClosed.{Whole, part, in_steps, in_locals, types_hold, asked_listed, asked_plainly_listed, pairs_hold, plain_hold, whole_of}
use Rattle.wy_proving.proofs.LocalsCounted.{locals_counted}
use Rattle.wy_proving.proofs.MethodEffects.{method_set, method_empty}
use Rattle.wy_proving.proofs.ReachedStand.{method_stands}
use Rattle.wy_proving.proofs.StandingKept.{each_of, all_stand, stands_kept, answer_stands, names_stand}
use Rattle.wy_proving.proofs.StandingDecided.{decide_stands}
use Rattle.wy_proving.proofs.StepsGood.{AreEffects, IsGood, scope_good}
use Rattle.wy_proving.proofs.StepsListed.{over, types_stand, subs_asked, each_said}
use Rattle.wy_proving.proofs.WrittenOut.{locals_back, steps_said}

abbrev plain_tests : Tests
plain_tests = record { Includes = AnyEffect; Allows = AnyEffect; Under = λ f a. Unit {0} }

abbrev tests_over : Bounds → Tests
tests_over bounds = record { Includes = Within; Allows = IsWithin bounds; Under = IsUnder bounds }

each_in : {X : Type 0} (P : X → Type 0) (xs : List X) → Each P xs → (x : X) → In x xs → P x
each_in P [] h x i = absurd i
each_in P (a ∷ xs) h x (inl e) = subst P e h.0
each_in P (a ∷ xs) h x (inr i) = each_in P xs h.1 x i

module _ (p : Program) (core : IsCore p) (k : ℕ) (s : Scope) (at : slice_get p.scopes k ≡ Some s) (fits : ScopeFits p s) (accepted : ScopeAccepted p k s) where
  ------------------------------------------------------------
  -- Closed lists of what is asked: by the rules, and by T-Subs

  abbrev ruled : List Pair
  ruled = asked_by_all (asked_by p k s) (scope_rules s)

  abbrev ruled_plainly : List Pair
  ruled_plainly = asked_by_all (asked_plainly p k s) (scope_rules s)

  closed_list : (subs : List Pair) → ((q : Pair) → In {X = Pair} q subs → Asks p core k s at fits q) → Closed (methods_of p k) (IsWithin (bounds_of p k)) (TypeStands p s) (subs ++ ruled)
  closed_list subs h =
      closed_of (methods_of p k) (IsWithin (bounds_of p k)) (TypeStands p s) (decide_stands p s) (method_stands p core k s at fits) (subs ++ ruled)
      (λ q i. elim (In-cases {X = Pair} q subs ruled i) [
        | inl j ↦ h q j
        | inr j ↦ asked_by_each (asked_by p k s) (Asks p core k s at fits) (scope_rules s) (λ r l. each_asked p core k s at fits r (rules_hold p core k s at fits accepted r l)) q j
      ])

  closed_plain_list : (subs : List Pair) → ((q : Pair) → In {X = Pair} q subs → AsksPlainly p core k s at fits q) →
      Closed (erased_methods p k) AnyEffect (BareStands p s) (map bare (subs ++ ruled_plainly))
  closed_plain_list subs h =
      let all : (q : Pair) → In {X = Pair} q (subs ++ ruled_plainly) → AsksPlainly p core k s at fits q =
      λ q i. elim (In-cases {X = Pair} q subs ruled_plainly i) [
        | inl j ↦ h q j
        | inr j ↦ asked_by_each (asked_plainly p k s) (AsksPlainly p core k s at fits) (scope_rules s) (λ r l. each_asked_plainly p core k s at fits r (rules_hold p core k s at fits accepted r l)) q j
      ] in
      closed_of (erased_methods p k) AnyEffect (BareStands p s) (decide_bare p s) (λ t w m i. bare_method_stands p core k s at fits t m i) (map bare (subs ++ ruled_plainly))
      (λ q i.
      let r = In-unmap bare q (subs ++ ruled_plainly) i in
      let Q : Pair → Type 0 = IsAsked (erased_methods p k) AnyEffect (BareStands p s) in
      subst Q r.2 (all r.0 r.1))

  ------------------------------------------------------------
  -- What is said of the scope, where the pairs of its T-Subs are asked too

  -- of types of `val`s and steps that stand; the pairs of T-Subs are asked of the list that the scope's kind looks into
  record Asking : Type 0 where
    pub subs : List Pair
    pub asked : (q : Pair) → In {X = Pair} q subs → Asks p core k s at fits q
    pub plain_subs : List Pair
    pub asked_plainly : (q : Pair) → In {X = Pair} q plain_subs → AsksPlainly p core k s at fits q
    pub locals : List TypeRef
    pub number : length locals ≡ length (scope_vals s)
    pub locals_stand : Each (TypeStands p s) locals
    pub steps : List (Step TypeRef)
    pub steps_stand : (t : TypeRef) → In t (step_types steps) → TypeStands p s t

  module _ (w : Asking) where
    abbrev asks : List Pair
    asks = w.subs ++ ruled

    abbrev plain_asks : List Pair
    plain_asks = map bare (w.plain_subs ++ ruled_plainly)

    -- lists from which a part of a certificate is written
    abbrev Lists : Type 0
    Lists = Whole p k s asks plain_asks w.locals w.steps

    -- there are such lists
    lists : Lists
    lists = whole_of p k s asks plain_asks w.locals w.steps (closed_list w.subs w.asked) (closed_plain_list w.plain_subs w.asked_plainly) w.steps_stand (each_in (TypeStands p s) w.locals w.locals_stand)

  module _ (w : Asking) (whole : Lists w) where
    abbrev c : CertScope
    c = part p k s (asks w) (plain_asks w) w.locals w.steps whole

    listed : (q : Pair) → In {X = Pair} q (w.subs ++ ruled) → In {X = Pair} q (annotated_pairs c)
    listed = asked_listed p k s (asks w) (plain_asks w) w.locals w.steps whole

    listed_plainly : (q : Pair) → In {X = Pair} q (w.plain_subs ++ ruled_plainly) → In {X = Pair} (bare q) (plain_pairs c)
    listed_plainly q i = asked_plainly_listed p k s (asks w) (plain_asks w) w.locals w.steps whole (bare q) (In-map {X = Pair} {Y = Pair} bare q (w.plain_subs ++ ruled_plainly) i)

    sub_listed : (q : Pair) → In {X = Pair} q w.subs → In {X = Pair} q (annotated_pairs c)
    sub_listed q i = listed q (In-left {X = Pair} q w.subs ruled i)

    sub_listed_plainly : (q : Pair) → In {X = Pair} q w.plain_subs → In {X = Pair} (bare q) (plain_pairs c)
    sub_listed_plainly q i = listed_plainly q (In-left {X = Pair} q w.plain_subs ruled_plainly i)

    named : named_types (types_of c) c.locals ≡ Some w.locals
    named = locals_back whole.types w.locals (in_locals p k s (asks w) (plain_asks w) w.locals w.steps whole)

    proof : AreDerivedIn p k s c (is_plain s.kind) w.locals → ScopeProof p k s c
    proof h = record {
      types = types_hold p k s (asks w) (plain_asks w) w.locals w.steps whole;
      pairs = pairs_hold p k s (asks w) (plain_asks w) w.locals w.steps whole;
      plain = plain_hold p k s (asks w) (plain_asks w) w.locals w.steps whole;
      lines = λ r i.
          rule_stands p core k s at fits accepted c r (rules_hold p core k s at fits accepted r i)
          (λ q j. listed q (In-right {X = Pair} q w.subs ruled (asked_by_one (asked_by p k s) (scope_rules s) r i q j)))
          (λ q j. listed_plainly q (In-right {X = Pair} q w.plain_subs ruled_plainly (asked_by_one (asked_plainly p k s) (scope_rules s) r i q j)));
      nodes = record { number = length-map w.locals _ ∙ w.number; locals = w.locals; named = named; derived = h };
    }

  ------------------------------------------------------------
  -- The scope, by its kind

  abbrev Certified : List TypeRef → Type 0
  Certified us = (c : CertScope) × ScopeProof p k s c × IsWrittenOver p k s c us

  annotated_effects : AreEffects (annotated_reading p k) (TypeStands p s) (IsSet (length s.atoms))
  annotated_effects = record {
    empty = tt;
    both = λ e f. IsSetFrom-union 0 (length s.atoms) e f;
    method = method_set p k s at fits;
  }

  both_empty : (e f : List ℕ) → e ≡ [] → f ≡ [] → union e f ≡ []
  both_empty e f h g = subst (λ v. union v f ≡ []) (sym h) g

  plain_effects : is_plain s.kind ≡ true → AreEffects (plain_reading p k) (TypeStands p s) (λ e. e ≡ [])
  plain_effects h = record { empty = refl; both = both_empty; method = method_empty p k s at fits h }

  no_pairs : (A : Pair → Type 0) (q : Pair) → In {X = Pair} q [] → A q
  no_pairs A q i = absurd i

  -- what is written is a proof of the scope, over these types of its `val`s
  abbrev IsCertified : CertScope → List TypeRef → Type 0
  IsCertified c us = ScopeProof p k s c × IsWrittenOver p k s c us

  -- an annotated scope, over types of its `val`s over which what is written derives it
  module _ (us : List TypeRef) (number : length us ≡ length (scope_vals s)) (stand : Each (TypeStands p s) us) where
    module _ (derives : DerivesScope (annotated_reading p k) s (canonical_scope (annotated_reading p k) same_type s us)) where
      abbrev annotated_steps : List (Step TypeRef)
      annotated_steps = scope_steps (annotated_reading p k) s (canonical_scope (annotated_reading p k) same_type s us)

      abbrev annotated_tests : Tests
      annotated_tests = tests_over (bounds_of p k)

      annotated_good : Each (IsGood (over (methods_of p k) annotated_tests) (TypeStands p s) (IsSet (length s.atoms))) annotated_steps
      annotated_good =
          let y = annotated_reading p k in
          let keeps = scope_keeps y same_type s us in
          scope_good y (TypeStands p s) (IsSet (length s.atoms)) s (stands_kept p core k s at fits annotated_tests) annotated_effects (answer_stands p core k s at fits annotated_tests) (canonical_scope y same_type s us) derives
          (names_stand p core k s at fits annotated_tests us stand) keeps.0 keeps.1

      abbrev annotated_asking : Asking
      annotated_asking = record {
        subs = sub_pairs annotated_steps;
        asked = subs_asked (methods_of p k) annotated_tests (TypeStands p s) (IsSet (length s.atoms)) annotated_steps annotated_good;
        plain_subs = [];
        asked_plainly = no_pairs (AsksPlainly p core k s at fits);
        locals = us;
        number = number;
        locals_stand = stand;
        steps = annotated_steps;
        steps_stand = types_stand (methods_of p k) annotated_tests (TypeStands p s) (IsSet (length s.atoms)) annotated_steps annotated_good;
      }

      annotated_part : is_plain s.kind ≡ false → (whole : Lists annotated_asking) → IsCertified (c annotated_asking whole) us
      annotated_part e whole =
          let w = annotated_asking in
          let lists = annotated_lists p k s (c w whole) in
          let pair : (l r : TypeRef) → In {X = Pair} (l, r) (sub_pairs annotated_steps) → lists.listed l r ≡ true = λ l r i. (pair_listed (annotated_pairs (c w whole)) l r).1 (sub_listed w whole (l, r) i) in
          let said = each_said (methods_of p k) annotated_tests (TypeStands p s) (IsSet (length s.atoms)) whole.types lists (λ n. refl) (λ f g. ascended 0 (length s.atoms) f g) annotated_steps annotated_good
          (in_steps p k s (asks w) (plain_asks w) us annotated_steps whole) pair in
          let written : AreWrittenIn p k s (c w whole) false us = steps_said whole.types lists (λ n. refl) annotated_steps said in
          let nodes : AreDerivedIn p k s (c w whole) false us = (canonical_scope (annotated_reading p k) same_type s us, refl, derives, written) in
          (proof w whole (subst (λ b. AreDerivedIn p k s (c w whole) b us) (sym e) nodes), record { named = named w whole; written = subst (λ b. AreWrittenIn p k s (c w whole) b us) (sym e) written })

    plain_asked : (q : Pair) → IsAsked (methods_of p k) AnyEffect (TypeStands p s) q → AsksPlainly p core k s at fits q
    plain_asked q h = (erased_subtype p k q.0 q.1 h.0, bare_of_standing p s q.0 h.1, bare_of_standing p s q.1 h.2)

    -- .. and a plain module
    module _ (e : is_plain s.kind ≡ true) (derives : DerivesScope (plain_reading p k) s (canonical_scope (plain_reading p k) same_type s us)) where
      abbrev plain_steps : List (Step TypeRef)
      plain_steps = scope_steps (plain_reading p k) s (canonical_scope (plain_reading p k) same_type s us)

      plain_good : Each (IsGood (over (methods_of p k) plain_tests) (TypeStands p s) (λ f. f ≡ [])) plain_steps
      plain_good =
          let y = plain_reading p k in
          let keeps = scope_keeps y same_type s us in
          scope_good y (TypeStands p s) (λ f. f ≡ []) s (stands_kept p core k s at fits plain_tests) (plain_effects e) (answer_stands p core k s at fits plain_tests) (canonical_scope y same_type s us) derives
          (names_stand p core k s at fits plain_tests us stand) keeps.0 keeps.1

      abbrev plain_asking : Asking
      plain_asking = record {
        subs = [];
        asked = no_pairs (Asks p core k s at fits);
        plain_subs = sub_pairs plain_steps;
        asked_plainly = λ q i. plain_asked q (subs_asked (methods_of p k) plain_tests (TypeStands p s) (λ f. f ≡ []) plain_steps plain_good q i);
        locals = us;
        number = number;
        locals_stand = stand;
        steps = plain_steps;
        steps_stand = types_stand (methods_of p k) plain_tests (TypeStands p s) (λ f. f ≡ []) plain_steps plain_good;
      }

      plain_part : (whole : Lists plain_asking) → IsCertified (c plain_asking whole) us
      plain_part whole =
          let w = plain_asking in
          let lists = plain_lists p k s (c w whole) in
          let pair : (l r : TypeRef) → In {X = Pair} (l, r) (sub_pairs plain_steps) → lists.listed l r ≡ true = λ l r i. (pair_listed (plain_pairs (c w whole)) (erased l) (erased r)).1 (sub_listed_plainly w whole (l, r) i) in
          let said = each_said (methods_of p k) plain_tests (TypeStands p s) (λ f. f ≡ []) whole.types lists (λ n. refl) (λ f g. ap is_empty g) plain_steps plain_good (in_steps p k s (asks w) (plain_asks w) us plain_steps whole) pair in
          let written : AreWrittenIn p k s (c w whole) true us = steps_said whole.types lists (λ n. refl) plain_steps said in
          let nodes : AreDerivedIn p k s (c w whole) true us = (canonical_scope (plain_reading p k) same_type s us, refl, derives, written) in
          (proof w whole (subst (λ b. AreDerivedIn p k s (c w whole) b us) (sym e) nodes), record { named = named w whole; written = subst (λ b. AreWrittenIn p k s (c w whole) b us) (sym e) written })

    -- there is such a part, over either
    annotated_there : is_plain s.kind ≡ false → DerivesScope (annotated_reading p k) s (canonical_scope (annotated_reading p k) same_type s us) → Certified us
    annotated_there e d = (let w = annotated_asking d in let r = annotated_part d e (lists w) in (c w (lists w), r.0, r.1))

    plain_there : is_plain s.kind ≡ true → DerivesScope (plain_reading p k) s (canonical_scope (plain_reading p k) same_type s us) → Certified us
    plain_there e d = (let w = plain_asking e d in let r = plain_part e d (lists w) in (c w (lists w), r.0, r.1))

  ------------------------------------------------------------
  -- Over the types of `val`s that are found one after the other

  -- .. as a kind of scope reads them
  abbrev FoundOver : (plain : Truth) → List (reading_of p k plain).Kind → CertScope → Type 0
  FoundOver plain us c = (types : List TypeRef) × (map (reading_of p k plain).read types ≡ us) × IsWrittenOver p k s c types

  found_part : (plain : Truth) → is_plain s.kind ≡ plain → (us : List (reading_of p k plain).Kind) → length us ≡ length (scope_vals s) → Each (IsReached (reading_of p k plain) s) us →
      DerivesScope (reading_of p k plain) s (canonical_scope (reading_of p k plain) (same_read p k plain) s us) → (c : CertScope) × ScopeProof p k s c × FoundOver plain us c
  found_part true e us n h d = (let r = plain_there us n (all_stand p core k s at fits plain_tests us h) e d in (r.0, r.1, (us, map-id us, r.2)))
  found_part false e us n h d = (let r = annotated_there us n (all_stand p core k s at fits (tests_over (bounds_of p k)) us h) e d in (r.0, r.1, (us, map-id us, r.2)))

  canonical_part : (c : CertScope) × ScopeProof p k s c × IsCanonical p k s c
  canonical_part =
      found_part (is_plain s.kind) refl (locals_of p k s) (locals_counted p core k s at accepted.bodies) (canonical_types_are_reached p k s fits).0 (scopes_have_canonical_derivations p k s fits accepted.bodies).1

  ------------------------------------------------------------
  -- Over given ones

  given_part : (plain : Truth) → is_plain s.kind ≡ plain → (us : List TypeRef) → length us ≡ length (scope_vals s) → Each (TypeStands p s) us →
      DerivesScope (reading_of p k plain) s (canonical_scope (reading_of p k plain) (same_read p k plain) s (map (reading_of p k plain).read us)) → Certified us
  given_part true e us n h d = plain_there us n h e (subst (λ vs. DerivesScope (plain_reading p k) s (canonical_scope (plain_reading p k) same_type s vs)) (map-id us) d)
  given_part false e us n h d = annotated_there us n h e (subst (λ vs. DerivesScope (annotated_reading p k) s (canonical_scope (annotated_reading p k) same_type s vs)) (map-id us) d)

  written_part : (us : List TypeRef) → AreTypesOfVals p k s us → Certified us
  written_part us h = given_part (is_plain s.kind) refl us h.size (each_of (TypeStands p s) us h.stand) (canonical_derivation_holds p k s fits (map (scope_reading p k s).read us) h.nodes)

  ------------------------------------------------------------
  -- Over lists that are given

  -- .. as a law has them
  abbrev lists_of : (us ts : List TypeRef) (ps bs qs rs : List Pair) (sts : List (Step TypeRef)) → qs ≡ written.asks p k s us → rs ≡ written.plain_asks p k s us → sts ≡ written_steps p k s us → IsWhole p k s us ts ps bs → Whole p k s qs (map bare rs) us sts
  lists_of us ts ps bs qs rs sts e f g w = record {
    types = ts;
    pairs = ps;
    bares = bs;
    asked = λ q i. w.asked q (subst (λ l. In {X = Pair} q l) e i);
    closed = w.closed;
    asked_plainly = λ q i. (let r = In-unmap bare q rs i in subst (λ v. In {X = Pair} v (map bare bs)) r.2 (w.asked_plainly r.0 (subst (λ l. In {X = Pair} r.0 l) f r.1)));
    closed_plainly = w.closed_plainly;
    listed = λ t i. w.listed t (subst (λ l. In t (pair_types ps ++ (pair_types bs ++ (step_types l ++ us)))) g i);
    stand = w.stand;
  }

  written_over : (plain : Truth) → is_plain s.kind ≡ plain → (us ts : List TypeRef) (ps bs : List Pair) → length us ≡ length (scope_vals s) → Each (TypeStands p s) us →
      DerivesScope (reading_of p k plain) s (canonical_scope (reading_of p k plain) (same_read p k plain) s (map (reading_of p k plain).read us)) → IsWhole p k s us ts ps bs → ScopeProof p k s (written_out ts ps bs us (steps_in p k s plain us))
  written_over true e us ts ps bs n h d w =
      let derives = subst (λ vs. DerivesScope (plain_reading p k) s (canonical_scope (plain_reading p k) same_type s vs)) (map-id us) d in
      let same : plain_steps us n h e derives ≡ written_steps p k s us = ap (λ b. steps_in p k s b us) (sym e) in
      let asked : ruled ≡ written.asks p k s us = ap (λ b. unless_plain b (sub_pairs (written_steps p k s us)) ++ ruled) (sym e) in
      let asked_plainly : sub_pairs (plain_steps us n h e derives) ++ ruled_plainly ≡ written.plain_asks p k s us =
      ap (λ l. sub_pairs l ++ ruled_plainly) same ∙ ap (λ b. where_plain b (sub_pairs (written_steps p k s us)) ++ ruled_plainly) (sym e) in
      (plain_part us n h e derives (lists_of us ts ps bs _ _ _ asked asked_plainly same w)).0
  written_over false e us ts ps bs n h d w =
      let derives = subst (λ vs. DerivesScope (annotated_reading p k) s (canonical_scope (annotated_reading p k) same_type s vs)) (map-id us) d in
      let same : annotated_steps us n h derives ≡ written_steps p k s us = ap (λ b. steps_in p k s b us) (sym e) in
      let asked : sub_pairs (annotated_steps us n h derives) ++ ruled ≡ written.asks p k s us =
      ap (λ l. sub_pairs l ++ ruled) same ∙ ap (λ b. unless_plain b (sub_pairs (written_steps p k s us)) ++ ruled) (sym e) in
      let asked_plainly : ruled_plainly ≡ written.plain_asks p k s us = ap (λ b. where_plain b (sub_pairs (written_steps p k s us)) ++ ruled_plainly) (sym e) in
      (annotated_part us n h derives e (lists_of us ts ps bs _ _ _ asked asked_plainly same w)).0

  ------------------------------------------------------------
  -- What is asked

  ruled_asked : (q : Pair) → In {X = Pair} q ruled → Asks p core k s at fits q
  ruled_asked q i = asked_by_each (asked_by p k s) (Asks p core k s at fits) (scope_rules s) (λ r l. each_asked p core k s at fits r (rules_hold p core k s at fits accepted r l)) q i

  ruled_plainly_asked : (q : Pair) → In {X = Pair} q ruled_plainly → AsksPlainly p core k s at fits q
  ruled_plainly_asked q i = asked_by_each (asked_plainly p k s) (AsksPlainly p core k s at fits) (scope_rules s) (λ r l. each_asked_plainly p core k s at fits r (rules_hold p core k s at fits accepted r l)) q i

  -- .. over types of `val`s that stand, by the kind of the scope
  asked_in : (plain : Truth) → is_plain s.kind ≡ plain → (us : List TypeRef) → length us ≡ length (scope_vals s) → Each (TypeStands p s) us →
      DerivesScope (reading_of p k plain) s (canonical_scope (reading_of p k plain) (same_read p k plain) s (map (reading_of p k plain).read us)) → AskedStand p k s us
  asked_in true e us n h d =
      let derives = subst (λ vs. DerivesScope (plain_reading p k) s (canonical_scope (plain_reading p k) same_type s vs)) (map-id us) d in
      let w = plain_asking us n h e derives in
      let sts : List (Step TypeRef) = plain_steps us n h e derives in
      let same : sts ≡ written_steps p k s us = ap (λ b. steps_in p k s b us) (sym e) in
      let subs : where_plain (is_plain s.kind) (sub_pairs (written_steps p k s us)) ≡ sub_pairs sts = ap (λ b. where_plain b (sub_pairs (written_steps p k s us))) e ∙ ap (λ l. sub_pairs l) (sym same) in
      let none : unless_plain (is_plain s.kind) (sub_pairs (written_steps p k s us)) ≡ [] = ap (λ b. unless_plain b (sub_pairs (written_steps p k s us))) e in
      record {
        asks = λ q i. elim (In-cases {X = Pair} q (unless_plain (is_plain s.kind) (sub_pairs (written_steps p k s us))) ruled i) [
          | inl j ↦ absurd (subst (λ l. In {X = Pair} q l) none j)
          | inr j ↦ ruled_asked q j
        ];
        plain_asks = λ q i. elim (In-cases {X = Pair} q (where_plain (is_plain s.kind) (sub_pairs (written_steps p k s us))) ruled_plainly i) [
          | inl j ↦ w.asked_plainly q (subst (λ l. In {X = Pair} q l) subs j)
          | inr j ↦ ruled_plainly_asked q j
        ];
        steps = λ t i. w.steps_stand t (subst (λ l. In t (step_types l)) (sym same) i);
        vals = λ t i. each_in (TypeStands p s) us h t i;
      }
  asked_in false e us n h d =
      let derives = subst (λ vs. DerivesScope (annotated_reading p k) s (canonical_scope (annotated_reading p k) same_type s vs)) (map-id us) d in
      let w = annotated_asking us n h derives in
      let sts : List (Step TypeRef) = annotated_steps us n h derives in
      let same : sts ≡ written_steps p k s us = ap (λ b. steps_in p k s b us) (sym e) in
      let subs : unless_plain (is_plain s.kind) (sub_pairs (written_steps p k s us)) ≡ sub_pairs sts = ap (λ b. unless_plain b (sub_pairs (written_steps p k s us))) e ∙ ap (λ l. sub_pairs l) (sym same) in
      let none : where_plain (is_plain s.kind) (sub_pairs (written_steps p k s us)) ≡ [] = ap (λ b. where_plain b (sub_pairs (written_steps p k s us))) e in
      record {
        asks = λ q i. elim (In-cases {X = Pair} q (unless_plain (is_plain s.kind) (sub_pairs (written_steps p k s us))) ruled i) [
          | inl j ↦ w.asked q (subst (λ l. In {X = Pair} q l) subs j)
          | inr j ↦ ruled_asked q j
        ];
        plain_asks = λ q i. elim (In-cases {X = Pair} q (where_plain (is_plain s.kind) (sub_pairs (written_steps p k s us))) ruled_plainly i) [
          | inl j ↦ absurd (subst (λ l. In {X = Pair} q l) none j)
          | inr j ↦ ruled_plainly_asked q j
        ];
        steps = λ t i. w.steps_stand t (subst (λ l. In t (step_types l)) (sym same) i);
        vals = λ t i. each_in (TypeStands p s) us h t i;
      }

  -- over those that are found
  found_stand : (plain : Truth) → is_plain s.kind ≡ plain → (us : List TypeRef) (vs : List (reading_of p k plain).Kind) → map (reading_of p k plain).read us ≡ vs → Each (IsReached (reading_of p k plain) s) vs → Each (TypeStands p s) us
  found_stand true e us vs f h = all_stand p core k s at fits plain_tests us (subst (λ l. Each (IsReached (plain_reading p k) s) l) (sym f ∙ map-id us) h)
  found_stand false e us vs f h = all_stand p core k s at fits (tests_over (bounds_of p k)) us (subst (λ l. Each (IsReached (annotated_reading p k) s) l) (sym f ∙ map-id us) h)

  found_asked : (us : List TypeRef) → AreFound p k s us → AskedStand p k s us
  found_asked us found =
      let y = scope_reading p k s in
      let number = sym (length-map us y.read) ∙ (ap length found ∙ locals_counted p core k s at accepted.bodies) in
      let stand = found_stand (is_plain s.kind) refl us (locals_of p k s) found (canonical_types_are_reached p k s fits).0 in
      asked_in (is_plain s.kind) refl us number stand
      (subst (λ vs. DerivesScope y s (canonical_scope y (same_read p k (is_plain s.kind)) s vs)) (sym found) (scopes_have_canonical_derivations p k s fits accepted.bodies).1)

-- a list that has at each number what there is for that number
gather : {X Y : Type 0} (Q : ℕ → X → Y → Type 0) (xs : List X) → ((j : ℕ) (x : X) → slice_get xs j ≡ Some x → (v : Y) × Q j x v) →
    (ys : List Y) × (length ys ≡ length xs) × ((j : ℕ) (x : X) (v : Y) → slice_get xs j ≡ Some x → slice_get ys j ≡ Some v → Q j x v)
gather Q [] h = ([], refl, λ j x v e f. absurd (cc))
gather {X} {Y} Q (x ∷ xs) h =
    let first = h 0 x refl in
    let rest = gather (λ j. Q (suc j)) xs (λ j v e. h (suc j) v e) in
    (first.0 ∷ rest.0, ap suc rest.1, at_each first.0 rest.0 first.1 rest.2)
  where
    at_each : (w : Y) (ys : List Y) → Q 0 x w → ((j : ℕ) (u : X) (v : Y) → slice_get xs j ≡ Some u → slice_get ys j ≡ Some v → Q (suc j) u v) →
        (j : ℕ) (u : X) (v : Y) → slice_get (x ∷ xs) j ≡ Some u → slice_get (w ∷ ys) j ≡ Some v → Q j u v
    at_each w ys a b zero u v e f = (let same : x ≡ u = cc in let other : w ≡ v = cc in subst (λ z. Q 0 z v) same (subst (λ z. Q 0 x z) other a))
    at_each w ys a b (suc j) u v e f = b j u v e f

-- over the types of `val`s that are found one after the other
pub accepted_has_canonical_certificate : AcceptedHasCanonicalCertificate
accepted_has_canonical_certificate p core h =
    let Q : ℕ → Scope → CertScope → Type 0 = λ k s c. ScopeProof p k s c × IsCanonical p k s c in
    let one : (k : ℕ) (s : Scope) → slice_get p.scopes k ≡ Some s → (c : CertScope) × Q k s c = λ k s e.
    let r = canonical_part p core k s e (core.scopes s (In-slice_get p.scopes k s e)) (h.scopes k s e) in
    (r.0, (r.1, r.2)) in
    let r = gather Q p.scopes one in
    (r.0, record { number = r.1; scopes = λ k s c e f. (r.2 k s c e f).0 }, λ k s c e f. (r.2 k s c e f).1)

-- .. without a word on its nodes
pub accepted_has_certificate : AcceptedHasCertificate
accepted_has_certificate p core h = (let r = accepted_has_canonical_certificate p core h in (r.0, r.1))

-- over given ones
pub accepted_has_written_certificate : AcceptedHasWrittenCertificate
accepted_has_written_certificate p lists core h each =
    let Q : ℕ → Scope → CertScope → Type 0 = λ k s c. ScopeProof p k s c × ((us : List TypeRef) → slice_get lists k ≡ Some us → IsWrittenOver p k s c us) in
    let one : (k : ℕ) (s : Scope) → slice_get p.scopes k ≡ Some s → (c : CertScope) × Q k s c = λ k s e.
    let given = each k s e in
    let r = written_part p core k s e (core.scopes s (In-slice_get p.scopes k s e)) (h.scopes k s e) given.0 given.2 in
    (r.0, (r.1, λ us f. (let there = given.1 in let same : given.0 ≡ us = cc in subst (λ vs. IsWrittenOver p k s r.0 vs) same r.2))) in
    let r = gather Q p.scopes one in
    (r.0, record { number = r.1; scopes = λ k s c e f. (r.2 k s c e f).0 }, λ k s c us e f g. (r.2 k s c e f).1 us g)

-- what is written from lists that have what is asked proves a scope
pub written_is_proof : WrittenIsProof
written_is_proof p k s core at accepted us ts ps bs found w =
    let fits = core.scopes s (In-slice_get p.scopes k s at) in
    let y = scope_reading p k s in
    let number = sym (length-map us y.read) ∙ (ap length found ∙ locals_counted p core k s at accepted.bodies) in
    let stand : AllStand (TypeStands p s) us =
    λ t i. w.stand t (w.listed t (In-right t (pair_types ps) (pair_types bs ++ (step_types (written_steps p k s us) ++ us)) (In-right t (pair_types bs) (step_types (written_steps p k s us) ++ us) (In-right t (step_types (written_steps p k s us)) us i)))) in
    let derives = subst (λ vs. DerivesScope y s (canonical_scope y (same_read p k (is_plain s.kind)) s vs)) (sym found) (scopes_have_canonical_derivations p k s fits accepted.bodies).1 in
    written_over p core k s at fits accepted (is_plain s.kind) refl us ts ps bs number (each_of (TypeStands p s) us stand) derives w

-- what is asked of a scope stands
pub what_is_asked_stands : WhatIsAskedStands
what_is_asked_stands p k s core at accepted us found = found_asked p core k s at (core.scopes s (In-slice_get p.scopes k s at)) accepted us found

pub named_types_stand : NamedTypesStand
named_types_stand p k s core at t h m i = method_stands p core k s at (core.scopes s (In-slice_get p.scopes k s at)) t h m i

pub named_bare_types_stand : NamedBareTypesStand
named_bare_types_stand p k s core at t m i = bare_method_stands p core k s at (core.scopes s (In-slice_get p.scopes k s at)) t m i
