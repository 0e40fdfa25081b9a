-- The types of a run are finitely many, their methods name such types, and each is a subtype of itself.
use Rattle.std.proofs.Common.{◌≡◌, ℕ, zero, suc, ◌+◌, ◌<◌, ◌≤◌, List, [], ◌∷◌, ◌++◌, map, ◌⊎◌, inl, inr, length, refl, sym, ap₂, ◌∙◌, subst, arith, Option, Some, None, false, length-append}
use Rattle.std.specs.Prelude.{slice_get}
use Rattle.std.specs.List.{range_with_len}
use Rattle.std.proofs.Math.ListN.{length-map}
use Rattle.std.proofs.Math.Nat.{zero-add}
use Rattle.std.proofs.lemmas.List.FromFn.{length-range_with_len, get_or-range_with_len}
use Rattle.wy_text.specs.Members.{In, Within, Apart}
use Rattle.wy_effects.specs.EffSet.{IsSet, AreSets, replace}
use Rattle.wy_text.proofs.Lists.{In-left, In-right, In-map, In-unmap, In-read, In-slice_get, length-apart}
use Rattle.wy_types.specs.declared.types.TypeRef.{TypeRef}
use Rattle.wy_types.specs.declared.types.TypeRef.TheVariants as of
use Rattle.wy_types.specs.declared.linked.Instance.{Instance}
use Rattle.wy_types.specs.declared.path.Part.{Part}
use Rattle.wy_types.specs.declared.path.Part.TheVariants.{Parameter, Result}
use Rattle.wy_types.specs.declared.resolved.TypeDecl.{TypeDecl}
use Rattle.wy_types.specs.Program.{Program, Scope, Body}
use Rattle.wy_types.specs.Signature.{Signature, mapped_signature, signature_types}
use Rattle.wy_types.specs.Types.{signature, substituted, annotated, declared_methods, named_methods, bounded_methods, methods_of_owner, scope_bodies}
use Rattle.wy_types.specs.Subtyping.{IsSubtype}
use Rattle.wy_types.specs.Paths.{IsPartOf}
use Rattle.wy_types.specs.Fitting.{FitsType, AllSignaturesFit, own_count}
use Rattle.wy_types.specs.Core.{IsCore}
use Rattle.wy_types.specs.Few.{declared_count}
use Rattle.wy_types.proofs.Finite.{all_types, In-all_types, length-all_types, Fits-substituted, Fits-annotated, Fits-declared, Fits-named, owner_among}
use Rattle.wy_types.proofs.Itself.{names_of, names_of-mapped, subtype_itself}
use Rattle.wy_types.proofs.Kept.{core_signatures_fit}
use Rattle.wy_types.proofs.Reaching.{part_of_signature}
use Rattle.wy_rules.specs.GroundTypes.{GroundType, Int, Bool, Text, Nothing, Named, At, Own, IsGroundObject, type_at, read_by, effect_by, run_instances, own_methods, ground_methods}
use Rattle.wy_rules.proofs.RunReadings.{decide_ground}
use Rattle.wy_sound.specs.GroundRange.{owns_of, owns_among, IsOfRun, ground_bound, GroundTypesAreFew, GroundTypesStay, GroundBelowIsSubtype}
use Rattle.wy_sound.proofs.LinkingLaws.{RunSets, run_sets}

------------------------------------------------------------
-- A list of all of them

module _ (p : Program) where
  -- the own types of instances from a number on
  owns_from : ℕ → List Instance → List GroundType
  owns_from x [] = []
  owns_from x (i ∷ is) = map (Own x) (range_with_len 0 (own_count p i.scope)) ++ owns_from (x + 1) is

  In-owns : (x y : ℕ) (is : List Instance) (l : ℕ) → l < owns_of p (slice_get is y) → In (Own (y + x) l) (owns_from x is)
  unfolding owns_from
  In-owns x y [] l lt = absurd (omega arith)
  In-owns x zero (i ∷ is) l lt =
      let here : In l (range_with_len 0 (own_count p i.scope)) =
      In-read (range_with_len 0 (own_count p i.scope)) l 0 l (rw (length-range_with_len 0 (own_count p i.scope)) lt)
      (sym (get_or-range_with_len 0 (own_count p i.scope) l 0 lt ∙ zero-add l)) in
      let same : x ≡ 0 + x = sym (zero-add x) in
      In-left (Own (0 + x) l) (map (Own x) (range_with_len 0 (own_count p i.scope))) (owns_from (x + 1) is)
      (subst (λ z. In (Own z l) (map (Own x) (range_with_len 0 (own_count p i.scope)))) same (In-map (Own x) l (range_with_len 0 (own_count p i.scope)) here))
  In-owns x (suc y) (i ∷ is) l lt =
      let at : y + (x + 1) ≡ suc y + x = omega arith in
      In-right (Own (suc y + x) l) (map (Own x) (range_with_len 0 (own_count p i.scope))) (owns_from (x + 1) is)
      (subst (λ z. In (Own z l) (owns_from (x + 1) is)) at (In-owns (x + 1) y is l lt))

  length-owns : (x : ℕ) (is : List Instance) → length (owns_from x is) ≡ owns_among p is
  unfolding owns_from
  length-owns x [] = refl
  length-owns x (i ∷ is) =
      length-append (map (Own x) (range_with_len 0 (own_count p i.scope))) (owns_from (x + 1) is) ∙
      ap₂ (λ m n. m + n) (length-map (range_with_len 0 (own_count p i.scope)) (Own x) ∙ length-range_with_len 0 (own_count p i.scope)) (length-owns (x + 1) is)

  all_of_run : List GroundType
  all_of_run = map (type_at 0) (all_types p 0) ++ owns_from 0 (run_instances p)

  written_there : (t : TypeRef) → FitsType p 512 0 t → In (type_at 0 t) all_of_run
  unfolding all_of_run
  written_there t f =
      In-left (type_at 0 t) (map (type_at 0) (all_types p 0)) (owns_from 0 (run_instances p)) (In-map (type_at 0) t (all_types p 0) (In-all_types p 0 t f))

  all_there : (t : GroundType) → IsOfRun p t → In t all_of_run
  unfolding all_of_run
  all_there Int h = written_there of.Int tt
  all_there Bool h = written_there of.Bool tt
  all_there Text h = written_there of.Text tt
  all_there Nothing h = written_there of.Unit tt
  all_there (Named d members) h = written_there (of.Named d members) h
  all_there (At d bound) h = written_there (of.At d bound) h
  all_there (Own x l) h =
      let at : x + 0 ≡ x = omega arith in
      In-right (Own x l) (map (type_at 0) (all_types p 0)) (owns_from 0 (run_instances p))
      (subst (λ z. In (Own z l) (owns_from 0 (run_instances p))) at (In-owns 0 x (run_instances p) l h))

  sum_up : (c n : ℕ) → (4 + (c + 0)) + n ≡ 4 + (c + n)
  sum_up c n = omega arith

  length-all_of_run : length all_of_run ≡ ground_bound p
  unfolding all_of_run
  length-all_of_run =
      length-append (map (type_at 0) (all_types p 0)) (owns_from 0 (run_instances p)) ∙
      ap₂ (λ m n. m + n) (length-map (all_types p 0) (type_at 0) ∙ length-all_types p 0) (length-owns 0 (run_instances p)) ∙
      sum_up (declared_count 512 p.declarations) (owns_among p (run_instances p))

  pub few_of_run : (us : List GroundType) → Apart us → ((u : GroundType) → In u us → IsOfRun p u) → length us ≤ ground_bound p
  few_of_run us apart each = subst (λ n. length us ≤ n) length-all_of_run (length-apart us all_of_run apart (λ t i. all_there t (each t i)))

pub ground_types_are_few : GroundTypesAreFew
ground_types_are_few p us apart each = few_of_run p us apart each

------------------------------------------------------------
-- Their methods

module _ (p : Program) where
  -- a type that can be written, as an instance reads it
  pub of_run : (x : ℕ) (t : TypeRef) → FitsType p 512 0 t → IsOfRun p (type_at x t)
  of_run x of.Int f = tt
  of_run x of.Bool f = tt
  of_run x of.Text f = tt
  of_run x of.Unit f = tt
  of_run x (of.Named d members) f = f
  of_run x (of.At d bound) f = f
  of_run x (of.Own l) f = absurd (omega arith)

  abbrev AllOfRun : List (Signature GroundType) → Type 0
  AllOfRun ms = (m : Signature GroundType) → In m ms → ((u : GroundType) → In u m.params → IsOfRun p u) × IsOfRun p m.result

  -- signatures whose types are of a run as they are read
  mapped_of_run : (kind : TypeRef → GroundType) (effect : List ℕ → List ℕ) (ms : List (Signature TypeRef)) →
      ((m : Signature TypeRef) → In m ms → ((t : TypeRef) → In t m.params → IsOfRun p (kind t)) × IsOfRun p (kind m.result)) →
      AllOfRun (map (mapped_signature kind effect) ms)
  mapped_of_run kind effect ms h m i =
      let r = In-unmap (mapped_signature kind effect) m ms i in
      let old = h r.0 r.1 in
      let P : Signature GroundType → Type 0 = λ v. ((u : GroundType) → In u v.params → IsOfRun p u) × IsOfRun p v.result in
      subst P r.2 (
        (λ u j. (let t = In-unmap kind u r.0.params j in subst (IsOfRun p) t.2 (old.0 t.0 t.1))),
        old.1,
      )

  -- types that can be written in a scope, with sets put in or at a bound
  pub read_fits : (atoms : ℕ) (o : Option (List ℕ)) (sets : List (List ℕ)) (t : TypeRef) → AreSets 512 sets → ((b : List ℕ) → o ≡ Some b → IsSet 512 b) →
      FitsType p atoms 0 t → FitsType p 512 0 (read_by o sets t)
  read_fits atoms None sets t h b f = Fits-substituted p 0 atoms sets t h f
  read_fits atoms (Some bound) sets t h b f = Fits-annotated p 0 atoms bound t (b bound refl) f

  fitting_of_run : (x : ℕ) (effect : List ℕ → List ℕ) (ms : List (Signature TypeRef)) → AllSignaturesFit p 512 0 ms → AllOfRun (map (mapped_signature (type_at x) effect) ms)
  fitting_of_run x effect ms all =
      mapped_of_run (type_at x) effect ms (λ m i. (let f = all m i in ((λ t j. of_run x t (f.params t j)), of_run x m.result f.result)))

  module _ (c : IsCore p) (run : RunSets p) where
    own_stay : (x l : ℕ) (o : Option Instance) → slice_get (run_instances p) x ≡ o → AllOfRun (own_methods p x l o)
    own_stay x l None e = λ m i. absurd i
    own_stay x l (Some i) e =
        mapped_of_run (λ t. type_at x (read_by i.bound i.ground t)) (effect_by i.bound i.ground) (methods_of_owner l (scope_bodies (slice_get p.scopes i.scope)))
        (λ m j. each (slice_get p.scopes i.scope) refl m j)
      where
        each : (s : Option Scope) → slice_get p.scopes i.scope ≡ s → (m : Signature TypeRef) → In m (methods_of_owner l (scope_bodies s)) →
            ((t : TypeRef) → In t m.params → IsOfRun p (type_at x (read_by i.bound i.ground t))) × IsOfRun p (type_at x (read_by i.bound i.ground m.result))
        each None at m j = absurd j
        each (Some s) at m j =
            let b = In-unmap (λ (b : Body). signature b.signature) m s.bodies (owner_among l s.bodies m j) in
            let written = ((c.scopes s (In-slice_get p.scopes i.scope s at)).written b.0 b.1).0 in
            let sets = run x i e in
            let reads : (t : TypeRef) → In t (b.0.signature.params ++ b.0.signature.result ∷ []) → IsOfRun p (type_at x (read_by i.bound i.ground t)) =
            λ t k. of_run x (read_by i.bound i.ground t) (read_fits (length s.atoms) i.bound i.ground t sets.0 sets.1 (written t k).0) in
            let P : Signature TypeRef → Type 0 = λ v.
            ((t : TypeRef) → In t v.params → IsOfRun p (type_at x (read_by i.bound i.ground t))) × IsOfRun p (type_at x (read_by i.bound i.ground v.result)) in
            subst P b.2 (
              (λ t k. reads t (In-left t b.0.signature.params (b.0.signature.result ∷ []) k)),
              reads b.0.signature.result (In-right b.0.signature.result b.0.signature.params (b.0.signature.result ∷ []) (inl refl)),
            )

    methods_stay : (t : GroundType) → IsOfRun p t → AllOfRun (ground_methods p t)
    methods_stay Int h = λ m i. absurd i
    methods_stay Bool h = λ m i. absurd i
    methods_stay Text h = λ m i. absurd i
    methods_stay Nothing h = λ m i. absurd i
    methods_stay (Named d members) h =
        fitting_of_run 0 (λ e. e) (named_methods false members (declared_methods (slice_get p.declarations d)))
        (Fits-named p (core_signatures_fit p c) 0 d false members h.2)
    methods_stay (At d bound) h =
        fitting_of_run 0 (λ e. e) (bounded_methods bound (declared_methods (slice_get p.declarations d)))
        (Fits-declared p (core_signatures_fit p c) 0 d (annotated bound) (λ e. bound) (λ atoms t g. Fits-annotated p 0 atoms bound t h.1 g) (λ e. h.1))
    methods_stay (Own x l) h = own_stay x l (slice_get (run_instances p) x) refl

    pub next_stay : (t u : GroundType) → IsOfRun p t → In u (signature_types (ground_methods p t)) → IsOfRun p u
    next_stay t u h i =
        let r = part_of_signature GroundType (ground_methods p) (ground_methods p t) u i in
        at_part r.0 (methods_stay t h r.0 r.1) r.2.0 r.2.1
      where
        at_part : (m : Signature GroundType) → (((v : GroundType) → In v m.params → IsOfRun p v) × IsOfRun p m.result) → (part : Part) →
            IsPartOf GroundType (ground_methods p) m part u → IsOfRun p u
        at_part m all Result e = subst (IsOfRun p) e all.1
        at_part m all (Parameter k) e = all.0 u (In-slice_get m.params k u e)

    ------------------------------------------------------------
    -- Each is a subtype of itself

    declared_differ : (k : ℕ) (o : Option TypeDecl) → slice_get p.declarations k ≡ o → Apart (names_of (declared_methods o))
    declared_differ k None e = tt
    declared_differ k (Some d) e = (c.declarations d (In-slice_get p.declarations k d e)).method_names

    -- .. read in two ways
    twice_differ : (k : ℕ) (kind : TypeRef → TypeRef) (effect : List ℕ → List ℕ) →
        Apart (names_of (map (mapped_signature (type_at 0) (λ e. e)) (map (mapped_signature kind effect) (declared_methods (slice_get p.declarations k)))))
    twice_differ k kind effect =
        let ms = declared_methods (slice_get p.declarations k) in
        let P : List (List ℕ) → Type 0 = λ l. Apart l in
        subst P (sym (names_of-mapped (type_at 0) (λ e. e) (map (mapped_signature kind effect) ms) ∙ names_of-mapped kind effect ms))
        (declared_differ k (slice_get p.declarations k) refl)

    own_differ : (x l : ℕ) (o : Option Instance) → Apart (names_of (own_methods p x l o))
    own_differ x l None = tt
    own_differ x l (Some i) =
        let P : List (List ℕ) → Type 0 = λ l. Apart l in
        subst P (sym (names_of-mapped (λ t. type_at x (read_by i.bound i.ground t)) (effect_by i.bound i.ground) (methods_of_owner l (scope_bodies (slice_get p.scopes i.scope)))))
        (of_scope (slice_get p.scopes i.scope) refl)
      where
        of_scope : (s : Option Scope) → slice_get p.scopes i.scope ≡ s → Apart (names_of (methods_of_owner l (scope_bodies s)))
        of_scope None e = tt
        of_scope (Some s) e = (c.scopes s (In-slice_get p.scopes i.scope s e)).method_names l

    methods_differ : (t : GroundType) → Apart (names_of (ground_methods p t))
    methods_differ Int = tt
    methods_differ Bool = tt
    methods_differ Text = tt
    methods_differ Nothing = tt
    methods_differ (Named d members) = twice_differ d (substituted members) (replace members)
    methods_differ (At d bound) = twice_differ d (annotated bound) (λ e. bound)
    methods_differ (Own x l) = own_differ x l (slice_get (run_instances p) x)

    object_cases : (t : GroundType) → IsGroundObject t ⊎ (IsGroundObject t → ⊥)
    object_cases Int = inr (λ h. h)
    object_cases Bool = inr (λ h. h)
    object_cases Text = inr (λ h. h)
    object_cases Nothing = inr (λ h. h)
    object_cases (Named d members) = inl tt
    object_cases (At d bound) = inl tt
    object_cases (Own x l) = inl tt

    itself : (t : GroundType) → IsOfRun p t → IsSubtype GroundType (ground_methods p) IsGroundObject Within t t
    itself =
        subtype_itself GroundType decide_ground (ground_methods p) IsGroundObject object_cases (IsOfRun p) next_stay (ground_bound p) (few_of_run p)
        methods_differ Within (λ e a i. i)

pub ground_types_stay : GroundTypesStay
ground_types_stay p r a t h m i = methods_stay p r.keeps.core (run_sets p r.keeps.core r.keeps.lines r.names a) t h m i

pub ground_below_is_subtype : GroundBelowIsSubtype
ground_below_is_subtype p r a s t h (inl e) =
    subst (λ (u : GroundType). IsSubtype GroundType (ground_methods p) IsGroundObject Within s u) e
    (itself p r.keeps.core (run_sets p r.keeps.core r.keeps.lines r.names a) s h)
ground_below_is_subtype p r a s t h (inr below) = below
