-- What the rules for modules and for lines ask, at the types of a run: a module's own type is below the type that it is sealed at, and an argument's type
-- is below its parameter's.
use Rattle.std.proofs.Common.{◌≡◌, ℕ, List, [], map, length, refl, sym, ◌∙◌, ap, subst, Option, Some, None, Bool as Truth, true, false}
use Rattle.std.specs.Prelude.{slice_get}
use Rattle.std.proofs.Math.ListN.{length-map}
use Rattle.wy_effects.specs.EffSet.{AreSets, replace}
use Rattle.wy_effects.specs.Bounds.{IsUnder, Respects}
use Rattle.wy_effects.proofs.Ordering.{respects_onward}
use Rattle.wy_types.specs.declared.types.TypeRef.{TypeRef}
use Rattle.wy_types.specs.declared.types.TypeRef.TheVariants as of
use Rattle.wy_types.specs.declared.linked.Instance.{Instance}
use Rattle.wy_types.specs.Program.{Program, Scope}
use Rattle.wy_types.specs.Signature.{mapped_signature}
use Rattle.wy_types.specs.Types.{substituted, annotated, erased, scope_is_plain, is_plain, methods_of}
use Rattle.wy_types.specs.Bounds.{bounds_of, declared_bounds}
use Rattle.wy_types.specs.Paths.{EffectsWithin, IsSafe}
use Rattle.wy_types.specs.Subtyping.{AnyEffect, IsAnnotatedSubtype, IsPlainSubtype}
use Rattle.wy_types.specs.Fitting.{FitsType}
use Rattle.wy_types.specs.Core.{IsCore}
use Rattle.wy_types.proofs.Annotating.{annotation}
use Rattle.wy_rules.specs.Readings.{annotated_reading, plain_reading}
use Rattle.wy_rules.specs.Acceptance.{reading_of, SealHolds, DefinitionsRespect, MembersHold, ScopeAccepted}
use Rattle.wy_rules.specs.GroundTypes.{Named, At, Own, type_at, read_by, effect_by, own_methods, ground_methods, run_instances}
use Rattle.wy_rules.specs.GroundTyping.{BoundFits}
use Rattle.wy_rules.proofs.Rereadings.{annotated-bare}
use Rattle.wy_rules.proofs.RunReadings.{NoOwn, no_own, no_own_read, no_own_erased, substituted-at, bounded-at}
use Rattle.wy_sound.proofs.LinkingLists.{GoesOn}
use Rattle.wy_sound.proofs.LinkingSets.{substituted_first}
use Rattle.wy_sound.proofs.LinkingStates.{read_type}
use Rattle.wy_sound.proofs.LinkingTables.{IsBelow, below_below, carried, bounded}

pub no_bound : (plain : Truth) (o : Option (List ℕ)) → plain ≡ false → BoundFits plain o → o ≡ None
no_bound false None e b = refl
no_bound false (Some bound) e b = absurd b
no_bound true o e b = absurd (cc)

module _ (p : Program) (c : IsCore p) where
  own_agrees : (y : ℕ) (i : Instance) → slice_get (run_instances p) y ≡ Some i → (o : Option (List ℕ)) → i.bound ≡ o → (l : ℕ) →
      ground_methods p (Own y l) ≡ map (mapped_signature (λ t. type_at y (read_by o i.ground t)) (effect_by o i.ground)) (methods_of p i.scope (of.Own l))
  own_agrees y i e o b l =
      ap (own_methods p y l) e ∙ ap
      (λ v. map (mapped_signature (λ t. type_at y (read_by v i.ground t)) (effect_by v i.ground)) (methods_of p i.scope (of.Own l))) b

  module _ (y : ℕ) (i : Instance) (s : Scope) (d : ℕ) (at : slice_get (run_instances p) y ≡ Some i) (there : slice_get p.scopes i.scope ≡ Some s)
      (a : ScopeAccepted p i.scope s)
      (sets : AreSets 512 i.ground) (sealed : s.ascribed ≡ Some d) where
    -- M-Ascribe, where the scope is annotated: with the ground sets of what it defines
    pub annotated_seal : Respects (bounds_of p i.scope) [] i.ground → is_plain s.kind ≡ false → BoundFits (is_plain s.kind) i.bound →
        IsBelow p (Own y 0) (Named d (map (replace i.ground) s.definitions))
    annotated_seal respects e b =
        let by_kind : SealHolds (annotated_reading p i.scope) s s.ascribed = subst (λ k. SealHolds (reading_of p i.scope k) s s.ascribed) e a.seal.0 in
        let seal : IsAnnotatedSubtype p i.scope (of.Own 0) (of.Named d s.definitions) =
        subst (λ o. SealHolds (annotated_reading p i.scope) s o) sealed by_kind in
        carried p c y i.scope i.ground sets respects (ap scope_is_plain there ∙ e) true
        (λ t l. own_agrees y i at None (no_bound (is_plain s.kind) i.bound e b) l) (of.Own 0) (of.Named d s.definitions) tt tt seal

    -- .. these sets respect the bounds of the members of the type that it is sealed at
    pub definitions_respect : Respects (bounds_of p i.scope) [] i.ground → is_plain s.kind ≡ false →
        Respects (declared_bounds p d) [] (map (replace i.ground) s.definitions)
    definitions_respect respects e =
        let by_kind : MembersHold p i.scope s false = subst (MembersHold p i.scope s) e a.seal.1 in
        let members : DefinitionsRespect p i.scope s (Some d) = subst (DefinitionsRespect p i.scope s) sealed by_kind in
        respects_onward (declared_bounds p d) (bounds_of p i.scope) [] s.definitions i.ground 512 sets members respects

    -- .. where it is plain: at the ground of the bound
    pub plain_seal : (bound : List ℕ) → is_plain s.kind ≡ true → i.bound ≡ Some bound → IsBelow p (Own y 0) (At d bound)
    plain_seal bound e b =
        let by_kind : SealHolds (plain_reading p i.scope) s s.ascribed = subst (λ k. SealHolds (reading_of p i.scope k) s s.ascribed) e a.seal.0 in
        let seal : IsPlainSubtype p i.scope (of.Own 0) (of.Named d s.definitions) =
        subst (λ o. SealHolds (plain_reading p i.scope) s o) sealed by_kind in
        bounded p c y i.scope i.ground sets AnyEffect bound true (λ t l. own_agrees y i at (Some bound) b l) (of.Own 0)
        (of.Named d s.definitions) tt tt seal

  -- in an annotated scope, with sets put in for its atoms that respect their bounds
  module _ (k : ℕ) (sets : List (List ℕ)) (annotated_scope : scope_is_plain (slice_get p.scopes k) ≡ false) (are_sets : AreSets 512 sets)
      (respects : Respects (bounds_of p k) [] sets) (t n : TypeRef) (written : FitsType p 512 0 t) where
    -- M-Inst, premise 4: the parameter's atoms stand for sets of members, with the sets put in
    pub instance_argument : (members top : List (List ℕ)) → FitsType p (length members) 0 n → GoesOn (map (replace sets) members) top →
        IsAnnotatedSubtype p k t (substituted members n) →
        IsBelow p (read_type None sets t) (read_type None top n)
    instance_argument members top fits goes sub =
        let of_n = no_own p (length members) n fits in
        let of_t = no_own p 512 t written in
        let up =
        carried p c 0 k sets are_sets respects annotated_scope false (λ f l. absurd (cc)) t (substituted members n) of_t (no_own_read None members n of_n) sub in
        let fits' : FitsType p (length (map (replace sets) members)) 0 n = subst (λ v. FitsType p v 0 n) (sym (length-map members (replace sets))) fits in
        let same : type_at 0 (substituted sets (substituted members n)) ≡ read_type None top n =
        sym (substituted-at 0 sets members are_sets n of_n) ∙ ap (type_at 0) (sym (substituted_first p 0 (map (replace sets) members) top n goes fits')) in
        subst (IsBelow p (read_type None sets t)) same up

    -- I-Import, premises 1 to 3: the parameter stands at the ground of the bound
    pub import_argument : (bound : List ℕ) (top : List (List ℕ)) → NoOwn n → EffectsWithin TypeRef (methods_of p k) (IsUnder (bounds_of p k)) t true bound →
        IsSafe TypeRef (methods_of p k) (IsUnder (bounds_of p k)) t false bound →
        IsPlainSubtype p k (erased t) (erased n) → IsBelow p (read_type None sets t) (read_type (Some (replace sets bound)) top n)
    import_argument bound top of_n effects safe plain =
        let of_t = no_own p 512 t written in
        let ground = replace sets bound in
        let up =
        carried p c 0 k sets are_sets respects annotated_scope false (λ f l. absurd (cc)) t (annotated bound t) of_t (no_own_read (Some bound) [] t of_t)
        ((annotation (IsUnder (bounds_of p k)) p c k bound t written).0 (effects, safe)) in
        let middle : type_at 0 (substituted sets (annotated bound t)) ≡ type_at 0 (annotated ground (erased t)) =
        sym (bounded-at 0 sets bound t of_t) ∙ ap (type_at 0) (sym (annotated-bare ground t)) in
        let on =
        bounded p c 0 k sets are_sets AnyEffect ground false (λ f l. absurd (cc)) (erased t) (erased n) (no_own_erased t of_t)
        (no_own_erased n of_n) plain in
        let last : type_at 0 (annotated ground (erased n)) ≡ read_type (Some ground) top n = ap (type_at 0) (annotated-bare ground n) in
        subst (IsBelow p (read_type None sets t)) last (below_below p _ _ _ (subst (IsBelow p (read_type None sets t)) middle up) on)
