-- The visit of one own name more: a grant, a use, an instance or an import; what it stands for is of its type.
use Rattle.std.proofs.Common.{◌≡◌, ℕ, ◌≤◌, List, [], ◌∷◌, ◌++◌, map, inl, inr, length, refl, sym, ap, ap₂, ◌∙◌, subst, arith, Option, Some, None, true, false, append_assoc}
use Rattle.std.specs.Prelude.{slice_get}
use Rattle.std.proofs.Math.ListN.{length-map}
use Rattle.wy_effects.specs.EffSet.{IsSet, AreSets, replace}
use Rattle.wy_effects.specs.Bounds.{Respects, AreNone}
use Rattle.wy_effects.proofs.Ordering.{none_respected}
use Rattle.wy_effects.proofs.Replacing.{AreSets-map}
use Rattle.wy_types.specs.declared.types.TypeRef.TheVariants as of
use Rattle.wy_types.specs.declared.linked.Actual.TheVariants as actual
use Rattle.wy_types.specs.declared.linked.Instance.{Instance as Started}
use Rattle.wy_types.specs.declared.resolved.Origin.TheVariants.{Grant}
use Rattle.wy_types.specs.declared.resolved.OwnName.{OwnName}
use Rattle.wy_types.specs.Program.{Program, Scope}
use Rattle.wy_types.specs.Types.{substituted, is_plain}
use Rattle.wy_types.specs.Bounds.{declared_bounds, type_bounds}
use Rattle.wy_types.specs.Fitting.{FitsType}
use Rattle.wy_types.specs.Core.{IsPrimitive, IsCore}
use Rattle.wy_types.specs.Ground.{Visited, settled, type_of, abstract_names, members_of, single_sets, definitions_of, program_number, program_sets, start_list}
use Rattle.wy_rules.specs.GroundTypes.{Named, Own, type_at, run_instances}
use Rattle.wy_rules.specs.GroundTyping.{BoundFits}
use Rattle.wy_sound.specs.Arguments.{actual_type, program_names}
use Rattle.wy_rules.specs.OwnNames.{opens, opened_bounds, opened_count, IsOpened, IsBounded}
use Rattle.wy_rules.proofs.RunReadings.{no_own, no_own_read, same_at}
use Rattle.wy_sound.specs.Grounds.{member_sets, GroundIsDefined, IsGround}
use Rattle.wy_sound.proofs.LinkingLists.{GoesOn, read_on, read_next, read_first, read_within, length_goes_on}
use Rattle.wy_sound.proofs.LinkingSets.{AreSets-wider, replace_first, singles, length_singles, opened_fits, count_members}
use Rattle.wy_sound.proofs.LinkingBounds.{NameBounds, none_respect, primitive_unbounded}
use Rattle.wy_sound.proofs.LinkingStates.{read_type, AllFit, Stands, actuals_length, stands_more}
use Rattle.wy_sound.proofs.LinkingTables.{IsBelow}
use Rattle.wy_sound.proofs.LinkingRules.{annotated_seal, definitions_respect, plain_seal}
use Rattle.wy_sound.proofs.LinkingPrograms.{one_scope}
use Rattle.wy_sound.proofs.LinkingScopes.{names_at, Facts, definitions_count}

-- an instance of the start list is one of the run
pub in_run : (p : Program) (started : List Started) (y : ℕ) (i : Started) → GoesOn started (start_list p) → slice_get started y ≡ Some i →
    slice_get (run_instances p) y ≡ Some i
in_run p started y i g e = read_first (start_list p) _ y i (read_on started (start_list p) y i g e)

module _ (p : Program) (c : IsCore p) (m : ℕ) (top : List (List ℕ)) (done : List OwnName) (v : Visited) (n : OwnName)
    (s : Stands p m None top done v)
    (atoms : ℕ) (written : FitsType p atoms 0 n.typ) (bounds : NameBounds p m done n) where
  -- the types that are sealed so
  abbrev Sealed : Option ℕ → Type 0
  Sealed o = (d : ℕ) × (o ≡ Some d) × (n.typ ≡ of.Named d (single_sets (opened_count p done) (abstract_names (slice_get p.declarations d))))

  sealed : (o : Option ℕ) → IsOpened p (opened_count p done) o n.typ → Sealed o
  sealed None h = absurd h
  sealed (Some d) h = (d, refl, h)

  abbrev Bounded : List ℕ → Option ℕ → Type 0
  Bounded bound o = (d : ℕ) × (o ≡ Some d) × (n.typ ≡ of.At d bound)

  bounded_at : (bound : List ℕ) (o : Option ℕ) → IsBounded bound o n.typ → Bounded bound o
  bounded_at bound None h = absurd h
  bounded_at bound (Some d) h = (d, refl, h)

  -- a name whose atoms stand for what an instance of an annotated module defines
  pub sealed_stands : (started : List Started) (y : ℕ) (i : Started) (z : Scope) (sets : List (List ℕ)) → GoesOn v.started started →
      GoesOn started (start_list p) → AllFit p started →
      slice_get started y ≡ Some i → Facts p i.scope z → is_plain z.kind ≡ false → sets ≡ map (replace i.ground) z.definitions →
      IsOpened p (opened_count p done) z.ascribed n.typ →
      GoesOn (v.sets ++ sets) top → opens p n n.origin ≡ members_of p n.typ → opened_bounds p n n.origin ≡ type_bounds p n.typ →
      (GroundIsDefined p top n i → IsGround p top (names_at p m) n n.origin (actual.Instance y)) →
      Stands p m None top (done ++ n ∷ []) (settled v started (actual.Instance y) sets)
  sealed_stands started y i z sets longer goes all at f plain are opened further opening bounding ground =
      let fit = all y i at in
      let same : fit.scope ≡ z = one_scope (slice_get p.scopes i.scope) fit.scope z fit.there f.there in
      let bound : BoundFits (is_plain z.kind) i.bound = subst (λ (w : Scope). BoundFits (is_plain w.kind) i.bound) same fit.bound in
      let respects = fit.respects (ap (λ (w : Scope). is_plain w.kind) same ∙ plain) in
      let d = sealed z.ascribed opened in
      let names = abstract_names (slice_get p.declarations d.0) in
      let k = opened_count p done in
      let members : length (members_of p n.typ) ≡ length names = ap (λ t. length (members_of p t)) d.2 in
      let many : length sets ≡ length names =
      ap length are ∙ length-map z.definitions (replace i.ground) ∙ definitions_count p i.scope z f d.0 plain d.1 ∙
      count_members (slice_get p.declarations d.0) in
      let are_sets : AreSets 512 sets = subst (AreSets 512) (sym are) (AreSets-map 512 i.ground z.definitions fit.sets) in
      let seal : IsBelow p (Own y 0) (Named d.0 (map (replace i.ground) z.definitions)) =
      annotated_seal p c y i z d.0 (in_run p started y i goes at) f.there f.accepted fit.sets d.1 respects plain bound in
      let read : map (replace top) (single_sets k names) ≡ map (replace i.ground) z.definitions =
      singles 512 top v.sets sets further.0 k names (further.1 ∙ append_assoc v.sets sets further.0) (sym s.count) many are_sets ∙ are in
      let is_type : read_type None top n.typ ≡ Named d.0 (map (replace i.ground) z.definitions) = ap (read_type None top) d.2 ∙ ap (Named d.0) read in
      let defined : GroundIsDefined p top n i =
      ap (λ t. map (replace top) (member_sets t)) d.2 ∙ read ∙ ap (λ o. map (replace i.ground) (definitions_of o)) (sym f.there) in
      let fits = opened_fits p atoms k d.0 n.typ written d.2 in
      let own : Respects (opened_bounds p n n.origin) [] sets =
      subst (λ l. Respects l [] sets) (sym (bounding ∙ ap (type_bounds p) d.2)) (
      subst (Respects (declared_bounds p d.0) []) (sym are)
      (definitions_respect p c y i z d.0 (in_run p started y i goes at) f.there f.accepted fit.sets d.1 respects plain)
      ) in
      stands_more p m None top done v n started (actual.Instance y) sets s (length_goes_on v.started started longer) all
      (record { there = read_within started y i at; below = inr (subst (IsBelow p (Own y 0)) (sym is_type) seal) }) (ground defined)
      (many ∙ sym members ∙ ap length (sym opening)) (subst (λ j. FitsType p j 0 n.typ) (omega (arith, s.count, many, members)) fits) are_sets
      bounds own

  -- a name that stands for an instance of a plain module, at the bound
  pub bounded_stands : (started : List Started) (y : ℕ) (i : Started) (z : Scope) (bound : List ℕ) → GoesOn v.started started →
      GoesOn started (start_list p) → AllFit p started →
      slice_get started y ≡ Some i → Facts p i.scope z → is_plain z.kind ≡ true → i.bound ≡ Some (replace v.sets bound) →
      IsSet (opened_count p done) bound → IsBounded bound z.ascribed n.typ →
      GoesOn v.sets top → opens p n n.origin ≡ [] → IsGround p top (names_at p m) n n.origin (actual.Instance y) →
      Stands p m None top (done ++ n ∷ []) (settled v started (actual.Instance y) [])
  bounded_stands started y i z bound longer goes all at f plain at_bound of_atoms is further opening ground =
      let fit = all y i at in
      let d = bounded_at bound z.ascribed is in
      let before : IsSet (length v.sets) bound = subst (λ k. IsSet k bound) (sym s.count) of_atoms in
      let seal = plain_seal p c y i z d.0 (in_run p started y i goes at) f.there f.accepted fit.sets d.1 (replace v.sets bound) plain at_bound in
      let is_type : read_type None top n.typ ≡ type_at 0 (of.At d.0 (replace v.sets bound)) =
      ap (read_type None top) d.2 ∙ ap (λ b. type_at 0 (of.At d.0 b)) (replace_first v.sets top bound further before) in
      let there : FitsType p atoms 0 (of.At d.0 bound) = subst (FitsType p atoms 0) d.2 written in
      let fits : FitsType p (length v.sets) 0 (of.At d.0 bound) = (there.0, before) in
      stands_more p m None top done v n started (actual.Instance y) [] s (length_goes_on v.started started longer) all
      (record { there = read_within started y i at; below = inr (subst (IsBelow p (Own y 0)) (sym is_type) seal) }) ground
      (ap length (sym opening)) (subst (λ j. FitsType p j 0 n.typ) (omega arith) (subst (FitsType p (length v.sets) 0) (sym d.2) fits)) (λ t i. absurd i)
      bounds (none_respect (opened_bounds p n n.origin) [])

  -- a grant
  pub grant_stands : (d : ℕ) (rest : List OwnName) → names_at p m ≡ done ++ n ∷ rest → m ≡ program_number p → top ≡ program_sets p →
      n.origin ≡ Grant → IsPrimitive n.typ → atoms ≤ 512 →
      IsOpened p (opened_count p done) (Some d) n.typ → GoesOn (v.sets ++ single_sets (length v.sets) (members_of p n.typ)) top →
      Stands p m None top (done ++ n ∷ []) (settled v v.started (actual.Grant (length v.actuals)) (single_sets (length v.sets) (members_of p n.typ)))
  grant_stands d rest names main sets origin primitive few opened further =
      let members = members_of p n.typ in
      let k = opened_count p done in
      let g = length v.actuals in
      let place : g ≡ length done = actuals_length p (length v.started) None top done v.actuals s.actuals in
      let at : slice_get (program_names p) g ≡ Some n =
      ap (λ j. slice_get (names_at p j) g) (sym main) ∙ ap (λ l. slice_get l g) names ∙ ap (slice_get (done ++ n ∷ rest)) place ∙ read_next done rest n in
      let is_type : actual_type p (actual.Grant g) ≡ read_type None top n.typ =
      ap (λ o. type_at (length (start_list p)) (substituted (program_sets p) (type_of o))) at ∙
      same_at (length (start_list p)) 0 (substituted (program_sets p) n.typ) (no_own_read None (program_sets p) n.typ (no_own p atoms n.typ written)) ∙
      ap (λ ss. type_at 0 (substituted ss n.typ)) (sym sets) in
      let opening : opens p n n.origin ≡ members = ap (opens p n) origin in
      let singles_are : AreSets 512 (single_sets k (members_of p n.typ)) =
      AreSets-wider atoms 512 (single_sets k members) few
      (subst (λ l. AreSets atoms (single_sets k l)) (sym (ap (members_of p) opened)) ((subst (FitsType p atoms 0) opened written).2)) in
      let fits = opened_fits p atoms k d n.typ written opened in
      let many : length (single_sets (length v.sets) members) ≡ length members = length_singles (length v.sets) members in
      let own : member_sets n.typ ≡ single_sets (length v.sets) members =
      ap member_sets opened ∙ ap₂ single_sets (sym s.count) (sym (ap (members_of p) opened)) in
      let read : map (replace top) (single_sets (length v.sets) members) ≡ single_sets (length v.sets) members =
      singles 512 top v.sets (single_sets (length v.sets) members) further.0 (length v.sets) members
      (further.1 ∙ append_assoc v.sets (single_sets (length v.sets) members) further.0) refl many
      (subst (λ j. AreSets 512 (single_sets j members)) (sym s.count) singles_are) in
      let itself : IsGround p top (names_at p m) n n.origin (actual.Grant g) =
      subst (λ o. IsGround p top (names_at p m) n o (actual.Grant g)) (sym origin) (ap (map (replace top)) own ∙ read ∙ sym own) in
      let none : AreNone (opened_bounds p n n.origin) =
      subst AreNone (sym (ap (opened_bounds p n) origin ∙ ap (type_bounds p) opened)) (primitive_unbounded p c d (subst IsPrimitive opened primitive)) in
      stands_more p m None top done v n v.started (actual.Grant g) (single_sets (length v.sets) members) s (omega arith) s.started
      (record { there = (n, at, origin); below = inl is_type }) itself
      (many ∙ ap length (sym opening)) (subst (λ j. FitsType p j 0 n.typ) (omega (arith, s.count, many)) fits)
      (subst (λ j. AreSets 512 (single_sets j members)) (sym s.count) singles_are)
      bounds (none_respected (opened_bounds p n n.origin) [] (single_sets (length v.sets) members) none)
