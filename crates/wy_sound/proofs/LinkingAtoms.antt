-- The atoms of ground sets are grants' atoms: a visit only puts in sets that it has, but for a grant's, which are of its own atoms; and grants are the
-- program's alone, and stand first.
use Rattle.std.proofs.Common.{◌≡◌, ℕ, zero, suc, ◌+◌, ◌<◌, ◌≤◌, List, [], ◌∷◌, ◌++◌, map, inl, inr, length, refl, sym, ap, ◌∙◌, subst, arith, Option, Some, None, length-append}
use Rattle.std.specs.Prelude.{codes, slice_get}
use Rattle.std.proofs.Math.ListN.{length-map}
use Rattle.wy_text.specs.Members.{In}
use Rattle.wy_text.proofs.Lists.{In-cases, In-unmap, In-slice_get, In-at}
use Rattle.wy_effects.specs.AtomTable.{atom_name}
use Rattle.wy_effects.specs.EffSet.{IsSet, AreSets, replace}
use Rattle.wy_effects.proofs.Replacing.{IsSet-replace, AreSets-map}
use Rattle.wy_types.specs.declared.linked.Instance.{Instance as Started}
use Rattle.wy_types.specs.declared.resolved.Origin.{Origin}
use Rattle.wy_types.specs.declared.resolved.Origin.TheVariants.{Parameter, Grant, Use, Instance, Import}
use Rattle.wy_types.specs.declared.resolved.OwnName.{OwnName}
use Rattle.wy_types.specs.Program.{Program, Scope}
use Rattle.wy_types.specs.Core.{OriginFits, IsCore}
use Rattle.wy_types.specs.Ground.{Visited, Visit, names_of, definitions_of, arguments_sets, uses_among, members_of, single_sets, ground_sets, handed, number_from, used, visit_name, visit_names, visit, program_number, program_sets, start_list}
use Rattle.wy_rules.specs.GroundTypes.{run_instances}
use Rattle.wy_rules.specs.OwnNames.{GrantsStandFirst}
use Rattle.wy_rules.specs.Resolved.{CoreKeeps}
use Rattle.wy_authority.specs.declared.rows.BodyRow.{BodyRow}
use Rattle.wy_authority.specs.declared.rows.InstanceRow.{InstanceRow}
use Rattle.wy_authority.specs.Authority.{body_name, body_row, body_set, body_rows, instance_row, main_row, granted, grant_atoms}
use Rattle.wy_sound.specs.Granted.{granted_count, AtomsAreGranted, GroundAtomsAreGranted, ReportedAtomsAreGranted}
use Rattle.wy_sound.proofs.LinkingAdded.{uses_are_names}
use Rattle.wy_sound.proofs.LinkingLists.{read_within}
use Rattle.wy_sound.proofs.LinkingPrograms.{last_scope, main_is_last}
use Rattle.wy_sound.proofs.LinkingSets.{AreSets-both, single_sets_are, length_singles}

module _ (p : Program) (n : ℕ) where
  -- the sets of an instance are of atoms below the number
  record HasFew (i : Started) : Type 0 where
    ground : AreSets n i.ground
    bound : (set : List ℕ) → i.bound ≡ Some set → IsSet n set

  record Few (v : Visited) : Type 0 where
    sets : AreSets n v.sets
    started : (i : Started) → In i v.started → HasFew i

  one_more : (xs : List Started) (i : Started) → ((j : Started) → In j xs → HasFew j) → HasFew i → (j : Started) → In j (xs ++ i ∷ []) → HasFew j
  one_more xs i all h j k = elim (In-cases j xs (i ∷ []) k) [ inl l ↦ all j l | inr l ↦ elim l [ inl e ↦ subst HasFew e h | inr z ↦ absurd z ] ]

  ------------------------------------------------------------
  -- Own names of modules, none of which is a grant

  -- what they lead to is a module
  abbrev Leads : Origin → Type 0
  Leads (Parameter bare) = Unit {0}
  Leads Grant = ⊥
  Leads (Use m) = m + 1 < length p.scopes
  Leads (Instance m arguments) = m + 1 < length p.scopes
  Leads (Import m arguments bound) = m + 1 < length p.scopes

  abbrev AllLead : List OwnName → Type 0
  AllLead ns = (m : OwnName) → In m ns → Leads m.origin

  module _ (c : IsCore p) where
    leads : (s : Scope) (k : ℕ) (m : OwnName) (o : Origin) → (o ≡ Grant → ⊥) → OriginFits p s k m o → Leads o
    leads s k m (Parameter bare) not f = tt
    leads s k m Grant not f = not refl
    leads s k m (Use j) not f = f.1
    leads s k m (Instance j arguments) not f = f.1
    leads s k m (Import j arguments bound) not f = f.1

    no_grant : (s : Scope) (k : ℕ) (m : OwnName) (o : Origin) (j : ℕ) → slice_get p.scopes j ≡ Some s → j + 1 < length p.scopes → OriginFits p s k m o → o ≡ Grant → ⊥
    no_grant s k m o j at before f e =
        let last = main_is_last p.scopes c.program j s at (subst (OriginFits p s k m) e f).0 in
        absurd (omega (arith, last, before))

    module_leads : (j : ℕ) → j + 1 < length p.scopes → AllLead (names_of (slice_get p.scopes j))
    module_leads j before = of (slice_get p.scopes j) refl
      where
        of : (o : Option Scope) → slice_get p.scopes j ≡ o → AllLead (names_of o)
        of None e m i = absurd i
        of (Some s) e m i =
            let at = In-at m s.names i in
            let f = ((c.scopes s (In-slice_get p.scopes j s e)).names at.0 m at.2).1 in
            leads s at.0 m m.origin (no_grant s at.0 m m.origin j e before f) f

    module _ (inside : Visit)
        (few : (outer : List OwnName) (prefix : List ℕ) (names : List OwnName) (v : Visited) → AllLead names → Few v → Few (inside outer prefix names v)) where
      used_few : (v : Visited) (word : List ℕ) (m : ℕ) (there : Option ℕ) → m + 1 < length p.scopes → Few v → Few (used p inside v word m there)
      used_few v word m (Some y) before h = record {
        sets = AreSets-both n v.sets _ h.sets (AreSets-map n (ground_sets (slice_get v.started y)) (definitions_of (slice_get p.scopes m)) (there (slice_get v.started y) refl));
        started = h.started;
      }
        where
          there : (o : Option Started) → slice_get v.started y ≡ o → AreSets n (ground_sets o)
          there None e = λ s i. absurd i
          there (Some i) e = (h.started i (In-slice_get v.started y i e)).ground
      used_few v word m None before h =
          let names = names_of (slice_get p.scopes m) in
          let inner = few names [] (uses_among names) (record { started = v.started; actuals = []; sets = [] })
          (λ x i. module_leads m before x (uses_are_names names x i)) (record { sets = λ s i. absurd i; started = h.started }) in
          record {
            sets = AreSets-both n v.sets _ h.sets (AreSets-map n _ (definitions_of (slice_get p.scopes m)) inner.sets);
            started = one_more _ _ inner.started (record { ground = inner.sets; bound = λ s e. absurd (cc) });
          }

      handed_few : (outer : List OwnName) (v : Visited) (m : ℕ) (arguments : List ℕ) → Few v → Few (handed p outer v m arguments)
      handed_few outer v m arguments h =
          record { sets = AreSets-map n v.sets (arguments_sets p outer (names_of (slice_get p.scopes m)) arguments) h.sets; started = h.started }

      name_few : (outer : List OwnName) (prefix : List ℕ) (x : OwnName) (o : Origin) (v : Visited) → Leads o → Few v → Few (visit_name p inside outer prefix x o v)
      name_few outer prefix x (Parameter bare) v l h = h
      name_few outer prefix x Grant v l h = absurd l
      name_few outer prefix x (Use m) v l h = used_few v (codes "pure " ++ x.name) m (number_from 0 (codes "pure " ++ x.name) v.started) l h
      name_few outer prefix x (Instance m arguments) v l h =
          let names = names_of (slice_get p.scopes m) in
          let inner = few names (prefix ++ (x.name ++ codes ".")) names (handed p outer v m arguments) (module_leads m l) (handed_few outer v m arguments h) in
          record {
            sets = AreSets-both n v.sets _ h.sets (AreSets-map n _ (definitions_of (slice_get p.scopes m)) inner.sets);
            started = one_more _ _ inner.started (record { ground = inner.sets; bound = λ s e. absurd (cc) });
          }
      name_few outer prefix x (Import m arguments bound) v l h =
          let names = names_of (slice_get p.scopes m) in
          let inner = few names (prefix ++ (x.name ++ codes ".")) names (handed p outer v m arguments) (module_leads m l) (handed_few outer v m arguments h) in
          record {
            sets = AreSets-both n v.sets [] h.sets (λ s i. absurd i);
            started = one_more _ _ inner.started
                (record { ground = inner.sets; bound = λ s e. (let same : replace v.sets bound ≡ s = cc in subst (IsSet n) same (IsSet-replace n v.sets bound h.sets)) });
          }

      names_few : (outer : List OwnName) (prefix : List ℕ) (names : List OwnName) (v : Visited) → AllLead names → Few v →
          Few (visit_names p inside outer prefix names v)
      names_few outer prefix [] v l h = h
      names_few outer prefix (x ∷ names) v l h =
          names_few outer prefix names _ (λ y i. l y (inr i)) (name_few outer prefix x x.origin v (l x (inl refl)) h)

    visit_few : (k : ℕ) (outer : List OwnName) (prefix : List ℕ) (names : List OwnName) (v : Visited) → AllLead names → Few v →
        Few (visit p k outer prefix names v)
    visit_few zero outer prefix names v l h = h
    visit_few (suc k) outer prefix names v l h = names_few (visit p k) (visit_few k) outer prefix names v l h

    ------------------------------------------------------------
    -- Those of the program, of which grants stand first

    module _ (k : ℕ) (outer : List OwnName) where
      -- what comes of an own name and those after it
      abbrev RestFew : OwnName → List OwnName → Visited → Origin → Type 0
      RestFew x names v o = Few (visit_names p (visit p k) outer [] names (visit_name p (visit p k) outer [] x o v))

      grants_few : (names : List OwnName) (v : Visited) → GrantsStandFirst names → ((m : OwnName) → In m names → (m.origin ≡ Grant → ⊥) → Leads m.origin) →
          length v.sets + length (grant_atoms p names) ≤ n → Few v → Few (visit_names p (visit p k) outer [] names v)
      grants_few [] v first l room h = h
      grants_few (x ∷ names) v first l room h = of x.origin refl (λ w. grants_few names w first.1 (λ m i. l m (inr i)))
        where
          none : (o : Origin) → x.origin ≡ o → (o ≡ Grant → ⊥) → RestFew x names v o
          none o e not =
              names_few (visit p k) (visit_few k) outer [] names _ (λ m i. l m (inr i) (λ g. not (sym e ∙ first.0 m i g)))
              (name_few (visit p k) (visit_few k) outer [] x o v (subst Leads e (l x (inl refl) (λ g. not (sym e ∙ g)))) h)

          of : (o : Origin) → x.origin ≡ o → ((w : Visited) → length w.sets + length (grant_atoms p names) ≤ n → Few w → Few (visit_names p (visit p k) outer [] names w)) →
              RestFew x names v o
          of (Parameter bare) e rest = none (Parameter bare) e (λ g. cc)
          of (Use m) e rest = none (Use m) e (λ g. cc)
          of (Instance m arguments) e rest = none (Instance m arguments) e (λ g. cc)
          of (Import m arguments bound) e rest = none (Import m arguments bound) e (λ g. cc)
          of Grant e rest =
              let members = members_of p x.typ in
              let atoms : length (granted p x.origin x) ≡ length members = ap (λ o. length (granted p o x)) e ∙ length-map members (atom_name x.name) in
              let both = length-append (granted p x.origin x) (grant_atoms p names) in
              let singles = length_singles (length v.sets) members in
              let sets = length-append v.sets (single_sets (length v.sets) members) in
              rest _ (omega (arith, room, atoms, both, singles, sets))
              (record {
                sets = AreSets-both n v.sets _ h.sets (single_sets_are (length v.sets) n members (omega (arith, room, atoms, both)));
                started = h.started;
              })

module _ (p : Program) (keeps : CoreKeeps p) where
  program_few : (depth : ℕ) → 0 < depth → (
      let names = names_of (slice_get p.scopes (program_number p)) in
      Few p (granted_count p) (visit p depth names [] names (record { started = []; actuals = []; sets = [] })))
  program_few zero lt = absurd (omega arith)
  program_few (suc k) lt =
      let c = keeps.core in
      let main = last_scope p.scopes c.program in
      let names = names_of (slice_get p.scopes (program_number p)) in
      let same : main.0.names ≡ names = ap names_of (sym main.1) in
      let lead : (m : OwnName) → In m names → (m.origin ≡ Grant → ⊥) → Leads p (granted_count p) m.origin = λ m i no. (
      let at = In-at m main.0.names (subst (λ l. In m l) (sym same) i) in
      let f = ((c.scopes main.0 (In-slice_get p.scopes (program_number p) main.0 main.1)).names at.0 m at.2).1 in
      leads p (granted_count p) c main.0 at.0 m m.origin no f) in
      grants_few p (granted_count p) c k names names (record { started = []; actuals = []; sets = [] }) keeps.grants lead (omega arith)
      (record { sets = λ s i. absurd i; started = λ i j. absurd j })

  all_few : Few p (granted_count p) (visit p (length p.scopes) (names_of (slice_get p.scopes (program_number p))) []
      (names_of (slice_get p.scopes (program_number p))) (record { started = []; actuals = []; sets = [] }))
  all_few =
      let main = last_scope p.scopes keeps.core.program in
      let last = read_within p.scopes (program_number p) main.0 main.1 in
      program_few (length p.scopes) (omega (arith, last))

  effect_few : (o : Option (List ℕ)) (sets : List (List ℕ)) → AreSets (granted_count p) sets → ((set : List ℕ) → o ≡ Some set → IsSet (granted_count p) set) →
      (effect : List ℕ) → IsSet (granted_count p) (body_set o sets effect)
  effect_few None sets h b effect = IsSet-replace (granted_count p) sets effect h
  effect_few (Some set) sets h b effect = b set refl

  instance_granted : (i : Started) → HasFew p (granted_count p) i → AtomsAreGranted p i
  instance_granted i h = record { ground = h.ground; bound = h.bound; effects = effect_few i.bound i.ground h.ground h.bound }

  pub atoms_granted : (i : Started) → In i (run_instances p) → AtomsAreGranted p i
  atoms_granted i j = elim (In-cases i (start_list p) _ j) [
    | inl k ↦ instance_granted i (all_few.started i k)
    | inr k ↦ elim k [
      | inl e ↦ subst (AtomsAreGranted p) e (instance_granted _ (record { ground = all_few.sets; bound = λ s f. absurd (cc) }))
      | inr z ↦ absurd z
    ]
  ]

  rows_granted : (i : Started) → HasFew p (granted_count p) i → (first : List ℕ) (o : Option Scope) (b : BodyRow) → In b (body_rows i.bound i.ground first o) →
      IsSet (granted_count p) b.set
  rows_granted i h first None b j = absurd j
  rows_granted i h first (Some s) b (inl e) = subst (λ (v : BodyRow). IsSet (granted_count p) v.set) e (effect_few i.bound i.ground h.ground h.bound s.start_effect)
  rows_granted i h first (Some s) b (inr j) =
      let r = In-unmap (λ m. body_row (body_name m) (body_set i.bound i.ground m.signature.effect)) b s.bodies j in
      subst (λ (v : BodyRow). IsSet (granted_count p) v.set) r.2 (effect_few i.bound i.ground h.ground h.bound (r.0).signature.effect)

pub ground_atoms_are_granted : GroundAtomsAreGranted
ground_atoms_are_granted p keeps x i e = atoms_granted p keeps i (In-slice_get (run_instances p) x i e)

pub reported_atoms_are_granted : ReportedAtomsAreGranted
reported_atoms_are_granted p keeps r j b k = elim (In-cases r (map (instance_row p) (start_list p)) (main_row p ∷ []) j) [
  | inl l ↦
      let i = In-unmap (instance_row p) r (start_list p) l in
      let inside : In b (instance_row p i.0).bodies = subst (λ (v : InstanceRow). In b v.bodies) (sym i.2) k in
      rows_granted p keeps i.0 ((all_few p keeps).started i.0 i.1) (codes "init") (slice_get p.scopes i.0.scope) b inside
  | inr l ↦ elim l [
    | inl e ↦ rows_granted p keeps
        (record { name = []; scope = 0; arguments = []; bound = None; ground = program_sets p })
        (record { ground = (all_few p keeps).sets; bound = λ s f. absurd (cc) }) (codes "run") (slice_get p.scopes (program_number p)) b
        (subst (λ (v : InstanceRow). In b v.bodies) (sym e) k)
    | inr z ↦ absurd z
  ]
]
