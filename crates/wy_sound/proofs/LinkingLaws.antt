-- The laws of linking, by the visits from the program's scope on.
use Rattle.std.proofs.Common.{◌≡◌, ℕ, zero, suc, List, [], ◌∷◌, ◌++◌, inl, inr, length, refl, sym, ap, ◌∙◌, subst, arith, Some, None, append_assoc, append-nil}
use Rattle.std.specs.Prelude.{codes, slice_get}
use Rattle.wy_effects.specs.EffSet.{IsSet, AreSets}
use Rattle.wy_text.proofs.Lists.{In-slice_get}
use Rattle.wy_types.specs.declared.linked.Instance.{Instance as Started}
use Rattle.wy_types.specs.declared.resolved.Origin.{Origin}
use Rattle.wy_types.specs.declared.resolved.Origin.TheVariants.{Parameter, Grant, Use, Instance, Import}
use Rattle.wy_types.specs.declared.resolved.OwnName.{OwnName}
use Rattle.wy_types.specs.declared.resolved.ScopeKind.TheVariants.{Program as Main}
use Rattle.wy_types.specs.Program.{Program, Scope}
use Rattle.wy_types.specs.Types.{scope_is_plain, is_plain}
use Rattle.wy_types.specs.Bounds.{bounds_of}
use Rattle.wy_types.specs.Core.{IsPrimitive, OriginFits, IsCore}
use Rattle.wy_types.specs.Ground.{Visited, instance_of, visit_name, visit_names, visit, program_number, program_visited, program_sets, start_list}
use Rattle.wy_rules.specs.Acceptance.{LineHolds, Accepted}
use Rattle.wy_rules.specs.GroundTypes.{read_by, run_instances}
use Rattle.wy_rules.specs.GroundTyping.{BoundFits}
use Rattle.wy_sound.specs.Arguments.{ground_below, actual_type, ArgumentFits, InstanceFits}
use Rattle.wy_rules.specs.OwnNames.{opened_count, HasItsType, HaveTheirTypes, LinesAreTyped, HavePlainNames}
use Rattle.wy_rules.proofs.RunReadings.{no_own, no_own_read, same_at}
use Rattle.wy_sound.specs.Programs.{IsResolved}
use Rattle.wy_sound.specs.Linking.{AcceptedInstancesFit, AcceptedArgumentsFit}
use Rattle.wy_sound.specs.Grounds.{GroundSetsAre}
use Rattle.wy_sound.proofs.LinkingLists.{GoesOn, goes_on_same, goes_on_further, read_next, read_last, read_within}
use Rattle.wy_sound.proofs.LinkingBounds.{none_respect}
use Rattle.wy_sound.proofs.LinkingStates.{count_more, AreActuals, actual_at, actuals_length, AreGround, ground_at, Stands}
use Rattle.wy_sound.proofs.LinkingVisits.{later_names_grow}
use Rattle.wy_sound.proofs.LinkingPrograms.{last_scope, main_is_last, one_scope}
use Rattle.wy_sound.proofs.LinkingWays.{Way, way_ends, way_begins}
use Rattle.wy_sound.proofs.LinkingScopes.{names_at, Facts, facts_at, name_bounds, program_typed}
use Rattle.wy_sound.proofs.LinkingNames.{grant_stands}
use Rattle.wy_sound.proofs.LinkingLines.{Visiting, VisitStands, instance_stands, import_stands, use_stands}

-- each instance of the run has sets for its atoms, and a bound that is one
abbrev pub RunSets : Program → Type 0
RunSets p = (x : ℕ) (i : Started) → slice_get (run_instances p) x ≡ Some i → AreSets 512 i.ground × ((b : List ℕ) → i.bound ≡ Some b → IsSet 512 b)

module _ (p : Program) (c : IsCore p) (t : LinesAreTyped p) (words : HavePlainNames p) (a : Accepted p) where
  module _ (k : ℕ) (inside : VisitStands p k) (m : ℕ) (s : Scope) (path prefix : List ℕ) (top : List (List ℕ)) (at : Visiting p m s prefix top)
      (way : Way p path m (suc k)) where
    module _ (done : List OwnName) (n : OwnName) (rest : List OwnName) (v : Visited) (names : names_at p m ≡ done ++ n ∷ rest)
        (stands : Stands p m None top done v) where
      place : slice_get (names_at p m) (length done) ≡ Some n
      place = ap (λ l. slice_get l (length done)) names ∙ read_next done rest n

      line : (o : Origin) → n.origin ≡ o → LineHolds p m (names_at p m) o
      line o e = subst (LineHolds p m (names_at p m)) e (at.facts.lines n (In-slice_get (names_at p m) (length done) n place))

      -- one own name more
      name_stands : (o : Origin) → n.origin ≡ o → HasItsType p (opened_count p done) n o →
          GoesOn (visit_name p (visit p k) (names_at p m) prefix n o v).started (start_list p) →
          GoesOn (visit_name p (visit p k) (names_at p m) prefix n o v).sets top →
          Stands p m None top (done ++ n ∷ []) (visit_name p (visit p k) (names_at p m) prefix n o v)
      name_stands (Parameter bare) e typed goes further = absurd typed
      name_stands Grant e typed goes further =
          let is : (s.kind ≡ Main) × IsPrimitive n.typ = subst (OriginFits p s (length done) n) e (at.facts.written (length done) n place).1 in
          grant_stands p c m top done v n stands (length s.atoms) (at.facts.written (length done) n place).0.0
          (name_bounds p c m s at.facts done n rest names) typed.0 rest names
          (main_is_last p.scopes c.program m s at.facts.there is.0) (at.main is.0) e is.1
          at.facts.fits.atoms typed.1 further
      name_stands (Use j) e typed goes further =
          use_stands p c t words a k inside m s path prefix top at way done n rest v names stands j e (line (Use j) e) typed.0 typed.1 goes further
      name_stands (Instance j arguments) e typed goes further =
          instance_stands p c t words a k inside m s path prefix top at way done n rest v names stands j arguments e typed goes further
      name_stands (Import j arguments bound) e typed goes further =
          import_stands p c t words a k inside m s path prefix top at way done n rest v names stands j arguments bound e typed.0 typed.1 goes further

    -- the own names that are left
    names_stand : (done rest : List OwnName) (v : Visited) → names_at p m ≡ done ++ rest → HaveTheirTypes p (opened_count p done) rest →
        top ≡ (visit_names p (visit p k) (names_at p m) prefix rest v).sets →
        GoesOn (visit_names p (visit p k) (names_at p m) prefix rest v).started (start_list p) → Stands p m None top done v →
        Stands p m None top (names_at p m) (visit_names p (visit p k) (names_at p m) prefix rest v)
    names_stand done [] v names typed ends goes stands = subst (λ l. Stands p m None top l v) (sym (names ∙ append-nil done)) stands
    names_stand done (n ∷ rest) v names typed ends goes stands =
        let w = visit_name p (visit p k) (names_at p m) prefix n n.origin v in
        let grows = later_names_grow p k (names_at p m) prefix rest w in
        let one =
        name_stands done n rest v names stands n.origin refl typed.0 (goes_on_further _ _ (start_list p) grows.started goes)
        (goes_on_further _ _ top grows.sets ([], ends ∙ sym (append-nil _))) in
        names_stand (done ++ n ∷ []) rest w (names ∙ sym (append_assoc done (n ∷ []) rest))
        (subst (λ j. HaveTheirTypes p j rest) (sym (count_more p done n)) typed.1) ends goes one

  visit_stands : (k : ℕ) → VisitStands p k
  visit_stands zero m s path prefix done rest v top at way names typed ends goes stands = absurd (way_ends p c.no_cycle path m s at.facts.there way)
  visit_stands (suc k) m s path prefix done rest v top at way names typed ends goes stands =
      names_stand k (visit_stands k) m s path prefix top at way done rest v names typed ends goes stands

  ------------------------------------------------------------
  -- The program's own visit

  main : (s : Scope) × (slice_get p.scopes (program_number p) ≡ Some s) × (s.kind ≡ Main)
  main = last_scope p.scopes c.program

  main_facts : Facts p (program_number p) main.0
  main_facts = facts_at p c t words a (program_number p) main.0 main.1

  program_stands : Stands p (program_number p) None (program_sets p) (names_at p (program_number p)) (program_visited p)
  program_stands =
      let empty : Visited = record { started = []; actuals = []; sets = [] } in
      let stands : Stands p (program_number p) None (program_sets p) [] empty =
      record { actuals = tt; grounds = tt; count = refl; types = λ x i. absurd i; sets = λ x i. absurd i; respects = λ e. none_respect (bounds_of p (program_number p)) []; started = λ y i e. absurd (cc) } in
      visit_stands (length p.scopes) (program_number p) main.0 [] [] [] (names_at p (program_number p)) empty (program_sets p)
      (record { facts = main_facts; plain = ap is_plain main.2; words = λ i. absurd i; main = λ e. refl })
      (way_begins p (program_number p)) refl (program_typed p c t) refl (goes_on_same (start_list p)) stands

  ------------------------------------------------------------
  -- The instances of the run

  program : Started
  program = instance_of (codes "main") (program_number p) (program_visited p).actuals None (program_sets p)

  -- the sets that an instance reads types and effects by
  pub run_sets : RunSets p
  unfolding program
  run_sets x i e =
      elim (read_last (start_list p) program x i e) [
        | inl there ↦ (let fit = program_stands.started x i there in (fit.sets, fit.bound_set))
        | inr last ↦
            let P : Started → Type 0 = λ j. AreSets 512 j.ground × ((b : List ℕ) → j.bound ≡ Some b → IsSet 512 b) in
            subst P last.1 (program_stands.sets, λ b none. absurd (cc))
      ]

  instance_fits : (x : ℕ) (i : Started) → slice_get (run_instances p) x ≡ Some i → InstanceFits p x i
  unfolding program
  instance_fits x i e =
      elim (read_last (start_list p) program x i e) [
        | inl there ↦
            let fit = program_stands.started x i there in
            let le = read_within (start_list p) x i there in
            record {
              scope = fit.scope;
              is = record { there = e; scope = fit.there; bound = fit.bound; sets = fit.sets; respects = fit.respects };
              kind = (λ k. absurd (fit.is_module k), λ k. absurd (omega (arith, le, k)));
            }
        | inr last ↦
            let fits : InstanceFits p (length (start_list p)) program = record {
              scope = main.0;
              is = record {
                there = read_next (start_list p) [] program;
                scope = main.1;
                bound = subst (λ k. BoundFits (is_plain k) None) (sym main.2) tt;
                sets = program_stands.sets;
                respects = λ e. program_stands.respects (ap scope_is_plain main.1 ∙ e);
              };
              kind = (λ k. refl, λ k. main.2);
            } in
            subst (λ y. InstanceFits p y i) (sym last.0) (subst (InstanceFits p (length (start_list p))) last.1 fits)
      ]

  arguments_of : (x : ℕ) (i : Started) (s : Scope) → slice_get (run_instances p) x ≡ Some i → slice_get p.scopes i.scope ≡ Some s →
      AreActuals p x i.bound i.ground s.names i.arguments
  unfolding program
  arguments_of x i s e scope =
      elim (read_last (start_list p) program x i e) [
        | inl there ↦
            let fit = program_stands.started x i there in
            subst (λ (z : Scope). AreActuals p x i.bound i.ground z.names i.arguments)
            (one_scope (slice_get p.scopes i.scope) fit.scope s fit.there scope) fit.actuals
        | inr last ↦
            let P : Started → Type 0 = λ j. slice_get p.scopes j.scope ≡ Some s in
            let same : main.0 ≡ s = one_scope (slice_get p.scopes (program_number p)) main.0 s main.1 (subst P (sym last.1) scope) in
            let own : names_at p (program_number p) ≡ s.names = main_facts.names ∙ ap (λ (z : Scope). z.names) same in
            let fits : AreActuals p (length (start_list p)) program.bound program.ground s.names program.arguments =
            subst (λ l. AreActuals p (length (start_list p)) None (program_sets p) l (program_visited p).actuals) own program_stands.actuals in
            let Q : Started → Type 0 = λ j. AreActuals p (length (start_list p)) j.bound j.ground s.names j.arguments in
            subst (λ y. AreActuals p y i.bound i.ground s.names i.arguments) (sym last.0) (subst Q last.1 fits)
      ]

  grounds_of : (x : ℕ) (i : Started) (s : Scope) → slice_get (run_instances p) x ≡ Some i → slice_get p.scopes i.scope ≡ Some s →
      AreGround p i.ground s.names s.names i.arguments
  unfolding program
  grounds_of x i s e scope =
      elim (read_last (start_list p) program x i e) [
        | inl there ↦
            let fit = program_stands.started x i there in
            subst (λ (z : Scope). AreGround p i.ground z.names z.names i.arguments)
            (one_scope (slice_get p.scopes i.scope) fit.scope s fit.there scope) fit.grounds
        | inr last ↦
            let P : Started → Type 0 = λ j. slice_get p.scopes j.scope ≡ Some s in
            let same : main.0 ≡ s = one_scope (slice_get p.scopes (program_number p)) main.0 s main.1 (subst P (sym last.1) scope) in
            let own : names_at p (program_number p) ≡ s.names = main_facts.names ∙ ap (λ (z : Scope). z.names) same in
            let fits : AreGround p program.ground s.names s.names program.arguments =
            subst (λ l. AreGround p (program_sets p) l l (program_visited p).actuals) own program_stands.grounds in
            let Q : Started → Type 0 = λ j. AreGround p j.ground s.names s.names j.arguments in
            subst Q last.1 fits
      ]

  argument_fits : (x : ℕ) (i : Started) (s : Scope) (k : ℕ) (n : OwnName) → slice_get (run_instances p) x ≡ Some i →
      slice_get p.scopes i.scope ≡ Some s → slice_get s.names k ≡ Some n → ArgumentFits p x i k n
  argument_fits x i s k n e scope at =
      let r = actual_at p x i.bound i.ground s.names i.arguments k n (arguments_of x i s e scope) at in
      let written = ((c.scopes s (In-slice_get p.scopes i.scope s scope)).names k n at).0.0 in
      record {
        argument = r.0;
        handed = r.1;
        there = r.2.there;
        below =
            subst (ground_below p (actual_type p r.0))
            (same_at 0 x (read_by i.bound i.ground n.typ) (no_own_read i.bound i.ground n.typ (no_own p (length s.atoms) n.typ written))) r.2.below;
      }

-- an instance of the start list is one of a module, and is handed something for each of its own names
pub record IsModuleInstance (p : Program) (i : Started) : Type 0 where
  pub scope : Scope
  pub there : slice_get p.scopes i.scope ≡ Some scope
  pub is_module : scope.kind ≡ Main → ⊥
  pub handed : length i.arguments ≡ length scope.names

pub accepted_modules : (p : Program) → IsResolved p → Accepted p → (x : ℕ) (i : Started) → slice_get (start_list p) x ≡ Some i → IsModuleInstance p i
accepted_modules p r a x i e =
    let fit = (program_stands p r.keeps.core r.keeps.lines r.names a).started x i e in
    record {
      scope = fit.scope;
      there = fit.there;
      is_module = fit.is_module;
      handed = actuals_length p x i.bound i.ground fit.scope.names i.arguments fit.actuals;
    }

pub accepted_instances_fit : AcceptedInstancesFit
accepted_instances_fit p c t words a = record { each = instance_fits p c t words a }

-- the ground sets of an instance's atoms
pub ground_sets_are : GroundSetsAre
ground_sets_are p r a x i s k n e scope at =
    ground_at p i.ground s.names s.names i.arguments k n (grounds_of p r.keeps.core r.keeps.lines r.names a x i s e scope) at

pub accepted_arguments_fit : AcceptedArgumentsFit
accepted_arguments_fit p c t words a = record {
  each = argument_fits p c t words a;
  count =
      λ x i s e scope. (let same = actuals_length p x i.bound i.ground s.names i.arguments (arguments_of p c t words a x i s e scope) in omega (arith, same));
}
