-- An instance of a pure module may do nothing: its own names are uses of pure modules, so each of its atoms stands for no atom of a grant.
use Rattle.std.proofs.Common.{◌≡◌, codes, ℕ, zero, suc, Bool, true, false, List, [], ◌∷◌, ◌++◌, length, map, inl, inr, ⊎_elim, refl, sym, ap, ◌∙◌, subst, Option, Some, None, Contains, arith}
use Rattle.std.specs.Prelude.{slice_get, slice_index_or, bytes_eq, if◌then◌else◌}
use Rattle.std.proofs.lemmas.Slice.Eq.{bytes_eq-Decides}
use Rattle.wy_text.specs.declared.fault.AtomName.{AtomName}
use Rattle.wy_text.specs.Members.{In}
use Rattle.wy_effects.specs.EffSet.{union, replace}
use Rattle.wy_effects.proofs.SetLaws.{has-In}
use Rattle.wy_text.proofs.Lists.{In-at, In-cases, In-unmap, In-slice_get}
use Rattle.wy_types.specs.declared.linked.Actual.{Actual}
use Rattle.wy_types.specs.declared.linked.Instance.{Instance as Started}
use Rattle.wy_types.specs.declared.resolved.Origin.{Origin}
use Rattle.wy_types.specs.declared.resolved.Origin.TheVariants.{Parameter, Grant, Use, Instance, Import}
use Rattle.wy_types.specs.declared.resolved.OwnName.{OwnName}
use Rattle.wy_types.specs.declared.resolved.ScopeKind.TheVariants.{Pure}
use Rattle.wy_types.specs.Program.{Program, Scope, Body}
use Rattle.wy_types.specs.Types.{is_plain}
use Rattle.wy_types.specs.Ground.{Visited, Visit, settled, names_of, is_use, uses_among, handed, ground_sets, number_from, defined_sets, definitions_of, used, visit_name, visit_names, visit, program_number, start_list}
use Rattle.wy_rules.specs.Acceptance.{IsOfKind, LineHolds, Accepted}
use Rattle.wy_rules.specs.GroundTyping.{BoundFits}
use Rattle.wy_rules.specs.OwnNames.{HavePlainNames}
use Rattle.wy_authority.specs.declared.rows.BodyRow.{BodyRow}
use Rattle.wy_authority.specs.declared.rows.InstanceRow.{InstanceRow}
use Rattle.wy_authority.specs.Authority.{body_set, body_row, body_name, body_rows, instance_row, main_row, authority_of}
use Rattle.wy_authority.specs.Report.{named_atoms}
use Rattle.wy_meaning.specs.Bounds.{Call, atom_of}
use Rattle.wy_meaning.specs.OpenCalls.{open_after}
use Rattle.wy_meaning.proofs.Bounding.{said_of_each_deed}
use Rattle.wy_sound.specs.Programs.{body_atoms, call_atoms, allowed, IsResolved}
use Rattle.wy_sound.specs.Laws.{PureInstancesMayNothing, PureInstancesAreSilent}
use Rattle.wy_sound.specs.Courses.{course}
use Rattle.wy_sound.proofs.LinkingLaws.{accepted_instances_fit}
use Rattle.wy_sound.proofs.LinkingAdded.{AllUses, uses_are_uses, uses_are_names}
use Rattle.wy_sound.proofs.LinkingPrograms.{last_scope, NoSpace, no_space_both, no_space_dot, number_found}
use Rattle.wy_sound.proofs.LinkingLists.{read_first}
use Rattle.wy_sound.proofs.Lists.{some_same}
use Rattle.wy_sound.proofs.Running.{events_are_bounded}

AllEmpty : List (List ℕ) → Type 0
AllEmpty sets = (e : List ℕ) → In e sets → e ≡ []

replace_empty : (sets : List (List ℕ)) (atoms : List ℕ) → AllEmpty sets → replace sets atoms ≡ []
unfolding AllEmpty
replace_empty sets [] h = refl
replace_empty sets (a ∷ atoms) h = ap (λ s. union s (replace sets atoms)) (read_empty sets a h) ∙ replace_empty sets atoms h
  where
    read_empty : (sets : List (List ℕ)) (a : ℕ) → ((e : List ℕ) → In e sets → e ≡ []) → slice_index_or sets a [] ≡ []
    read_empty [] a h = refl
    read_empty (s ∷ sets) zero h = h s (inl refl)
    read_empty (s ∷ sets) (suc a) h = read_empty sets a (λ e i. h e (inr i))

both_empty : (xs ys : List (List ℕ)) → AllEmpty xs → AllEmpty ys → AllEmpty (xs ++ ys)
unfolding AllEmpty
both_empty xs ys h g e i = elim (In-cases e xs ys i) [ inl j ↦ h e j | inr j ↦ g e j ]

-- what is defined by empty sets is empty
defined_empty : (sets ds : List (List ℕ)) → AllEmpty sets → AllEmpty (map (replace sets) ds)
unfolding AllEmpty
defined_empty sets ds h e i = let r = In-unmap (replace sets) e ds i in sym r.2 ∙ replace_empty sets r.0 h

module _ (p : Program) (plain : HavePlainNames p) (accepted : Accepted p) where
  -- an instance of a pure module has a space in its name, and no other has; its atoms stand for nothing
  record IsQuiet (i : Started) : Type 0 where
    scope : Scope
    there : slice_get p.scopes i.scope ≡ Some scope
    empty : scope.kind ≡ Pure → AllEmpty i.ground
    spaced : scope.kind ≡ Pure → In 32 i.name
    pure : In 32 i.name → scope.kind ≡ Pure

  AllQuiet : List Started → Type 0
  AllQuiet is = (i : Started) → In i is → IsQuiet i

  quiet_more : (is : List Started) (i : Started) → AllQuiet is → IsQuiet i → AllQuiet (is ++ i ∷ [])
  unfolding AllQuiet
  quiet_more is i h q j k = elim (In-cases j is
      (i ∷ []) k) [ inl l ↦ h j l | inr l ↦ elim l [ inl e ↦ subst (λ (v : Started). IsQuiet v) e q | inr f ↦ absurd f ] ]

  -- what a visit of some of a scope's own names keeps
  record Keeps (ns : List OwnName) (v w : Visited) : Type 0 where
    quiet : AllQuiet w.started
    sets : AllUses ns → AllEmpty v.sets → AllEmpty w.sets

  VisitKeeps : Visit → Type 0
  VisitKeeps inside = (m : ℕ) (s : Scope) (prefix : List ℕ) (ns : List OwnName) (v : Visited) → slice_get p.scopes m ≡ Some s →
      ((n : OwnName) → In n ns → In n s.names) → NoSpace prefix → AllQuiet v.started →
      Keeps ns v (inside (names_of (slice_get p.scopes m)) prefix ns v)

  module _ (inside : Visit) (keeps : VisitKeeps inside) (m : ℕ) (s : Scope) (at : slice_get p.scopes m ≡ Some s) (prefix : List ℕ)
      (clear : NoSpace prefix) where
    abbrev outer : List OwnName
    outer = names_of (slice_get p.scopes m)

    used_keeps : (ns : List OwnName) (v : Visited) (word : List ℕ) (j : ℕ) (o : Option ℕ) → o ≡ number_from 0 (codes "pure " ++ word) v.started →
        IsOfKind p Pure j → AllQuiet v.started →
        Keeps ns v (used p inside v (codes "pure " ++ word) j o)
    unfolding AllQuiet VisitKeeps AllEmpty
    used_keeps ns v word j (Some i) e z quiet =
        let r = number_found 0 (codes "pure " ++ word) v.started i (sym e) in
        let at_i : slice_get v.started i ≡ Some r.1 = ap (slice_get v.started) (let f : i ≡ r.0 = omega (arith, r.2) in f) ∙ r.3 in
        let q = quiet r.1 (In-slice_get v.started r.0 r.1 r.3) in
        let kind : q.scope.kind ≡ Pure = q.pure (subst (λ l. In 32 l) (sym r.4) (inr (inr (inr (inr (inl refl)))))) in
        record {
          quiet = quiet;
          sets = λ u h. both_empty v.sets (defined_sets p j (ground_sets (slice_get v.started i))) h
              (defined_empty (ground_sets (slice_get v.started i)) (definitions_of (slice_get p.scopes j))
              (subst AllEmpty (sym (ap ground_sets at_i)) (q.empty kind)));
        }
    used_keeps ns v word j None e z quiet =
        let names : List OwnName = names_of (slice_get p.scopes j) in
        let start : Visited = record { started = v.started; actuals = []; sets = [] } in
        let inner : Visited = inside names [] (uses_among names) start in
        let k = keeps j z.0 [] (uses_among names) start z.1 (λ n i. subst (λ l. In n l) (ap names_of z.1) (uses_are_names names n i))
        (λ i. absurd i) quiet in
        let empty : AllEmpty inner.sets = k.sets (uses_are_uses names) (λ e i. absurd i) in
        record {
          quiet = quiet_more inner.started _ k.quiet
              (record { scope = z.0; there = z.1; empty = λ kind. empty; spaced = λ kind. inr (inr (inr (inr (inl refl)))); pure = λ i. z.2 });
          sets = λ u h. both_empty v.sets (defined_sets p j inner.sets) h (defined_empty inner.sets (definitions_of (slice_get p.scopes j)) empty);
        }

    -- an instance of a line is of no pure module
    line_keeps : (ns : List OwnName) (n : OwnName) (v inner : Visited) (i : Started) (a : Actual) (sets : List (List ℕ)) (z : Scope) →
        AllQuiet inner.started → slice_get p.scopes i.scope ≡ Some z → (z.kind ≡ Pure → ⊥) → NoSpace i.name →
        (AllUses ns → ⊥) → Keeps ns v (settled v (inner.started ++ i ∷ []) a sets)
    line_keeps ns n v inner i a sets z quiet there kind name uses = record {
      quiet = quiet_more inner.started i quiet
          (record { scope = z; there = there; empty = λ e. absurd (kind e); spaced = λ e. absurd (kind e); pure = λ j. absurd (name j) });
      sets = λ u h. absurd (uses u);
    }

    name_keeps : (n : OwnName) (o : Origin) (v : Visited) → n.origin ≡ o → In n s.names → AllQuiet v.started →
        Keeps (n ∷ []) v (visit_name p inside outer prefix n o v)
    unfolding VisitKeeps
    name_keeps n (Parameter bare) v e i quiet = record { quiet = quiet; sets = λ u h. h }
    name_keeps n Grant v e i quiet =
        record { quiet = quiet; sets = λ u h. absurd (let f : is_use Grant ≡ true = sym (ap is_use e) ∙ u n (inl refl) in cc) }
    name_keeps n (Use j) v e i quiet =
        used_keeps (n ∷ []) v n.name j (number_from 0 (codes "pure " ++ n.name) v.started) refl
        (subst (LineHolds p m s.names) e ((accepted.scopes m s at).lines n i)) quiet
    name_keeps n (Instance j arguments) v e i quiet =
        let holds = subst (LineHolds p m s.names) e ((accepted.scopes m s at).lines n i) in
        let z = holds.resource in
        let word : NoSpace n.name = (plain s (In-slice_get p.scopes m s at) n i).0 in
        let names : List OwnName = names_of (slice_get p.scopes j) in
        let start : Visited = handed p outer v j arguments in
        let k = keeps j z.0 (prefix ++ (n.name ++ codes ".")) names start z.1 (λ n i. subst (λ l. In n l) (ap names_of z.1) i)
        (no_space_both prefix (n.name ++ codes ".") clear (no_space_both n.name (codes ".") word no_space_dot)) quiet in
        line_keeps (n ∷ []) n v (inside names (prefix ++ (n.name ++ codes ".")) names start) _ _ _ z.0 k.quiet z.1 (λ f. let g = sym z.2 ∙ f in cc)
        (no_space_both prefix n.name clear word)
        (λ u. let f : is_use (Instance j arguments) ≡ true = sym (ap is_use e) ∙ u n (inl refl) in cc)
    name_keeps n (Import j arguments bound) v e i quiet =
        let holds = subst (LineHolds p m s.names) e ((accepted.scopes m s at).lines n i) in
        let z = holds.0.plain in
        let word : NoSpace n.name = (plain s (In-slice_get p.scopes m s at) n i).0 in
        let names : List OwnName = names_of (slice_get p.scopes j) in
        let start : Visited = handed p outer v j arguments in
        let k = keeps j z.0 (prefix ++ (n.name ++ codes ".")) names start z.1 (λ n i. subst (λ l. In n l) (ap names_of z.1) i)
        (no_space_both prefix (n.name ++ codes ".") clear (no_space_both n.name (codes ".") word no_space_dot)) quiet in
        line_keeps (n ∷ []) n v (inside names (prefix ++ (n.name ++ codes ".")) names start) _ _ _ z.0 k.quiet z.1 (λ f. let g = sym z.2 ∙ f in cc)
        (no_space_both prefix n.name clear word)
        (λ u. let f : is_use (Import j arguments bound) ≡ true = sym (ap is_use e) ∙ u n (inl refl) in cc)

    names_keep : (ns : List OwnName) (v : Visited) → ((n : OwnName) → In n ns → In n s.names) → AllQuiet v.started →
        Keeps ns v (visit_names p inside outer prefix ns v)
    names_keep [] v among quiet = record { quiet = quiet; sets = λ u h. h }
    names_keep (n ∷ ns) v among quiet =
        let one = name_keeps n n.origin v refl (among n (inl refl)) quiet in
        let rest = names_keep ns (visit_name p inside outer prefix n n.origin v) (λ k i. among k (inr i)) one.quiet in
        record {
          quiet = rest.quiet;
          sets = λ u h. rest.sets (λ k i. u k (inr i)) (one.sets (λ k i. elim i [ inl f ↦ u k (inl f) | inr f ↦ absurd f ]) h);
        }

  visit_keeps : (k : ℕ) → VisitKeeps (visit p k)
  unfolding VisitKeeps
  visit_keeps zero m s prefix ns v at among clear quiet = record { quiet = quiet; sets = λ u h. h }
  visit_keeps (suc k) m s prefix ns v at among clear quiet = names_keep (visit p k) (visit_keeps k) m s at prefix clear ns v among quiet

  all_quiet : (s : Scope) → slice_get p.scopes (program_number p) ≡ Some s → AllQuiet (start_list p)
  unfolding VisitKeeps AllQuiet
  all_quiet s at =
      let names : List OwnName = names_of (slice_get p.scopes (program_number p)) in
      (visit_keeps (length p.scopes) (program_number p) s [] names (record { started = []; actuals = []; sets = [] }) at
      (λ n i. subst (λ l. In n l) (ap names_of at) i) (λ i. absurd i) (λ i j. absurd j)).quiet

------------------------------------------------------------
-- The laws

main_spaceless : In 32 (codes "main") → ⊥
main_spaceless i = let f : false ≡ true = has-In 32 (codes "main") i in cc

module _ (p : Program) (resolved : IsResolved p) (accepted : Accepted p) where
  quiet : (i : Started) → In i (start_list p) → IsQuiet p resolved.names accepted i
  unfolding AllQuiet
  quiet i j = let m = last_scope p.scopes resolved.keeps.core.program in all_quiet p resolved.names accepted m.0 m.1 i j

  -- an instance of a pure module has no bound
  no_bound : (i : Started) → In i (start_list p) → (s : Scope) → slice_get p.scopes i.scope ≡ Some s → s.kind ≡ Pure → i.bound ≡ None
  no_bound i j s at kind =
      let x = In-at i (start_list p) j in
      let f = (accepted_instances_fit p resolved.keeps.core resolved.keeps.lines resolved.names accepted).each x.0 i (read_first (start_list p) _ x.0 i x.2) in
      let same : f.scope ≡ s = some_same (sym f.is.scope ∙ at) in
      of_bound i.bound (subst (λ b. BoundFits b i.bound) (ap (λ (s : Scope). is_plain s.kind) same ∙ ap is_plain kind) f.is.bound)
    where
      of_bound : (o : Option (List ℕ)) → BoundFits false o → o ≡ None
      of_bound None h = refl
      of_bound (Some b) h = absurd h

  rows_empty : (bound : Option (List ℕ)) (sets : List (List ℕ)) (first : List ℕ) (o : Option Scope) → bound ≡ None → AllEmpty sets → (b : BodyRow) →
      In b (body_rows bound sets first o) → b.set ≡ []
  rows_empty bound sets first None e h b i = absurd i
  rows_empty bound sets first (Some s) e h b (inl f) = sym (ap (λ (b : BodyRow). b.set) f) ∙ ap (λ o. body_set o sets s.start_effect) e ∙
      replace_empty sets s.start_effect h
  rows_empty bound sets first (Some s) e h b (inr i) =
      let r = In-unmap (λ (b : Body). body_row (body_name b) (body_set bound sets b.signature.effect)) b s.bodies i in
      sym (ap (λ (b : BodyRow). b.set) r.2) ∙ ap (λ o. body_set o sets r.0.signature.effect) e ∙ replace_empty sets r.0.signature.effect h

  may_nothing : (i : Started) → In i (start_list p) → IsOfKind p Pure i.scope → (b : BodyRow) → In b (instance_row p i).bodies → b.set ≡ []
  may_nothing i j z b k =
      let q = quiet i j in
      let same : q.scope ≡ z.0 = some_same (sym q.there ∙ z.1) in
      rows_empty i.bound i.ground (codes "init") (slice_get p.scopes i.scope) (no_bound i j z.0 z.1 z.2)
      (q.empty (ap (λ (s : Scope). s.kind) same ∙ z.2)) b k

  -- no row of such a name allows anything
  bodies_empty : (atoms : List AtomName) (name : List ℕ) (bs : List BodyRow) → ((b : BodyRow) → In b bs → b.set ≡ []) → body_atoms atoms name bs ≡ []
  bodies_empty atoms name [] h = refl
  bodies_empty atoms name (b ∷ bs) h =
      of_test (bytes_eq b.name name) (ap (named_atoms atoms) (h b (inl refl))) (bodies_empty atoms name bs (λ c i. h c (inr i)))
    where
      of_test : (t : Bool) → named_atoms atoms b.set ≡ [] → body_atoms atoms name bs ≡ [] →
          (if t then named_atoms atoms b.set ++ body_atoms atoms name bs else body_atoms atoms name bs) ≡ []
      of_test true e f = ap (λ l. l ++ body_atoms atoms name bs) e ∙ f
      of_test false e f = f

  calls_empty : (atoms : List AtomName) (call : Call) (rs : List InstanceRow) →
      ((r : InstanceRow) → In r rs → r.name ≡ call.instance → (b : BodyRow) → In b r.bodies → b.set ≡ []) → call_atoms atoms call rs ≡ []
  calls_empty atoms call [] h = refl
  calls_empty atoms call (r ∷ rs) h = of_test (bytes_eq r.name call.instance) refl (calls_empty atoms call rs (λ s i. h s (inr i)))
    where
      of_test : (t : Bool) → bytes_eq r.name call.instance ≡ t → call_atoms atoms call rs ≡ [] →
          (if t then body_atoms atoms call.body r.bodies ++ call_atoms atoms call rs else call_atoms atoms call rs) ≡ []
      of_test true e f = ap (λ l. l ++ call_atoms atoms call rs)
          (bodies_empty atoms call.body r.bodies (h r (inl refl) ((bytes_eq-Decides r.name call.instance).0 e))) ∙ f
      of_test false e f = f

  -- an instance whose name has a space is of a pure module
  spaced_row : (r : InstanceRow) → In r (map (instance_row p) (start_list p)) → In 32 r.name → (b : BodyRow) → In b r.bodies → b.set ≡ []
  spaced_row r h space b l =
      let u = In-unmap (instance_row p) r (start_list p) h in
      let v = quiet u.0 u.1 in
      let kind : v.scope.kind ≡ Pure = v.pure (subst (λ l. In 32 l) (sym (ap (λ (r : InstanceRow). r.name) u.2)) space) in
      may_nothing u.0 u.1 (v.scope, v.there, kind) b (subst (λ (r : InstanceRow). In b r.bodies) (sym u.2) l)

  pure_spaced : (i : Started) → In i (start_list p) → IsOfKind p Pure i.scope → In 32 i.name
  pure_spaced i j z =
      let q = quiet i j in
      q.spaced (ap (λ (s : Scope). s.kind) (some_same (sym q.there ∙ z.1)) ∙ z.2)

  -- a row whose name has a space is of a pure module: the program's has none
  last_row : (r m : InstanceRow) → m.name ≡ codes "main" → In r (m ∷ []) → In 32 r.name → ⊥
  last_row r m e (inl f) space = main_spaceless (subst (λ l. In 32 l) (sym (ap (λ (r : InstanceRow). r.name) f) ∙ e) space)
  last_row r m e (inr i) space = absurd i

  pure_row : (r : InstanceRow) → In r (authority_of p).rows → In 32 r.name → (b : BodyRow) → In b r.bodies → b.set ≡ []
  pure_row r k space b l = ⊎_elim
      (λ h. spaced_row r h space b l)
      (λ h. absurd (last_row r (main_row p) refl h space))
      (In-cases r (map (instance_row p) (start_list p)) (main_row p ∷ []) k)

  silent : (i : Started) → In i (start_list p) → IsOfKind p Pure i.scope → (call : Call) → call.instance ≡ i.name → allowed p call ≡ []
  silent i j z call e = calls_empty (authority_of p).atoms call (authority_of p).rows
      (λ r k f. pure_row r k (subst (λ l. In 32 l) (sym (f ∙ e)) (pure_spaced i j z)))

pub pure_instances_may_nothing : PureInstancesMayNothing
pure_instances_may_nothing p r a i j z b k = may_nothing p r a i j z b k

pub pure_instances_are_silent : PureInstancesAreSilent
pure_instances_are_silent p r a i j z n tapes before after deed e call k same =
    let each = (said_of_each_deed (allowed p) (course p n tapes).events).0 (events_are_bounded p r a n tapes) before after deed e in
    let at = In-at call (open_after [] before) k in
    let c = each at.0 call at.1 in
    let d = subst (λ (v : Call). Contains (allowed p v) (atom_of deed)) (or_at (open_after [] before) at.0 call call at.2) c in
    let none = subst (λ (l : List AtomName). Contains l (atom_of deed)) (silent p r a i j z call same) d in
    omega (arith, none.1)
  where
    or_at : {X : Type 0} (xs : List X) (k : ℕ) (d x : X) → slice_get xs k ≡ Some x → slice_index_or xs k d ≡ x
    or_at [] k d x e = absurd cc
    or_at (y ∷ xs) zero d x e = some_same e
    or_at (y ∷ xs) (suc k) d x e = or_at xs k d x e
