-- The visit of a line or use: what its module is handed has the types of the parameters, and its instance is one of its module.
use Rattle.std.proofs.Common.{◌≡◌, ℕ, suc, ◌<◌, List, [], ◌∷◌, ◌++◌, map, inl, inr, length, refl, sym, ap, ◌∙◌, subst, arith, Option, Some, None, Bool as Truth, true, false, append-nil}
use Rattle.std.specs.Prelude.{codes, slice_get, slice_index_or}
use Rattle.wy_text.specs.Members.{In}
use Rattle.wy_effects.specs.EffSet.{IsSet, replace}
use Rattle.wy_text.proofs.Lists.{In-slice_get}
use Rattle.wy_effects.proofs.Ordering.{respects_onward}
use Rattle.wy_effects.proofs.Replacing.{IsSet-replace}
use Rattle.wy_types.specs.declared.linked.Actual.TheVariants as actual
use Rattle.wy_types.specs.declared.linked.Instance.{Instance as Started}
use Rattle.wy_types.specs.declared.resolved.Origin.TheVariants.{Use, Instance, Import}
use Rattle.wy_types.specs.declared.resolved.OwnName.{OwnName}
use Rattle.wy_types.specs.declared.resolved.ScopeKind.{ScopeKind}
use Rattle.wy_types.specs.declared.resolved.ScopeKind.TheVariants.{Pure, Resource, Plain, Program as Main}
use Rattle.wy_types.specs.Program.{Program, Scope}
use Rattle.wy_types.specs.Types.{scope_is_plain, is_plain}
use Rattle.wy_types.specs.Bounds.{bounds_of, type_bounds}
use Rattle.wy_types.specs.Fitting.{FitsType}
use Rattle.wy_types.specs.Core.{origin_modules, OriginFits, IsCore}
use Rattle.wy_types.specs.Ground.{Visited, type_of, definitions_of, members_of, ground_sets, instance_of, number_from, argument_sets, arguments_sets, handed, defined_sets, uses_among, lined, imported, used, visit_name, visit, program_sets, start_list}
use Rattle.wy_types.proofs.MemberSets.{arguments_are_sets}
use Rattle.wy_rules.specs.Acceptance.{Accepted, LineHolds, InstanceHolds, ImportFits, ImportHolds, parameters_among, Handed, handed_to, opened_members}
use Rattle.wy_rules.specs.GroundTypes.{type_at}
use Rattle.wy_rules.specs.GroundTyping.{BoundFits}
use Rattle.wy_rules.specs.OwnNames.{opens, opened_bounds, opened_count, after_parameters, sealed_of, name_of, IsOpened, IsBounded, HaveTheirTypes, LinesAreTyped, HavePlainNames}
use Rattle.wy_rules.proofs.RunReadings.{no_own}
use Rattle.wy_sound.specs.Grounds.{StandsFor, GroundIsDefined, IsGround}
use Rattle.wy_sound.proofs.LinkingLists.{GoesOn, goes_on_same, goes_on_more, goes_on_further, read_on, read_next, read_there}
use Rattle.wy_sound.proofs.LinkingSets.{Fits-wider, replace_first, sets_first, substituted_first, arguments_count}
use Rattle.wy_sound.proofs.LinkingBounds.{NameBounds, none_respect}
use Rattle.wy_sound.proofs.LinkingStates.{read_type, IsActual, AreActuals, AreGround, Fits, all_more, Stands, Given, given}
use Rattle.wy_sound.proofs.LinkingTables.{IsBelow, same_or_below}
use Rattle.wy_sound.proofs.LinkingRules.{instance_argument, import_argument}
use Rattle.wy_sound.proofs.LinkingVisits.{visit_grows, visit_passes, first_and_after}
use Rattle.wy_sound.proofs.LinkingPrograms.{NoSpace, no_space_both, no_space_dot, not_pure, pure_word, number_found, one_module}
use Rattle.wy_sound.proofs.LinkingWays.{Way, way_on}
use Rattle.wy_sound.proofs.LinkingScopes.{names_at, Facts, facts_at, name_bounds, leads, pure_names, plain_names, TakesAll, AllRespect, handed_stands, visits_nothing}
use Rattle.wy_sound.proofs.LinkingNames.{sealed_stands, bounded_stands}

-- an annotated scope that is visited, whose sets come to these in the end
pub record Visiting (p : Program) (m : ℕ) (s : Scope) (prefix : List ℕ) (top : List (List ℕ)) : Type 0 where
  pub facts : Facts p m s
  pub plain : is_plain s.kind ≡ false
  pub words : NoSpace prefix
  pub main : s.kind ≡ Main → top ≡ program_sets p

-- a visit of the own names that are left comes to stand for all
abbrev pub VisitStands : Program → ℕ → Type 0
VisitStands p k =
    (m : ℕ) (s : Scope) (path prefix : List ℕ) (done rest : List OwnName) (v : Visited)
    (top : List (List ℕ)) → Visiting p m s prefix top → Way p path m k → names_at p m ≡ done ++ rest →
    HaveTheirTypes p (opened_count p done) rest → top ≡ (visit p k (names_at p m) prefix rest v).sets →
    GoesOn (visit p k (names_at p m) prefix rest v).started (start_list p) →
    Stands p m None top done v → Stands p m None top (names_at p m) (visit p k (names_at p m) prefix rest v)

not_main : (a : ScopeKind) → is_plain a ≡ true → a ≡ Main → ⊥
not_main a e f = let same : false ≡ true = ap is_plain (sym f) ∙ e in cc

handed_in : (ns : List OwnName) (arguments : List ℕ) (h : Handed) → In h (handed_to ns arguments) → In h.parameter ns × In h.argument arguments
handed_in [] arguments h i = absurd i
handed_in (n ∷ ns) [] h i = absurd i
handed_in (n ∷ ns) (a ∷ arguments) h (inl e) = (inl (ap (λ (v : Handed). v.parameter) e), inl (ap (λ (v : Handed). v.argument) e))
handed_in (n ∷ ns) (a ∷ arguments) h (inr i) = let r = handed_in ns arguments h i in (inr r.0, inr r.1)

-- the instance of a module that has been visited
new_fits : (p : Program) (j : ℕ) (z : Scope) (name : List ℕ) (bound : Option (List ℕ)) (inner : Visited) → Facts p j z → (z.kind ≡ Main → ⊥) →
    BoundFits (is_plain z.kind) bound → ((b : List ℕ) → bound ≡ Some b → IsSet 512 b) →
    ((word : List ℕ) → name ≡ codes "pure " ++ word → z.name ≡ word) → Stands p j bound inner.sets (names_at p j) inner →
    Fits p (length inner.started) (instance_of name j inner.actuals bound inner.sets)
new_fits p j z name bound inner f is_module fits is_set called s = record {
  scope = z;
  there = f.there;
  is_module = is_module;
  bound = fits;
  bound_set = is_set;
  sets = s.sets;
  respects = λ e. s.respects (ap scope_is_plain f.there ∙ e);
  actuals = subst (λ l. AreActuals p (length inner.started) bound inner.sets l inner.actuals) f.names s.actuals;
  grounds = subst (λ l. AreGround p inner.sets l l inner.actuals) f.names s.grounds;
  called = called;
}

annotated_bound : (plain : Truth) → plain ≡ false → BoundFits plain None
annotated_bound false e = tt
annotated_bound true e = absurd (cc)

plain_bound : (plain : Truth) (bound : List ℕ) → plain ≡ true → BoundFits plain (Some bound)
plain_bound true bound e = tt
plain_bound false bound e = absurd (cc)

module _ (p : Program) (c : IsCore p) (t : LinesAreTyped p) (words : HavePlainNames p) (a : Accepted p) (k : ℕ) (inside : VisitStands p k)
    (m : ℕ) (s : Scope) (path prefix : List ℕ) (top : List (List ℕ)) (at : Visiting p m s prefix top) (way : Way p path m (suc k))
    (done : List OwnName) (n : OwnName) (rest : List OwnName) (v : Visited) (names : names_at p m ≡ done ++ n ∷ rest)
    (stands : Stands p m None top done v) where
  place : slice_get (names_at p m) (length done) ≡ Some n
  place = ap (λ l. slice_get l (length done)) names ∙ read_next done rest n

  among : In n (names_at p m)
  among = In-slice_get (names_at p m) (length done) n place

  written : FitsType p (length s.atoms) 0 n.typ
  written = (at.facts.written (length done) n place).0.0

  annotated_scope : scope_is_plain (slice_get p.scopes m) ≡ false
  annotated_scope = ap scope_is_plain at.facts.there ∙ at.plain

  argument_fits : (b : ℕ) (o : Option OwnName) → slice_get (names_at p m) b ≡ o → FitsType p 512 0 (type_of o)
  argument_fits b None e = tt
  argument_fits b (Some x) e = Fits-wider p (length s.atoms) 512 x.typ at.facts.fits.atoms (at.facts.written b x e).0.0

  bounds : NameBounds p m done n
  bounds = name_bounds p c m s at.facts done n rest names

  -- an argument as the scope's final sets read it
  argument : (b : ℕ) → b < length done → Given p None top (names_at p m) v b
  argument b lt = let r = read_there done b lt in given p m None top done (n ∷ rest) v b r.0 names stands r.1

  -- .. and of a type that is above its own, as the sets so far read it
  risen : (b : ℕ) (lt : b < length done) (o : Option (List ℕ)) (sets : List (List ℕ)) (x : OwnName) → GoesOn v.sets top →
      IsBelow p (read_type None v.sets (type_of (slice_get (names_at p m) b))) (read_type o sets x.typ) →
      IsActual p (length v.started) (read_type o sets x.typ) (slice_index_or v.actuals b (actual.Grant 0))
  risen b lt o sets x goes below =
      let g = argument b lt in
      let typ = type_of (slice_get (names_at p m) b) in
      let same : read_type None top typ ≡ read_type None v.sets typ = ap (type_at 0) (substituted_first p 0 v.sets top typ goes g.fits) in
      record { there = g.is.there; below = same_or_below p _ _ _ g.is.below (subst (λ u. IsBelow p u (read_type o sets x.typ)) (sym same) below) }

  stands_for : (started : List Started) (y : ℕ) (i : Started) → GoesOn started (start_list p) → slice_get started y ≡ Some i →
      StandsFor p (actual.Instance y) i i.scope
  stands_for started y i goes there = record { number = y; is = refl; there = read_on started (start_list p) y i goes there; of_module = refl }

  -- what a line hands on is the ground of it in the end
  handed_ground : (j : ℕ) (arguments : List ℕ) → ((b : ℕ) → In b arguments → b < length done) → GoesOn v.sets top → (sets : List (List ℕ)) →
      GoesOn (map (replace v.sets) (arguments_sets p (names_at p m) (names_at p j) arguments)) sets →
      (others : List (List ℕ)) × (sets ≡ map (replace top) (arguments_sets p (names_at p m) (names_at p j) arguments) ++ others)
  handed_ground j arguments first goes sets on =
      let of_first = arguments_are_sets p (length v.sets) 0 (names_at p m) (names_at p j) arguments (λ b i. (argument b (first b i)).fits) in
      (on.0, on.1 ∙ ap (λ l. l ++ on.0) (sym (sets_first v.sets top (arguments_sets p (names_at p m) (names_at p j) arguments) goes of_first)))

  -- a module that has been visited, and its instance behind it
  lined_stands : (j : ℕ) (z : Scope) (name : List ℕ) (inner : Visited) → Facts p j z → is_plain z.kind ≡ false → (z.kind ≡ Main → ⊥) →
      ((word : List ℕ) → name ≡ codes "pure " ++ word → z.name ≡ word) →
      GoesOn v.started inner.started → IsOpened p (opened_count p done) (sealed_of (slice_get p.scopes j)) n.typ →
      opens p n n.origin ≡ members_of p n.typ → opened_bounds p n n.origin ≡ type_bounds p n.typ →
      GoesOn (lined p v inner name j).started (start_list p) → GoesOn (lined p v inner name j).sets top →
      Stands p j None inner.sets (names_at p j) inner →
      (GroundIsDefined p top n (instance_of name j inner.actuals None inner.sets) → StandsFor p (actual.Instance (length inner.started)) (instance_of name j inner.actuals None inner.sets) j →
      IsGround p top (names_at p m) n n.origin (actual.Instance (length inner.started))) →
      Stands p m None top (done ++ n ∷ []) (lined p v inner name j)
  lined_stands j z name inner f plain is_module called longer opened opening bounding goes further visited ground =
      let i = instance_of name j inner.actuals None inner.sets in
      let new = new_fits p j z name None inner f is_module (annotated_bound (is_plain z.kind) plain) (λ b e. absurd (cc)) called visited in
      sealed_stands p c m top done v n stands (length s.atoms) written bounds (inner.started ++ i ∷ []) (length inner.started) i z (defined_sets p j inner.sets)
      (goes_on_further v.started inner.started _ longer (goes_on_more inner.started (i ∷ []))) goes (all_more p inner.started i visited.started new)
      (read_next inner.started [] i) f plain
      (ap (λ o. map (replace inner.sets) (definitions_of o)) f.there)
      (subst (λ o. IsOpened p (opened_count p done) (sealed_of o) n.typ) f.there opened) further opening bounding
      (λ defined. ground defined (stands_for (inner.started ++ i ∷ []) (length inner.started) i goes (read_next inner.started [] i)))

  line_name : NoSpace (prefix ++ n.name)
  line_name = no_space_both prefix n.name at.words (at.facts.words n among)

  inner_words : NoSpace (prefix ++ (n.name ++ codes "."))
  inner_words = no_space_both prefix (n.name ++ codes ".") at.words (no_space_both n.name (codes ".") (at.facts.words n among) no_space_dot)

  ------------------------------------------------------------
  -- Instances

  module _ (j : ℕ) (arguments : List ℕ) (o : n.origin ≡ Instance j arguments) where
    before : (b : ℕ) → In b arguments → b < length done
    before = (subst (OriginFits p s (length done) n) o (at.facts.written (length done) n place).1).2

    line : InstanceHolds p m (names_at p m) j arguments
    line = subst (LineHolds p m (names_at p m)) o (at.facts.lines n among)

    hand : Visited
    hand = handed p (names_at p m) v j arguments

    inner : Visited
    unfolding hand
    inner = visit p k (names_at p j) (prefix ++ (n.name ++ codes ".")) (after_parameters (names_at p j)) hand

    takes : (z : Scope) → Facts p j z → GoesOn v.sets top → TakesAll p j (names_at p m) v None inner.sets (parameters_among (names_at p j)) arguments
    unfolding inner hand
    takes z f goes h i =
        let members = arguments_sets p (names_at p m) (names_at p j) arguments in
        let r = handed_in (parameters_among (names_at p j)) arguments h i in
        let lt = before h.argument r.1 in
        let count : length members ≡ opened_count p (parameters_among (names_at p j)) =
        arguments_count p (names_at p m) (names_at p j) arguments line.numbers in
        let typ = type_of (slice_get (names_at p m) h.argument) in
        risen h.argument lt None inner.sets h.parameter goes
        (instance_argument p c m v.sets annotated_scope stands.sets (stands.respects annotated_scope) typ h.parameter.typ (argument_fits h.argument _ refl) members inner.sets
        (subst (λ d. FitsType p d 0 h.parameter.typ) (sym count) (f.parameters h.parameter r.0))
        (visit_grows p k (names_at p j) (prefix ++ (n.name ++ codes ".")) (after_parameters (names_at p j)) hand).sets (line.types h i))

    -- what the parameters are handed respects the bounds of the members that they open
    members_respect : AllRespect p j (names_at p m) v None [] (parameters_among (names_at p j)) arguments
    members_respect h i =
        respects_onward (opened_members p h.parameter h.parameter.origin) (bounds_of p m) []
        (argument_sets p (names_at p m) h.parameter.origin h.parameter h.argument) v.sets 512 stands.sets (line.bounds h i) (stands.respects annotated_scope)

    inner_stands : (z : Scope) → Facts p j z → z.kind ≡ Resource → GoesOn v.sets top → GoesOn inner.started (start_list p) →
        Stands p j None inner.sets (names_at p j) inner
    unfolding inner hand
    inner_stands z f kind goes later =
        let is_module : z.kind ≡ Main → ⊥ = λ e. (let same : Resource ≡ Main = sym kind ∙ e in cc) in
        let to : In j (origin_modules n.origin) = subst (λ x. In j (origin_modules x)) (sym o) (inl refl) in
        inside j z (m ∷ path) (prefix ++ (n.name ++ codes ".")) (parameters_among (names_at p j)) (after_parameters (names_at p j)) hand inner.sets
        (record { facts = f; plain = ap is_plain kind; words = inner_words; main = λ e. absurd (is_module e) })
        (way_on p c.no_cycle path m j k s at.facts.there (leads p m s at.facts n j among to) way) (first_and_after (names_at p j)) f.others refl later
        (handed_stands p j (names_at p m) v None inner.sets c z f arguments line.numbers (takes z f goes) (λ e. members_respect) stands.sets stands.started)

    pub instance_stands : IsOpened p (opened_count p done) (sealed_of (slice_get p.scopes j)) n.typ →
        GoesOn (visit_name p (visit p k) (names_at p m) prefix n (Instance j arguments) v).started (start_list p) →
        GoesOn (visit_name p (visit p k) (names_at p m) prefix n (Instance j arguments) v).sets top →
        Stands p m None top (done ++ n ∷ []) (visit_name p (visit p k) (names_at p m) prefix n (Instance j arguments) v)
    unfolding inner hand
    instance_stands opened goes further =
        let z = line.resource.0 in
        let kind : z.kind ≡ Resource = line.resource.2 in
        let f = facts_at p c t words a j z line.resource.1 in
        let is_module : z.kind ≡ Main → ⊥ = λ e. (let same : Resource ≡ Main = sym kind ∙ e in cc) in
        let name = prefix ++ n.name in
        let passes : visit p k (names_at p j) (prefix ++ (n.name ++ codes ".")) (names_at p j) hand ≡ inner =
        visit_passes p k (names_at p j) (prefix ++ (n.name ++ codes ".")) (names_at p j) hand in
        let goes' : GoesOn (lined p v inner name j).started (start_list p) =
        subst (λ (w : Visited). GoesOn (lined p v w name j).started (start_list p)) passes goes in
        let further' : GoesOn (lined p v inner name j).sets top = subst (λ (w : Visited). GoesOn (lined p v w name j).sets top) passes further in
        let sets_go = goes_on_further v.sets (lined p v inner name j).sets top (goes_on_more v.sets _) further' in
        let inner_goes = goes_on_further inner.started _ (start_list p) (goes_on_more inner.started _) goes' in
        let longer = (visit_grows p k (names_at p j) (prefix ++ (n.name ++ codes ".")) (after_parameters (names_at p j)) hand).started in
        let all =
        lined_stands j z name inner f (ap is_plain kind) is_module (λ word e. absurd (not_pure name word line_name e)) longer opened
        (ap (opens p n) o) (ap (opened_bounds p n) o) goes' further' (inner_stands z f kind sets_go inner_goes)
        (λ defined is. subst (λ x. IsGround p top (names_at p m) n x (actual.Instance (length inner.started))) (sym o) (
          instance_of name j inner.actuals None inner.sets,
          is,
          defined,
          handed_ground j arguments before sets_go inner.sets
              (visit_grows p k (names_at p j) (prefix ++ (n.name ++ codes ".")) (after_parameters (names_at p j)) hand).sets,
        )) in
        subst (λ (w : Visited). Stands p m None top (done ++ n ∷ []) (lined p v w name j)) (sym passes) all

  ------------------------------------------------------------
  -- Imports

  module _ (j : ℕ) (arguments bound : List ℕ) (o : n.origin ≡ Import j arguments bound) where
    earlier : (b : ℕ) → In b arguments → b < length done
    earlier = (subst (OriginFits p s (length done) n) o (at.facts.written (length done) n place).1).2

    import_line : ImportFits p m (names_at p m) j arguments × ImportHolds p m (names_at p m) j arguments bound
    import_line = subst (LineHolds p m (names_at p m)) o (at.facts.lines n among)

    import_hand : Visited
    import_hand = handed p (names_at p m) v j arguments

    import_takes : (z : Scope) → Facts p j z → GoesOn v.sets top →
        TakesAll p j (names_at p m) v (Some (replace v.sets bound)) import_hand.sets (parameters_among (names_at p j)) arguments
    unfolding import_hand
    import_takes z f goes h i =
        let r = handed_in (parameters_among (names_at p j)) arguments h i in
        let lt = earlier h.argument r.1 in
        let typ = type_of (slice_get (names_at p m) h.argument) in
        let holds = import_line.1 in
        risen h.argument lt (Some (replace v.sets bound)) import_hand.sets h.parameter goes
        (import_argument p c m v.sets annotated_scope stands.sets (stands.respects annotated_scope) typ h.parameter.typ (argument_fits h.argument _ refl) bound import_hand.sets
        (no_own p _ h.parameter.typ (f.parameters h.parameter r.0)) (holds.effects h i) (holds.safe h i) (holds.types h i))

    pub import_stands : IsSet (opened_count p done) bound → IsBounded bound (sealed_of (slice_get p.scopes j)) n.typ →
        GoesOn (visit_name p (visit p k) (names_at p m) prefix n (Import j arguments bound) v).started (start_list p) →
        GoesOn (visit_name p (visit p k) (names_at p m) prefix n (Import j arguments bound) v).sets top →
        Stands p m None top (done ++ n ∷ []) (visit_name p (visit p k) (names_at p m) prefix n (Import j arguments bound) v)
    unfolding import_hand
    import_stands of_atoms is goes further =
        let z = import_line.0.plain.0 in
        let kind : z.kind ≡ Plain = import_line.0.plain.2 in
        let f = facts_at p c t words a j z import_line.0.plain.1 in
        let plain : is_plain z.kind ≡ true = ap is_plain kind in
        let name = prefix ++ n.name in
        let hand = import_hand in
        let ground = replace v.sets bound in
        let all : names_at p j ≡ parameters_among (names_at p j) =
        first_and_after (names_at p j) ∙ ap (λ l. parameters_among (names_at p j) ++ l) (plain_names p j z f kind) ∙
        append-nil (parameters_among (names_at p j)) in
        let passes : visit p k (names_at p j) (prefix ++ (n.name ++ codes ".")) (names_at p j) hand ≡ hand =
        visit_passes p k (names_at p j) (prefix ++ (n.name ++ codes ".")) (names_at p j) hand ∙
        ap (λ l. visit p k (names_at p j) (prefix ++ (n.name ++ codes ".")) l hand) (plain_names p j z f kind) ∙
        visits_nothing p k (names_at p j) (prefix ++ (n.name ++ codes ".")) hand in
        let goes' : GoesOn (imported p v hand name j bound).started (start_list p) =
        subst (λ (w : Visited). GoesOn (imported p v w name j bound).started (start_list p)) passes goes in
        let sets_go = goes_on_further v.sets (v.sets ++ []) top (goes_on_more v.sets []) further in
        let i = instance_of name j hand.actuals (Some ground) hand.sets in
        let taken =
        handed_stands p j (names_at p m) v (Some ground) hand.sets c z f arguments import_line.0.numbers
        (import_takes z f sets_go) (λ e. absurd (let same : true ≡ false = sym plain ∙ sym (ap scope_is_plain f.there) ∙ e in cc)) stands.sets stands.started in
        let visited : Stands p j (Some ground) hand.sets (names_at p j) hand =
        subst (λ l. Stands p j (Some ground) hand.sets l hand) (sym all) taken in
        let new =
        new_fits p j z name (Some ground) hand f (not_main z.kind plain) (plain_bound (is_plain z.kind) ground plain)
        (λ b e. (let same : ground ≡ b = cc in subst (IsSet 512) same (IsSet-replace 512 v.sets bound stands.sets)))
        (λ word e. absurd (not_pure name word line_name e)) visited in
        let before_it : IsSet (length v.sets) bound = subst (λ x. IsSet x bound) (sym stands.count) of_atoms in
        let one =
        bounded_stands p c m top done v n stands (length s.atoms) written bounds (v.started ++ i ∷ []) (length v.started) i z bound
        (goes_on_more v.started (i ∷ [])) goes'
        (all_more p v.started i stands.started new) (read_next v.started [] i) f plain refl of_atoms
        (subst (λ x. IsBounded bound (sealed_of x) n.typ) f.there is) sets_go (ap (opens p n) o)
        (subst (λ x. IsGround p top (names_at p m) n x (actual.Instance (length v.started))) (sym o) (
          i,
          stands_for (v.started ++ i ∷ []) (length v.started) i goes' (read_next v.started [] i),
          handed_ground j arguments earlier sets_go hand.sets (goes_on_same hand.sets),
          ap Some (sym (replace_first v.sets top bound sets_go before_it)),
        )) in
        subst (λ (w : Visited). Stands p m None top (done ++ n ∷ []) (imported p v w name j bound)) (sym passes) one

  ------------------------------------------------------------
  -- Uses

  module _ (j : ℕ) (o : n.origin ≡ Use j) (kind : (z : Scope) × (slice_get p.scopes j ≡ Some z) × (z.kind ≡ Pure))
      (word : n.name ≡ name_of (slice_get p.scopes j))
      (opened : IsOpened p (opened_count p done) (sealed_of (slice_get p.scopes j)) n.typ) where
    pure_module : kind.0.kind ≡ Main → ⊥
    pure_module e = let same : Pure ≡ Main = sym kind.2 ∙ e in cc

    used_stands : (there : Option ℕ) → number_from 0 (codes "pure " ++ n.name) v.started ≡ there →
        GoesOn (used p (visit p k) v (codes "pure " ++ n.name) j there).started (start_list p) →
        GoesOn (used p (visit p k) v (codes "pure " ++ n.name) j there).sets top →
        Stands p m None top (done ++ n ∷ []) (used p (visit p k) v (codes "pure " ++ n.name) j there)
    used_stands (Some y) e goes further =
        let z = kind.0 in
        let f = facts_at p c t words a j z kind.1 in
        let found = number_found 0 (codes "pure " ++ n.name) v.started y e in
        let i = found.1 in
        let number : found.0 ≡ y = omega (arith, found.2) in
        let there : slice_get v.started y ≡ Some i = subst (λ x. slice_get v.started x ≡ Some i) number found.3 in
        let fit = stands.started y i there in
        let called : fit.scope.name ≡ z.name = fit.called n.name found.4 ∙ word ∙ ap name_of f.there in
        let same : i.scope ≡ j = one_module p.scopes c.program c.modules i.scope j fit.scope z fit.there f.there fit.is_module pure_module called in
        let sets : defined_sets p j (ground_sets (slice_get v.started y)) ≡ map (replace i.ground) z.definitions =
        ap (λ x. defined_sets p j (ground_sets x)) there ∙ ap (λ x. map (replace i.ground) (definitions_of x)) f.there in
        sealed_stands p c m top done v n stands (length s.atoms) written bounds v.started y i z (defined_sets p j (ground_sets (slice_get v.started y)))
        (goes_on_same v.started) goes stands.started there
        (subst (λ x. Facts p x z) (sym same) f) (ap is_plain kind.2) sets
        (subst (λ x. IsOpened p (opened_count p done) (sealed_of x) n.typ) f.there opened) further (ap (opens p n) o) (ap (opened_bounds p n) o)
        (λ defined. subst (λ x. IsGround p top (names_at p m) n x (actual.Instance y)) (sym o)
        (i, record { number = y; is = refl; there = read_on v.started (start_list p) y i goes there; of_module = same }, defined))
    used_stands None e goes further =
        let z = kind.0 in
        let f = facts_at p c t words a j z kind.1 in
        let hand : Visited = record { started = v.started; actuals = []; sets = [] } in
        let pure = pure_names p j z f kind.2 in
        let passes : visit p k (names_at p j) [] (uses_among (names_at p j)) hand ≡
        visit p k (names_at p j) [] (after_parameters (names_at p j)) hand = ap (λ l. visit p k (names_at p j) [] l hand) pure.1 in
        let inner = visit p k (names_at p j) [] (after_parameters (names_at p j)) hand in
        let name = codes "pure " ++ n.name in
        let goes' : GoesOn (lined p v inner name j).started (start_list p) =
        subst (λ (w : Visited). GoesOn (lined p v w name j).started (start_list p)) passes goes in
        let further' : GoesOn (lined p v inner name j).sets top = subst (λ (w : Visited). GoesOn (lined p v w name j).sets top) passes further in
        let to : In j (origin_modules n.origin) = subst (λ x. In j (origin_modules x)) (sym o) (inl refl) in
        let empty : Stands p j None inner.sets [] hand =
        record { actuals = tt; grounds = tt; count = refl; types = λ x i. absurd i; sets = λ x i. absurd i; respects = λ e. none_respect (bounds_of p j) []; started = stands.started } in
        let visited = inside j z (m ∷ path) [] (parameters_among (names_at p j)) (after_parameters (names_at p j)) hand inner.sets
        (record { facts = f; plain = ap is_plain kind.2; words = λ i. absurd i; main = λ x. absurd (pure_module x) })
        (way_on p c.no_cycle path m j k s at.facts.there (leads p m s at.facts n j among to) way) (first_and_after (names_at p j)) f.others refl
        (goes_on_further inner.started _ (start_list p) (goes_on_more inner.started _) goes')
        (subst (λ l. Stands p j None inner.sets l hand) (sym pure.0) empty) in
        let all = lined_stands j z name inner f (ap is_plain kind.2) pure_module (λ w q. ap name_of (sym f.there) ∙ sym word ∙ pure_word n.name w q)
        (visit_grows p k (names_at p j) [] (after_parameters (names_at p j)) hand).started opened (ap (opens p n) o) (ap (opened_bounds p n) o) goes' further' visited
        (λ defined is. subst (λ x. IsGround p top (names_at p m) n x (actual.Instance (length inner.started))) (sym o)
        (instance_of name j inner.actuals None inner.sets, is, defined)) in
        subst (λ (w : Visited). Stands p m None top (done ++ n ∷ []) (lined p v w name j)) (sym passes) all

    pub use_stands : GoesOn (visit_name p (visit p k) (names_at p m) prefix n (Use j) v).started (start_list p) → GoesOn (visit_name p (visit p k) (names_at p m) prefix n (Use j) v).sets top →
        Stands p m None top (done ++ n ∷ []) (visit_name p (visit p k) (names_at p m) prefix n (Use j) v)
    use_stands = used_stands (number_from 0 (codes "pure " ++ n.name) v.started) refl
