-- Grants have numbers, and so have their atoms: they are few and stand first among the program's own names, and modules have none.
use Rattle.std.proofs.Common.{◌≡◌, ℕ, zero, suc, ◌+◌, ◌-◌, ◌<◌, ◌≤◌, List, [], ◌∷◌, ◌⊎◌, inl, inr, length, get_or, drop, refl, sym, ap, ◌∙◌, subst, arith, Option, Some, None, true, false, length-append}
use Rattle.std.specs.Prelude.{slice_get, if◌then◌else◌}
use Rattle.std.proofs.lemmas.List.{at_drop_more}
use Rattle.wy_text.specs.Members.{In}
use Rattle.wy_effects.specs.EffSet.{AreSets}
use Rattle.wy_text.proofs.Lists.{In-slice_get, In-at}
use Rattle.wy_types.specs.declared.types.TypeRef.{TypeRef}
use Rattle.wy_types.specs.declared.types.TypeRef.TheVariants.{Named}
use Rattle.wy_types.specs.declared.resolved.Origin.{Origin}
use Rattle.wy_types.specs.declared.resolved.Origin.TheVariants.{Parameter, Grant, Use, Instance, Import}
use Rattle.wy_types.specs.declared.resolved.OwnName.{OwnName}
use Rattle.wy_types.specs.declared.resolved.ScopeKind.TheVariants.{Program as Main}
use Rattle.wy_types.specs.Program.{Program, Scope}
use Rattle.wy_types.specs.Fitting.{FitsType}
use Rattle.wy_types.specs.Core.{one_grant, origins_count, OriginFits, ProgramIsLast, IsCore}
use Rattle.wy_types.specs.Ground.{Visited, Visit, names_of, members_of, abstract_names, single_sets, program_number, visit_name, visit_names}
use Rattle.wy_rules.specs.Acceptance.{is_parameter, parameters_until, parameters_among}
use Rattle.wy_rules.specs.OwnNames.{opens, opened_count, after_parameters, IsOpened, HasItsType, HaveTheirTypes, MayHave, GrantsStandFirst}
use Rattle.wy_rules.specs.Resolved.{CoreKeeps}
use Rattle.wy_link.specs.Linking.{CanSettle, CanSettleRest, CanSettleAll}

------------------------------------------------------------
-- From one own name to the next

singles_length : (k : ℕ) (ms : List (List ℕ)) → length (single_sets k ms) ≡ length ms
singles_length k [] = refl
singles_length k (m ∷ ms) = ap suc (singles_length (k + 1) ms)

module _ (p : Program) (inside : Visit) (outer : List OwnName) (prefix : List ℕ) where
  rest_on : (n : OwnName) (o : Origin) (rest : ℕ → ℕ → Type 0) (v : Visited) → CanSettleRest p n o rest (length v.actuals) (length v.sets) →
      rest (length (visit_name p inside outer prefix n o v).actuals) (length (visit_name p inside outer prefix n o v).sets)
  rest_on n (Parameter bare) rest v h = h _ _
  rest_on n Grant rest v h =
      let members = members_of p n.typ in
      let w = visit_name p inside outer prefix n Grant v in
      let names : length v.actuals + 1 ≡ length w.actuals = sym (length-append v.actuals _) in
      let sets : length v.sets + length members ≡ length w.sets =
      ap (λ k. length v.sets + k) (sym (singles_length (length v.sets) members)) ∙ sym (length-append v.sets (single_sets (length v.sets) members)) in
      subst (λ a. rest a (length w.sets)) names (subst (λ s. rest (length v.actuals + 1) s) sets h)
  rest_on n (Use m) rest v h = h _ _
  rest_on n (Instance m arguments) rest v h = h _ _
  rest_on n (Import m arguments bound) rest v h = h _ _

-- the visit of an own name, and then of the rest
pub next_visited : (p : Program) (inside : Visit) (outer : List OwnName) (prefix : List ℕ) (i : ℕ) (n : OwnName) (v w whole : Visited) → i < length outer →
    n ≡ get_or outer i n → visit_names p inside outer prefix (drop i outer) v ≡ whole → w ≡ visit_name p inside outer prefix n n.origin v →
    visit_names p inside outer prefix (drop (i + 1) outer) w ≡ whole
next_visited p inside outer prefix i n v w whole lt is h e =
    ap (visit_names p inside outer prefix (drop (i + 1) outer)) e ∙
    ap (λ (x : OwnName). visit_names p inside outer prefix (x ∷ drop (i + 1) outer) v) is ∙
    sym (at_drop_more (λ l. visit_names p inside outer prefix l v) outer i n lt) ∙ h

pub next_room : (p : Program) (inside : Visit) (outer : List OwnName) (prefix : List ℕ) (i : ℕ) (n : OwnName) (v w : Visited) → i < length outer →
    n ≡ get_or outer i n → CanSettleAll p (drop i outer) (length v.actuals) (length v.sets) → w ≡ visit_name p inside outer prefix n n.origin v →
    CanSettleAll p (drop (i + 1) outer) (length w.actuals) (length w.sets)
next_room p inside outer prefix i n v w lt is h e =
    let P : List OwnName → Type 0 = λ l. CanSettleAll p l (length v.actuals) (length v.sets) in
    let all = subst (λ (x : OwnName). CanSettleAll p (x ∷ drop (i + 1) outer) (length v.actuals) (length v.sets)) (sym is)
    (subst P (at_drop_more (λ (l : List OwnName). l) outer i n lt) h) in
    subst (λ (u : Visited). CanSettleAll p (drop (i + 1) outer) (length u.actuals) (length u.sets)) (sym e)
    (rest_on p inside outer prefix n n.origin (CanSettleAll p (drop (i + 1) outer)) v all.1)

------------------------------------------------------------
-- Names among which is no grant

abbrev HasNoGrant : List OwnName → Type 0
HasNoGrant ns = (n : OwnName) → In n ns → n.origin ≡ Grant → ⊥

-- lines are of modules
abbrev IsOfModule : Program → Origin → Type 0
IsOfModule p (Parameter bare) = Unit {0}
IsOfModule p Grant = Unit {0}
IsOfModule p (Use m) = Unit {0}
IsOfModule p (Instance m arguments) = m + 1 < length p.scopes
IsOfModule p (Import m arguments bound) = m + 1 < length p.scopes

abbrev AreOfModules : Program → List OwnName → Type 0
AreOfModules p ns = (n : OwnName) → In n ns → IsOfModule p n.origin

module _ (p : Program) where
  other_here : (n : OwnName) (o : Origin) (names sets : ℕ) → (o ≡ Grant → ⊥) → IsOfModule p o → CanSettle p n o names sets
  other_here n (Parameter bare) names sets h m = tt
  other_here n Grant names sets h m = absurd (h refl)
  other_here n (Use k) names sets h m = tt
  other_here n (Instance k arguments) names sets h m = m
  other_here n (Import k arguments bound) names sets h m = m

  other_rest : (n : OwnName) (o : Origin) (rest : ℕ → ℕ → Type 0) (names sets : ℕ) → (o ≡ Grant → ⊥) → ((a s : ℕ) → rest a s) → CanSettleRest p n o rest names sets
  other_rest n (Parameter bare) rest names sets h all = all
  other_rest n Grant rest names sets h all = absurd (h refl)
  other_rest n (Use k) rest names sets h all = all
  other_rest n (Instance k arguments) rest names sets h all = all
  other_rest n (Import k arguments bound) rest names sets h all = all

  no_grant_room : (ns : List OwnName) → HasNoGrant ns → AreOfModules p ns → (names sets : ℕ) → CanSettleAll p ns names sets
  no_grant_room [] h m names sets = tt
  no_grant_room (n ∷ ns) h m names sets = (
    other_here n n.origin names sets (h n (inl refl)) (m n (inl refl)),
    other_rest n n.origin (CanSettleAll p ns) names sets (h n (inl refl)) (no_grant_room ns (λ x i. h x (inr i)) (λ x i. m x (inr i))),
  )

  ------------------------------------------------------------
  -- Own names of scopes of a core

  module _ (c : IsCore p) where
    of_module : (s : Scope) (k : ℕ) (n : OwnName) (o : Origin) → OriginFits p s k n o → IsOfModule p o
    of_module s k n (Parameter bare) h = tt
    of_module s k n Grant h = tt
    of_module s k n (Use m) h = tt
    of_module s k n (Instance m arguments) h = h.1
    of_module s k n (Import m arguments bound) h = h.1

    are_of_modules : (k : ℕ) (o : Option Scope) → slice_get p.scopes k ≡ o → AreOfModules p (names_of o)
    are_of_modules k None e n i = absurd i
    are_of_modules k (Some s) e n i =
        let at = In-at n s.names i in
        of_module s at.0 n n.origin ((c.scopes s (In-slice_get p.scopes k s e)).names at.0 n at.2).1

    main_is_last : (ss : List Scope) → ProgramIsLast ss → (k : ℕ) (s : Scope) → slice_get ss k ≡ Some s → s.kind ≡ Main → length ss ≤ k + 1
    main_is_last [] h k s e main = absurd h
    main_is_last (x ∷ []) h k s e main = omega arith
    main_is_last (x ∷ y ∷ ss) h zero s e main = absurd (h.0 (let same : x ≡ s = cc in subst (λ (z : Scope). z.kind ≡ Main) (sym same) main))
    main_is_last (x ∷ y ∷ ss) h (suc k) s e main = let r = main_is_last (y ∷ ss) h.1 k s e main in omega (arith, r)

    module_no_grant : (m : ℕ) → m + 1 < length p.scopes → (o : Option Scope) → slice_get p.scopes m ≡ o → HasNoGrant (names_of o)
    module_no_grant m lt None e n i g = absurd i
    module_no_grant m lt (Some s) e n i g =
        let at = In-at n s.names i in
        let main = (subst (OriginFits p s at.0 n) g ((c.scopes s (In-slice_get p.scopes m s e)).names at.0 n at.2).1).0 in
        let last = main_is_last p.scopes c.program m s e main in
        absurd (omega (arith, last, lt))

    -- a module's own names can be settled whatever is settled before them
    module_room : (m names sets : ℕ) → m + 1 < length p.scopes → CanSettleAll p (names_of (slice_get p.scopes m)) names sets
    module_room m names sets lt =
        no_grant_room (names_of (slice_get p.scopes m)) (module_no_grant m lt (slice_get p.scopes m) refl) (are_of_modules m (slice_get p.scopes m) refl) names sets

  ------------------------------------------------------------
  -- The program's own names

  atoms_have_numbers : (atoms k : ℕ) (ms : List (List ℕ)) → atoms ≤ 512 → k ≤ 512 → AreSets atoms (single_sets k ms) → k + length ms ≤ 512
  atoms_have_numbers atoms k [] few le h = omega (arith, le)
  atoms_have_numbers atoms k (m ∷ ms) few le h =
      let one = h (k ∷ []) (inl refl) in
      let below = one.1 in
      let r = atoms_have_numbers atoms (k + 1) ms few (omega (arith, below, few)) (λ s i. h s (inr i)) in
      omega (arith, r)

  opened_here : (atoms k d : ℕ) (t : TypeRef) → atoms ≤ 512 → k ≤ 512 → FitsType p atoms 0 t → IsOpened p k (Some d) t → k + length (members_of p t) ≤ 512
  opened_here atoms k d t few le f e =
      let names = abstract_names (slice_get p.declarations d) in
      let fits : FitsType p atoms 0 (Named d (single_sets k names)) = subst (FitsType p atoms 0) e f in
      subst (λ u. k + length (members_of p u) ≤ 512) (sym e) (atoms_have_numbers atoms k names few le fits.2)

  is_grant : (o : Origin) → (o ≡ Grant) ⊎ (o ≡ Grant → ⊥)
  is_grant (Parameter bare) = inr (λ e. cc)
  is_grant Grant = inl refl
  is_grant (Use m) = inr (λ e. cc)
  is_grant (Instance m arguments) = inr (λ e. cc)
  is_grant (Import m arguments bound) = inr (λ e. cc)

  -- behind a name that is no grant none stands
  no_later : (n : OwnName) (ns : List OwnName) → GrantsStandFirst (n ∷ ns) → (n.origin ≡ Grant → ⊥) → HasNoGrant (n ∷ ns)
  no_later n ns g h m (inl e) o = h (ap (λ (x : OwnName). x.origin) e ∙ o)
  no_later n ns g h m (inr i) o = h (g.0 m i o)

  module _ (atoms : ℕ) (few : atoms ≤ 512) where
    grants_room : (ns : List OwnName) (names k : ℕ) → HaveTheirTypes p k ns → GrantsStandFirst ns → AreOfModules p ns →
        ((n : OwnName) → In n ns → FitsType p atoms 0 n.typ) → k ≤ 512 → names + origins_count one_grant ns ≤ 64 → CanSettleAll p ns names k
    grants_room [] names k typed first of fits le count = tt
    grants_room (n ∷ ns) names k typed first of fits le count =
        elim (is_grant n.origin) [
          | inr h ↦ no_grant_room (n ∷ ns) (no_later n ns first h) of names k
          | inl o ↦
              let is : HasItsType p k n Grant = subst (HasItsType p k n) o typed.0 in
              let here = opened_here atoms k is.0 n.typ few le (fits n (inl refl)) is.1 in
              let one : one_grant n.origin ≡ 1 = ap one_grant o in
              let opening : opens p n n.origin ≡ members_of p n.typ = ap (opens p n) o in
              let later : HaveTheirTypes p (k + length (members_of p n.typ)) ns = subst (λ l. HaveTheirTypes p (k + length l) ns) opening typed.1 in
              let rest = grants_room ns (names + 1) (k + length (members_of p n.typ)) later first.1 (λ x i. of x (inr i)) (λ x i. fits x (inr i)) here
              (omega (arith, count, one)) in
              let number : names < 65536 = omega (arith, count) in
              let room : CanSettle p n Grant names k = (number, here) in
              (subst (λ x. CanSettle p n x names k) (sym o) room, subst (λ x. CanSettleRest p n x (CanSettleAll p ns) names k) (sym o) rest)
        ]

  -- where no parameter stands first, none is left out
  none_before : (ns : List OwnName) → parameters_among ns ≡ [] → after_parameters ns ≡ ns
  none_before [] e = refl
  none_before (n ∷ ns) e =
      (elim (is_parameter n.origin) as (λ b. parameters_until b n (parameters_among ns) ≡ [] → (if b then after_parameters ns else n ∷ ns) ≡ n ∷ ns) [
        | true ↦ λ e. absurd (cc)
        | false ↦ λ e. refl
      ]) e

  module _ (keeps : CoreKeeps p) where
    program_room' : (o : Option Scope) → slice_get p.scopes (program_number p) ≡ o → GrantsStandFirst (names_of o) → CanSettleAll p (names_of o) 0 0
    program_room' None e g = tt
    program_room' (Some s) e g =
        let among = In-slice_get p.scopes (program_number p) s e in
        let fits = keeps.core.scopes s among in
        let typed = keeps.lines s among in
        let main = main_kind p.scopes keeps.core.program s e in
        let none : parameters_among s.names ≡ [] = subst (λ k. MayHave k (parameters_among s.names)) main typed.may_have in
        let others : HaveTheirTypes p 0 s.names =
        subst (HaveTheirTypes p 0) (none_before s.names none)
        (subst (λ l. HaveTheirTypes p (opened_count p l) (after_parameters s.names)) none typed.others) in
        grants_room (length s.atoms) fits.atoms s.names 0 0 others g (are_of_modules keeps.core (program_number p) (Some s) e)
        (λ n i. (let at = In-at n s.names i in (fits.names at.0 n at.2).0.0)) (omega arith) (let few = fits.few_grants in omega (arith, few))
      where
        main_kind : (ss : List Scope) → ProgramIsLast ss → (s : Scope) → slice_get ss (length ss - 1) ≡ Some s → s.kind ≡ Main
        main_kind [] h s e = absurd h
        main_kind (x ∷ []) h s e = let same : x ≡ s = cc in subst (λ (z : Scope). z.kind ≡ Main) same h
        main_kind (x ∷ y ∷ ss) h s e =
            let before : suc (length (y ∷ ss)) - 1 ≡ suc (length (y ∷ ss) - 1) = omega arith in
            main_kind (y ∷ ss) h.1 s (ap (slice_get (x ∷ y ∷ ss)) (sym before) ∙ e)

    -- the program's own names can be settled
    program_room : CanSettleAll p (names_of (slice_get p.scopes (program_number p))) 0 0
    program_room = program_room' (slice_get p.scopes (program_number p)) refl keeps.grants

-- as code has the names
pub module_room_of : (p : Program) (c : IsCore p) (m : ℕ) (l : List OwnName) (names sets : ℕ) → m + 1 < length p.scopes → l ≡ names_of (slice_get p.scopes m) →
    CanSettleAll p l names sets
module_room_of p c m l names sets lt e = subst (λ (ns : List OwnName). CanSettleAll p ns names sets) (sym e) (module_room p c m names sets lt)

pub program_room_of : (p : Program) (keeps : CoreKeeps p) (l : List OwnName) (names sets : ℕ) → l ≡ names_of (slice_get p.scopes (program_number p)) → names ≡ 0 → sets ≡ 0 →
    CanSettleAll p l names sets
program_room_of p keeps l names sets e a b =
    let own = names_of (slice_get p.scopes (program_number p)) in
    subst (λ (ns : List OwnName). CanSettleAll p ns names sets) (sym e)
    (subst (λ j. CanSettleAll p own j sets) (sym a) (subst (λ k. CanSettleAll p own 0 k) (sym b) (program_room p keeps)))
