-- Lines pass or have a fault: each premise of each rule is decided, argument by argument, where the plain modules go on.
use Rattle.std.proofs.Common.{◌≡◌, ℕ, suc, ◌+◌, List, [], ◌∷◌, ◌⊎◌, inl, inr, length, refl, sym, ap, subst, ◌∙◌, Option, Some, None, arith}
use Rattle.std.specs.Prelude.{slice_get}
use Rattle.wy_text.specs.declared.fault.Fault.{Fault}
use Rattle.wy_text.specs.declared.fault.RuleName.TheVariants.{MUse, MInst, MImport, IImport}
use Rattle.wy_text.specs.Members.{In}
use Rattle.wy_effects.specs.declared.atom.Atom.{Atom}
use Rattle.wy_effects.proofs.Closure.{Decided}
use Rattle.wy_effects.proofs.SetLaws.{cases_equal}
use Rattle.wy_types.specs.declared.types.TypeRef.{TypeRef}
use Rattle.wy_types.specs.declared.resolved.Origin.{Origin}
use Rattle.wy_types.specs.declared.resolved.Origin.TheVariants.{Parameter, Grant, Use, Instance, Import}
use Rattle.wy_types.specs.declared.resolved.OwnName.{OwnName}
use Rattle.wy_types.specs.declared.resolved.ScopeKind.{ScopeKind}
use Rattle.wy_types.specs.declared.resolved.ScopeKind.TheVariants.{Pure, Resource, Plain, Program as Main}
use Rattle.wy_types.specs.Program.{Program, Scope}
use Rattle.wy_types.specs.Core.{IsCore}
use Rattle.wy_types.specs.Types.{substituted, erased}
use Rattle.wy_types.specs.Fitting.{own_count}
use Rattle.wy_types.specs.Bounds.{bounds_of}
use Rattle.wy_types.specs.Ground.{member_set, type_of, names_of, argument_sets, arguments_sets}
use Rattle.wy_types.proofs.Arities.{core_in_range}
use Rattle.wy_types.proofs.Bounding.{go_down}
use Rattle.wy_types.proofs.Finite.{read}
use Rattle.wy_subtype.specs.declared.verdict.Mode.TheVariants as mode
use Rattle.wy_rules.specs.Acceptance.{Handed, handed_to, parameters_of, opened, opened_members, argument_type, IsOfKind, NumbersAgree, IsArgument, RespectsBounds, IsPlainArgument, PlainHolds}
use Rattle.wy_rules.specs.Nodes.{line_nodes, lines_nodes}
use Rattle.wy_rules.specs.Failing.{LacksInMember, InstanceFits, IsLineFault}
use Rattle.wy_rules.specs.Refusals.{plain_modules, scopes_of, LinesPassFrom}
use Rattle.wy_rules.specs.Ends.{End, IsEnd, AllGoOn, IsAccepted}
use Rattle.wy_rules.proofs.Outside.{outside_disrespects}
use Rattle.wy_judge.specs.Outcomes.{fault_at}
use Rattle.wy_judge.specs.Tables.{IsScopeOf}
use Rattle.wy_judge.proofs.BoundsDecided.{outside_decided}
use Rattle.wy_judge.proofs.Deciding.{decided_by}
use Rattle.wy_judge.proofs.ScopesDecided.{scope_decided}
use Rattle.wy_judge.proofs.SubtypesDecided.{subtype_decided}
use Rattle.wy_link.specs.declared.misfit.Misfit.{Misfit}
use Rattle.wy_link.specs.Lines.{misfit_fault, NodesComeTo, LinesFrom}
use Rattle.wy_premises.specs.Tried.{OfEach, HasOpened, OrFails, OrLacks, FirstLack, missing_atom, Agrees, Disagrees}
use Rattle.wy_link.specs.Tried.{Bounded, Exceeds, Safe, Unsafe, InstanceComesTo, BoundComesTo}
use Rattle.wy_link.proofs.LineNodes.{plain_holds, use_passes, use_fails, instance_passes, instance_fails, import_misfits, bound_passes, bound_fails, all_then, fails_then}
use Rattle.wy_link.proofs.Premises.{disagrees, members_outside, instance_holds, bounded, safe, exceeds, unsafe}
use Rattle.wy_link.proofs.Ranges.{substituted_fits, parameter_fits, erased_fits, argument_in_range, parameters_written, handed_are_sets}
use Rattle.wy_link.proofs.ReachListed.{bounded_decided, safe_decided}

------------------------------------------------------------
-- Several things

of_each_decided : {X : Type 0} (Holds : X → Type 0) (xs : List X) → ((x : X) → In x xs → Decided (Holds x)) → Decided (OfEach Holds xs)
of_each_decided Holds [] d = inl (λ y i. absurd i)
of_each_decided Holds (x ∷ xs) d = elim (d x (inl refl)) [
  | inr fails ↦ inr (λ each. fails (each x (inl refl)))
  | inl first ↦ elim (of_each_decided Holds xs (λ y i. d y (inr i))) [
    | inr fails ↦ inr (λ each. fails (λ y i. each y (inr i)))
    | inl rest ↦ inl (λ y i. elim i [ inl same ↦ subst Holds same first | inr j ↦ rest y j ])
  ]
]

module _ {X : Type 0} (Holds : X → Type 0) (Lacks : X → Option ℕ → Type 0) where
  abbrev Lack : List X → Type 0
  Lack xs = (o : Option Atom) × FirstLack Holds Lacks xs (missing_atom o)

  after_first : (x : X) (xs : List X) (o : Option Atom) → Holds x → FirstLack Holds Lacks xs (missing_atom o) → Lack (x ∷ xs)
  after_first x xs None h each = (None, λ y i. elim i [ inl same ↦ subst Holds same h | inr j ↦ each y j ])
  after_first x xs (Some a) h first = (Some a, inr (h, first))

  one_then : (x : X) (xs : List X) (o : Option Atom) → OrLacks (Holds x) (Lacks x) (missing_atom o) → Lack xs → Lack (x ∷ xs)
  one_then x xs None h rest = after_first x xs rest.0 h rest.1
  one_then x xs (Some a) h rest = (Some a, inl h)

  first_lack_decided : (xs : List X) → ((x : X) → (o : Option Atom) × OrLacks (Holds x) (Lacks x) (missing_atom o)) → Lack xs
  first_lack_decided [] d = (None, λ y i. absurd i)
  first_lack_decided (x ∷ xs) d = (let one = d x in one_then x xs one.0 one.1 (first_lack_decided xs d))

handed_among : (ns : List OwnName) (arguments : List ℕ) (h : Handed) → In h (handed_to ns arguments) → In h.parameter ns
handed_among [] arguments h i = absurd i
handed_among (n ∷ ns) [] h i = absurd i
handed_among (n ∷ ns) (a ∷ arguments) h i = elim i [
  | inl same ↦ inl (ap (λ (v : Handed). v.parameter) same)
  | inr j ↦ inr (handed_among ns arguments h j)
]

------------------------------------------------------------
-- Modules and their kinds

decide_kind : (a b : ScopeKind) → Decided (a ≡ b)
decide_kind Pure Pure = inl refl
decide_kind Resource Resource = inl refl
decide_kind Plain Plain = inl refl
decide_kind Main Main = inl refl
decide_kind a b = inr (λ e. cc)

kind_decided : (p : Program) (kind : ScopeKind) (m : ℕ) → Decided (IsOfKind p kind m)
kind_decided p kind m = elim (read (slice_get p.scopes m)) [
  | inl nowhere ↦ inr (λ h. (let e = sym nowhere ∙ h.1 in absurd (cc)))
  | inr there ↦ elim (decide_kind there.0.kind kind) [
    | inl same ↦ inl (there.0, there.1, same)
    | inr other ↦ inr (λ h. (let one : there.0 ≡ h.0 = (let e = sym there.1 ∙ h.1 in cc) in other (ap (λ (s : Scope). s.kind) one ∙ h.2)))
  ]
]

agrees_decided : (p : Program) (kind : ScopeKind) (m : ℕ) (arguments : List ℕ) → (o : Option ℕ) × OrFails (Agrees p kind m arguments) (Disagrees p kind m arguments) o
agrees_decided p kind m arguments = elim (kind_decided p kind m) [
  | inr other ↦ (Some 1, ((λ a. other a.0), inl (other, refl)))
  | inl same ↦ elim (cases_equal (length arguments) (length (parameters_of p m))) [
    | inr differ ↦ (Some 2, ((λ a. differ a.1), inr (same, inl (differ, refl))))
    | inl agree ↦ (None, (same, agree))
  ]
]

member_decided : (p : Program) (t : TypeRef) (member : List ℕ) → Decided ((set : List ℕ) × (member_set p t member ≡ Some set))
member_decided p t member = elim (read (member_set p t member)) [
  | inl none ↦ inr (λ h. (let e = sym none ∙ h.1 in absurd (cc)))
  | inr some ↦ inl some
]

module _ (p : Program) (k : ℕ) (s : Scope) (c : IsScopeOf p k s) where
  ------------------------------------------------------------
  -- M-Inst

  opened_decided : (h : Handed) → Decided (HasOpened p s.names h)
  opened_decided h = of_each_decided (λ member. (set : List ℕ) × (member_set p (type_of (slice_get s.names h.argument)) member ≡ Some set)) (opened p h.parameter h.parameter.origin) (λ member i. member_decided p (type_of (slice_get s.names h.argument)) member)

  module _ (m : ℕ) (arguments : List ℕ) where
    abbrev Handing : List Handed
    Handing = handed_to (parameters_of p m) arguments

    abbrev Sets : List (List ℕ)
    Sets = arguments_sets p s.names (names_of (slice_get p.scopes m)) arguments

    argument_decided : (h : Handed) → In h Handing → Decided (IsArgument p k s.names Sets h)
    argument_decided h i =
        let written = parameters_written p c.core m h.parameter (handed_among (parameters_of p m) arguments h i) in
        subtype_decided p (core_in_range p c.core) k mode.Annotated (argument_type p k s.names h) (substituted Sets h.parameter.typ) (argument_in_range p k s c h.argument)
        (substituted_fits p (own_count p k) Sets h.parameter.typ (handed_are_sets p k s c (names_of (slice_get p.scopes m)) arguments) written)

    plain_argument_decided : (h : Handed) → In h Handing → Decided (IsPlainArgument p k s.names h)
    plain_argument_decided h i =
        let written = parameters_written p c.core m h.parameter (handed_among (parameters_of p m) arguments h i) in
        subtype_decided p (core_in_range p c.core) k mode.Plain (erased (argument_type p k s.names h)) (erased h.parameter.typ)
        (erased_fits p (own_count p k) (argument_type p k s.names h) (argument_in_range p k s c h.argument))
        (erased_fits p (own_count p k) h.parameter.typ (parameter_fits p (own_count p k) h.parameter.typ written))

    respects_decided : (h : Handed) → (o : Option Atom) × OrLacks (RespectsBounds p k s.names h) (LacksInMember p k s.names h) (missing_atom o)
    respects_decided h =
        let bounds = opened_members p h.parameter h.parameter.origin in
        let sets = argument_sets p s.names h.parameter.origin h.parameter h.argument in
        elim (outside_decided bounds (bounds_of p k) (go_down p (core_in_range p c.core) k) sets) [
          | inl respect ↦ (None, respect)
          | inr one ↦ (let atom : Atom = record { 0 = one.0 } in (Some atom, (outside_disrespects bounds (bounds_of p k) sets one.0 one.1, one.1)))
        ]

    abbrev InstanceSomehow : Type 0
    InstanceSomehow = (o : Option Misfit) × InstanceComesTo p k s.names m arguments o

    after_types : InstanceFits p k s.names m arguments → (o : Option Atom) → FirstLack (RespectsBounds p k s.names) (LacksInMember p k s.names) Handing (missing_atom o) → InstanceSomehow
    after_types fits (Some a) f = (Some (record { premise = 5; missing = Some a }), members_outside p k s.names m arguments fits (Some a) f refl)
    after_types fits None f = (None, instance_holds p k s.names m arguments fits None f refl)

    instance_by : (o : Option ℕ) → OrFails (Agrees p Resource m arguments) (Disagrees p Resource m arguments) o → InstanceSomehow
    instance_by (Some n) a = (Some (record { premise = n; missing = None }), disagrees p k s.names m arguments (Some n) n refl a)
    instance_by None a = elim (of_each_decided (HasOpened p s.names) Handing (λ h i. opened_decided h)) [
      | inr wrong ↦ (let x : Misfit = record { premise = 3; missing = None } in (Some x, ((λ i. wrong i.members), inl (inr (a.0, inr (a.1, inl (wrong, refl))), refl))))
      | inl members ↦ elim (of_each_decided (IsArgument p k s.names Sets) Handing argument_decided) [
        | inr wrong ↦ (let x : Misfit = record { premise = 4; missing = None } in (Some x, ((λ i. wrong i.types), inl (inr (a.0, inr (a.1, inr (members, inl (wrong, refl)))), refl))))
        | inl types ↦ (let lack = first_lack_decided (RespectsBounds p k s.names) (LacksInMember p k s.names) Handing respects_decided in after_types (record { resource = a.0; numbers = a.1; members = members; types = types }) lack.0 lack.1)
      ]
    ]

    ------------------------------------------------------------
    -- I-Import

    module _ (bound : List ℕ) (same : NumbersAgree p k s.names m arguments) (holds : PlainHolds p k s.names m) where
      abbrev BoundSomehow : Type 0
      BoundSomehow = (o : Option Misfit) × BoundComesTo p k s.names m arguments bound o

      abbrev EachBounded : Type 0
      EachBounded = OfEach (λ (h : Handed). Bounded p k s.names bound h.argument) Handing

      abbrev EachSafe : Type 0
      EachSafe = OfEach (λ (h : Handed). Safe p k s.names bound h.argument) Handing

      after_safe : EachBounded → EachSafe → BoundSomehow
      after_safe w v = elim (of_each_decided (IsPlainArgument p k s.names) Handing plain_argument_decided) [
        | inr wrong ↦ (let x : Misfit = record { premise = 3; missing = None } in (Some x, ((λ i. wrong i.types), inr (w, inr (v, (refl, inl (wrong, refl)))))))
        | inl types ↦ (None, record { effects = w; safe = v; types = types; module_holds = holds })
      ]

      safe_by : EachBounded → (o : Option Atom) → FirstLack (Safe p k s.names bound) (Unsafe p k s.names bound) arguments (missing_atom o) → BoundSomehow
      safe_by w (Some a) f = (Some (record { premise = 2; missing = Some a }), unsafe p k s.names m arguments bound same (Some a) w f refl)
      safe_by w None f = after_safe w (safe p k s.names m arguments bound same None f refl)

      bounded_by : (o : Option Atom) → FirstLack (Bounded p k s.names bound) (Exceeds p k s.names bound) arguments (missing_atom o) → BoundSomehow
      bounded_by (Some a) f = (Some (record { premise = 1; missing = Some a }), exceeds p k s.names m arguments bound same (Some a) f refl)
      bounded_by None f =
          let w = bounded p k s.names m arguments bound same None f refl in
          let lack = first_lack_decided (Safe p k s.names bound) (Unsafe p k s.names bound) arguments
          (λ a. safe_decided p (core_in_range p c.core) k bound (type_of (slice_get s.names a)) (argument_in_range p k s c a)) in
          safe_by w lack.0 lack.1

      bound_somehow : BoundSomehow
      bound_somehow =
          let lack = first_lack_decided (Bounded p k s.names bound) (Exceeds p k s.names bound) arguments
          (λ a. bounded_decided p (core_in_range p c.core) k bound (type_of (slice_get s.names a)) (argument_in_range p k s c a)) in
          bounded_by lack.0 lack.1

  ------------------------------------------------------------
  -- The nodes of lines

  module _ (plain : AllGoOn p (scopes_of plain_modules 0 p.scopes)) where
    abbrev LineSomehow : OwnName → Origin → Type 0
    LineSomehow n origin = (o : Option Fault) × NodesComeTo p k s (line_nodes n origin) o

    use_line : (n : OwnName) (m : ℕ) → LineSomehow n (Use m)
    use_line n m = elim (kind_decided p Pure m) [
      | inl pure ↦ (None, use_passes p n m pure k s)
      | inr other ↦ (Some (fault_at n.place MUse 1), use_fails p n m (fault_at n.place MUse 1) refl other k s)
    ]

    instance_line : (n : OwnName) (m : ℕ) (arguments : List ℕ) (o : Option Misfit) → InstanceComesTo p k s.names m arguments o → LineSomehow n (Instance m arguments)
    instance_line n m arguments None h = (None, instance_passes p k s n m arguments None refl h)
    instance_line n m arguments (Some x) h = (Some (misfit_fault n.place MInst s.atoms x), instance_fails p k s n m arguments (Some x) x (misfit_fault n.place MInst s.atoms x) refl refl h)

    bound_line : (n : OwnName) (m : ℕ) (arguments bound : List ℕ) → Agrees p Plain m arguments → (o : Option Misfit) → BoundComesTo p k s.names m arguments bound o → LineSomehow n (Import m arguments bound)
    bound_line n m arguments bound a None h = (None, bound_passes p k s n m arguments bound None a refl h)
    bound_line n m arguments bound a (Some x) h = (Some (misfit_fault n.place IImport s.atoms x), bound_fails p k s n m arguments bound (Some x) x (misfit_fault n.place IImport s.atoms x) a refl refl h)

    import_line : (n : OwnName) (m : ℕ) (arguments bound : List ℕ) (o : Option ℕ) → OrFails (Agrees p Plain m arguments) (Disagrees p Plain m arguments) o → LineSomehow n (Import m arguments bound)
    import_line n m arguments bound (Some x) h = (Some (fault_at n.place MImport x), import_misfits p k s n m arguments bound (Some x) x (fault_at n.place MImport x) refl refl h)
    import_line n m arguments bound None a = (let q = bound_somehow m arguments bound a.1 (plain_holds p k s.names m plain a.0) in bound_line n m arguments bound a q.0 q.1)

    line_decided : (n : OwnName) (origin : Origin) → LineSomehow n origin
    line_decided n (Parameter bare) = (None, tt)
    line_decided n Grant = (None, tt)
    line_decided n (Use m) = use_line n m
    line_decided n (Instance m arguments) = (let a = agrees_decided p Resource m arguments in let q = instance_by m arguments a.0 a.1 in instance_line n m arguments q.0 q.1)
    line_decided n (Import m arguments bound) = (let a = agrees_decided p Plain m arguments in import_line n m arguments bound a.0 a.1)

    abbrev NamesSomehow : List OwnName → Type 0
    NamesSomehow ns = (o : Option Fault) × NodesComeTo p k s (lines_nodes ns) o

    name_then : (n : OwnName) (ns : List OwnName) (o : Option Fault) → NodesComeTo p k s (line_nodes n n.origin) o → NamesSomehow ns → NamesSomehow (n ∷ ns)
    name_then n ns None h rest = (rest.0, all_then p k s (line_nodes n n.origin) (lines_nodes ns) rest.0 h rest.1)
    name_then n ns (Some f) h rest = (Some f, fails_then p k s (line_nodes n n.origin) (lines_nodes ns) f h)

    names_decided : (ns : List OwnName) → NamesSomehow ns
    names_decided [] = (None, tt)
    names_decided (n ∷ ns) = (let one = line_decided n n.origin in name_then n ns one.0 one.1 (names_decided ns))

------------------------------------------------------------
-- All lines, and the whole program

module _ (p : Program) (core : IsCore p) where
  abbrev LinesSomehow : ℕ → List Scope → Type 0
  LinesSomehow k ss = (o : Option Fault) × LinesFrom p k ss o

  scope_then : (k : ℕ) (s : Scope) (ss : List Scope) (o q : Option Fault) → NodesComeTo p k s (lines_nodes s.names) o → LinesFrom p (k + 1) ss q → LinesSomehow k (s ∷ ss)
  scope_then k s ss (Some f) q h rest = (Some f, inl h)
  scope_then k s ss None None h rest = (None, (h, rest))
  scope_then k s ss None (Some f) h rest = (Some f, inr (h, rest))

  module _ (plain : AllGoOn p (scopes_of plain_modules 0 p.scopes)) where
    from_scope : (k : ℕ) (ss : List Scope) → ((i : ℕ) (s : Scope) → slice_get ss i ≡ Some s → slice_get p.scopes (k + i) ≡ Some s) → LinesSomehow k ss
    from_scope k [] there = (None, tt)
    from_scope k (s ∷ ss) there =
        let at : k + 0 ≡ k = omega arith in
        let one = names_decided p k s (record { core = core; there = subst (λ j. slice_get p.scopes j ≡ Some s) at (there 0 s refl) }) plain s.names in
        let rest = from_scope (k + 1) ss (λ i t e. (let next : k + suc i ≡ k + 1 + i = omega arith in subst (λ j. slice_get p.scopes j ≡ Some t) next (there (suc i) t e))) in
        scope_then k s ss one.0 rest.0 one.1 rest.1

    pass_or_fault : (o : Option Fault) → LinesFrom p 0 p.scopes o → LinesPassFrom p 0 p.scopes ⊎ ((fault : Fault) × IsLineFault p fault)
    pass_or_fault None h = inl h
    pass_or_fault (Some f) h = inr (f, h)

    pub lines_decided : LinesPassFrom p 0 p.scopes ⊎ ((fault : Fault) × IsLineFault p fault)
    lines_decided = (let all = from_scope 0 p.scopes (λ i s e. (let same : i ≡ 0 + i = omega arith in subst (λ j. slice_get p.scopes j ≡ Some s) same e)) in pass_or_fault all.0 all.1)

  pub program_decided : IsAccepted p ⊎ ((end : End) × IsEnd p end)
  program_decided = decided_by p (scope_decided p core) lines_decided
