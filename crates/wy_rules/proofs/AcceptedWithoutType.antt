-- A program in which a declared type is another, which none of its scopes writes, is accepted as before.
use Rattle.std.proofs.Common.{◌≡◌, ℕ, List, [], ◌∷◌, ◌++◌, map, inl, inr, refl, sym, ◌∙◌, ap, ap₂, subst, Option, Some, None, Bool as Truth, true, false}
use Rattle.std.specs.Prelude.{slice_get}
use Rattle.wy_effects.specs.Bounds.{Respects, IsUnder}
use Rattle.wy_text.specs.Members.{In}
use Rattle.wy_text.proofs.Lists.{In-slice_get}
use Rattle.wy_types.specs.declared.path.Part.{Part}
use Rattle.wy_types.specs.declared.path.Part.TheVariants as part
use Rattle.wy_types.specs.declared.path.Step.{Step}
use Rattle.wy_types.specs.declared.types.TypeRef.{TypeRef}
use Rattle.wy_types.specs.declared.types.TypeRef.TheVariants.{Int, Bool, Text, Unit as Nothing, Named, At, Own}
use Rattle.wy_types.specs.declared.resolved.Origin.{Origin}
use Rattle.wy_types.specs.declared.resolved.Origin.TheVariants.{Parameter, Grant, Use, Instance, Import}
use Rattle.wy_types.specs.declared.resolved.OwnName.{OwnName}
use Rattle.wy_types.specs.declared.resolved.TypeDecl.{TypeDecl}
use Rattle.wy_types.specs.Bounds.{bounds_of, declaration_bounds, type_bounds}
use Rattle.wy_types.specs.Ground.{argument_sets, arguments_sets, member_set, members_of, names_of, declared_set, abstract_names, set_or_empty, type_of}
use Rattle.wy_types.specs.Paths.{Goes, IsEffect, IsPartOf, Reaches, Walks}
use Rattle.wy_types.specs.Program.{Program, Scope}
use Rattle.wy_types.specs.Signature.{Signature}
use Rattle.wy_types.specs.Subtyping.{IsAnnotatedSubtype, IsPlainSubtype}
use Rattle.wy_types.specs.Types.{erased, is_plain, methods_of, substituted}
use Rattle.wy_rules.specs.Acceptance.{Accepted, AscriptionHolds, DefinitionsRespect, Handed, HasMembers, ImportHolds, InstanceHolds, LineHolds, MembersHold, PlainHolds, ScopeAccepted, SealHolds, handed_to, is_parameter, opened, opened_members, parameters_among, parameters_of, parameters_until, reading_of}
use Rattle.wy_rules.specs.Reached.{Each}
use Rattle.wy_rules.specs.Transfer.{AcceptedWithoutType, DiffersAt, LeavesOut, NamesNot, WritesNot}
use Rattle.wy_rules.proofs.Transferring.{base_methods, below_over, plain_tests, tests_over, transferred_in}
use Rattle.wy_rules.proofs.WithoutType.{agree, agrees_in, erased_not, methods_not, put_not, scopes_hold_without_type}

each_of : (P : TypeRef → Type 0) (ts : List TypeRef) → ((t : TypeRef) → In t ts → P t) → Each P ts
each_of P [] h = tt
each_of P (t ∷ ts) h = (h t (inl refl), each_of P ts (λ u j. h u (inr j)))

-- a parameter that is handed something is one of the module's own names
among_names : (ns : List OwnName) (n : OwnName) → In n (parameters_among ns) → In n ns
among_names [] n j = absurd j
among_names (m ∷ ns) n j = of (is_parameter m.origin) (among_names ns n) j
  where
    of : (b : Truth) → (In n (parameters_among ns) → In n ns) → In n (parameters_until b m (parameters_among ns)) → In n (m ∷ ns)
    of true rest (inl e) = inl e
    of true rest (inr j) = inr (rest j)
    of false rest j = absurd j

handed_name : (ns : List OwnName) (arguments : List ℕ) (h : Handed) → In h (handed_to ns arguments) → In h.parameter ns
handed_name [] arguments h j = absurd j
handed_name (n ∷ ns) [] h j = absurd j
handed_name (n ∷ ns) (a ∷ arguments) h (inl e) = inl (ap (λ (c : Handed). c.parameter) e)
handed_name (n ∷ ns) (a ∷ arguments) h (inr j) = inr (handed_name ns arguments h j)

module _ (i : ℕ) (ds es : List TypeDecl) (ss : List Scope) where
  abbrev before : Program
  before = record { declarations = ds; scopes = ss }

  abbrev after : Program
  after = record { declarations = es; scopes = ss }

  module _ (w : DiffersAt i before after) (left : (k : ℕ) (s : Scope) → slice_get ss k ≡ Some s → LeavesOut i before s) where
    ------------------------------------------------------------
    -- Members

    pub same_members : (t : TypeRef) → NamesNot i t → members_of before t ≡ members_of after t
    same_members Int n = refl
    same_members Bool n = refl
    same_members Text n = refl
    same_members Nothing n = refl
    same_members (Named d sets) n = ap abstract_names (w.declarations d n)
    same_members (At d bound) n = ap abstract_names (w.declarations d n)
    same_members (Own l) n = refl

    same_bounds : (t : TypeRef) → NamesNot i t → type_bounds before t ≡ type_bounds after t
    same_bounds Int n = refl
    same_bounds Bool n = refl
    same_bounds Text n = refl
    same_bounds Nothing n = refl
    same_bounds (Named d sets) n = ap declaration_bounds (w.declarations d n)
    same_bounds (At d bound) n = ap declaration_bounds (w.declarations d n)
    same_bounds (Own l) n = refl

    same_set : (t : TypeRef) → NamesNot i t → (member : List ℕ) → member_set before t member ≡ member_set after t member
    same_set Int n member = refl
    same_set Bool n member = refl
    same_set Text n member = refl
    same_set Nothing n member = refl
    same_set (Named d sets) n member = ap (λ (o : Option TypeDecl). declared_set member o sets) (w.declarations d n)
    same_set (At d bound) n member = refl
    same_set (Own l) n member = refl

    same_sets : (t : TypeRef) → NamesNot i t → (members : List (List ℕ)) →
        map (λ member. set_or_empty (member_set before t member)) members ≡ map (λ member. set_or_empty (member_set after t member)) members
    same_sets t n [] = refl
    same_sets t n (member ∷ members) = ap₂ (λ (x : List ℕ) (xs : List (List ℕ)). x ∷ xs) (ap set_or_empty (same_set t n member)) (same_sets t n members)

    -- what a module's own names are of
    pub name_not : (m : ℕ) (n : OwnName) → In n (names_of (slice_get ss m)) → NamesNot i n.typ
    name_not m n j = of (slice_get ss m) refl j
      where
        of : (o : Option Scope) → slice_get ss m ≡ o → In n (names_of o) → NamesNot i n.typ
        of None e j = absurd j
        of (Some s) e j = (left m s e).writes.names n j

    handed_not : (m : ℕ) (arguments : List ℕ) (h : Handed) → In h (handed_to (parameters_of before m) arguments) → NamesNot i h.parameter.typ
    handed_not m arguments h j = name_not m h.parameter (among_names (names_of (slice_get ss m)) h.parameter (handed_name (parameters_of before m) arguments h j))

    -- own names of which none is of the type
    module _ (outer : List OwnName) (clear : (n : OwnName) → In n outer → NamesNot i n.typ) where
      argument_not : (a : ℕ) → NamesNot i (type_of (slice_get outer a))
      argument_not a = of (slice_get outer a) refl
        where
          of : (o : Option OwnName) → slice_get outer a ≡ o → NamesNot i (type_of o)
          of None e = tt
          of (Some n) e = clear n (In-slice_get outer a n e)

      same_argument : (o : Origin) (n : OwnName) (a : ℕ) → NamesNot i n.typ → argument_sets before outer o n a ≡ argument_sets after outer o n a
      same_argument (Parameter true) n a h =
          same_sets (type_of (slice_get outer a)) (argument_not a) (members_of before n.typ)
          ∙ ap (map (λ member. set_or_empty (member_set after (type_of (slice_get outer a)) member))) (same_members n.typ h)
      same_argument (Parameter false) n a h = refl
      same_argument Grant n a h = refl
      same_argument (Use m) n a h = refl
      same_argument (Instance m arguments) n a h = refl
      same_argument (Import m arguments bound) n a h = refl

      pub same_arguments : (ns : List OwnName) (arguments : List ℕ) → ((n : OwnName) → In n ns → NamesNot i n.typ) →
          arguments_sets before outer ns arguments ≡ arguments_sets after outer ns arguments
      same_arguments [] arguments h = refl
      same_arguments (n ∷ ns) [] h = refl
      same_arguments (n ∷ ns) (a ∷ arguments) h =
          ap₂ (λ (xs zs : List (List ℕ)). xs ++ zs) (same_argument n.origin n a (h n (inl refl))) (same_arguments ns arguments (λ m j. h m (inr j)))

    module _ (k : ℕ) (s : Scope) (at : slice_get ss k ≡ Some s) where
      abbrev writes : WritesNot i s
      writes = (left k s at).writes

      handed_in : (a : ℕ) → NamesNot i (type_of (slice_get s.names a))
      handed_in = argument_not s.names writes.names

      ------------------------------------------------------------
      -- Subtyping, and paths

      params_not : (t : TypeRef) → NamesNot i t → (x : Signature TypeRef) → In x (methods_of before k t) → Each (NamesNot i) x.params
      params_not t n x j = each_of (NamesNot i) x.params ((methods_not i before after k s w at writes t n x j).0)

      result_not : (t : TypeRef) → NamesNot i t → (x : Signature TypeRef) → In x (methods_of before k t) → NamesNot i x.result
      result_not t n x j = (methods_not i before after k s w at writes t n x j).1

      annotated_below : (a b : TypeRef) → NamesNot i a → NamesNot i b → IsAnnotatedSubtype before k a b → IsAnnotatedSubtype after k a b
      annotated_below a b f g h =
          below_over (methods_of before k) (methods_of after k) (tests_over (bounds_of before k)) (NamesNot i) params_not result_not
          (agree i before after k s w at writes) (base_methods before k) a b f g h

      plain_below : (a b : TypeRef) → NamesNot i a → NamesNot i b → IsPlainSubtype before k a b → IsPlainSubtype after k a b
      plain_below a b f g h =
          below_over (methods_of before k) (methods_of after k) plain_tests (NamesNot i) params_not result_not
          (agree i before after k s w at writes) (base_methods before k) a b f g h

      part_not : (x : Signature TypeRef) (o : Part) (u : TypeRef) → IsPartOf TypeRef (methods_of after k) x o u → ((t : TypeRef) → In t x.params → NamesNot i t) → NamesNot i x.result → NamesNot i u
      part_not x part.Result u e f g = subst (NamesNot i) e g
      part_not x (part.Parameter j) u e f g = f u (In-slice_get x.params j u e)

      pub walks_back : (path : List Step) (t u : TypeRef) → NamesNot i t → Walks TypeRef (methods_of after k) t path u → Walks TypeRef (methods_of before k) t path u × NamesNot i u
      walks_back [] t u n e = (e, subst (NamesNot i) e n)
      walks_back (step ∷ path) t u n h =
          let g = h.1 in
          let has : In g.method (methods_of before k t) = subst (λ ms. In g.method ms) (sym (agree i before after k s w at writes t n)) g.has in
          let m = methods_not i before after k s w at writes t n g.method has in
          let rest = walks_back path h.0 u (part_not g.method step.part h.0 g.part m.0 m.1) h.2 in
          ((h.0, record { method = g.method; has = has; named = g.named; part = g.part }, rest.0), rest.1)

      effect_back : (t : TypeRef) (positive : Truth) (a : ℕ) → NamesNot i t → IsEffect TypeRef (methods_of after k) t positive a → IsEffect TypeRef (methods_of before k) t positive a
      effect_back t positive a n h =
          let r = walks_back h.1.0 t h.0 n h.1.1 in
          (h.0, (h.1.0, r.0, h.1.2), (h.2.0, subst (λ ms. In h.2.0 ms) (sym (agree i before after k s w at writes h.0 r.1)) h.2.1, h.2.2))

      ------------------------------------------------------------
      -- The seal

      seal_kept : (plain : Truth) (o : Option ℕ) → s.ascribed ≡ o → SealHolds (reading_of before k plain) s o → SealHolds (reading_of after k plain) s o
      seal_kept plain None e h = tt
      seal_kept true (Some d) e h = plain_below (Own 0) (Named d s.definitions) tt ((left k s at).sealed d e) h
      seal_kept false (Some d) e h = annotated_below (Own 0) (Named d s.definitions) tt ((left k s at).sealed d e) h

      respects_kept : (o : Option ℕ) → s.ascribed ≡ o → DefinitionsRespect before k s o → DefinitionsRespect after k s o
      respects_kept None e h = tt
      respects_kept (Some d) e h =
          subst (λ (o : Option TypeDecl). Respects (declaration_bounds o) (bounds_of before k) s.definitions) (w.declarations d ((left k s at).sealed d e)) h

      members_kept : (plain : Truth) → MembersHold before k s plain → MembersHold after k s plain
      members_kept true h = tt
      members_kept false h = respects_kept s.ascribed refl h

      ------------------------------------------------------------
      -- Lines

      plain_kept : (m : ℕ) → PlainHolds before k s.names m → PlainHolds after k s.names m
      plain_kept m h =
          let l = left m h.0 h.1 in
          (h.0, h.1, transferred_in before after m h.0 true l.fits refl (agrees_in i before after m h.0 w h.1 l.writes true) h.2)

      instance_kept : (m : ℕ) (arguments : List ℕ) → InstanceHolds before k s.names m arguments → InstanceHolds after k s.names m arguments
      instance_kept m arguments h = record {
        resource = h.resource;
        numbers = h.numbers;
        members = λ x j member l.
            let n = handed_not m arguments x j in
            let r = h.members x j member (subst (In member) (sym (same_opened x.parameter x.parameter.origin n)) l) in
            (r.0, sym (same_set (type_of (slice_get s.names x.argument)) (handed_in x.argument) member) ∙ r.1);
        types = λ x j.
            let sets = arguments_sets before s.names (names_of (slice_get ss m)) arguments in
            subst (λ (by : List (List ℕ)). IsAnnotatedSubtype after k (type_of (slice_get s.names x.argument)) (substituted by x.parameter.typ))
            (same_arguments s.names writes.names (names_of (slice_get ss m)) arguments (name_not m))
            (annotated_below (type_of (slice_get s.names x.argument)) (substituted sets x.parameter.typ) (handed_in x.argument)
            (put_not i before after k s w at writes sets x.parameter.typ (handed_not m arguments x j)) (h.types x j));
        bounds = λ x j.
            let n = handed_not m arguments x j in
            subst (λ (by : List (List ℕ)). Respects (opened_members after x.parameter x.parameter.origin) (bounds_of before k) by)
            (same_argument s.names writes.names x.parameter.origin x.parameter x.argument n)
            (subst (λ b. Respects b (bounds_of before k) (argument_sets before s.names x.parameter.origin x.parameter x.argument))
            (same_opened_bounds x.parameter x.parameter.origin n) (h.bounds x j));
      }
        where
          same_opened : (n : OwnName) (o : Origin) → NamesNot i n.typ → opened before n o ≡ opened after n o
          same_opened n (Parameter true) h = same_members n.typ h
          same_opened n (Parameter false) h = refl
          same_opened n Grant h = refl
          same_opened n (Use m) h = refl
          same_opened n (Instance m arguments) h = refl
          same_opened n (Import m arguments bound) h = refl

          same_opened_bounds : (n : OwnName) (o : Origin) → NamesNot i n.typ → opened_members before n o ≡ opened_members after n o
          same_opened_bounds n (Parameter true) h = same_bounds n.typ h
          same_opened_bounds n (Parameter false) h = refl
          same_opened_bounds n Grant h = refl
          same_opened_bounds n (Use m) h = refl
          same_opened_bounds n (Instance m arguments) h = refl
          same_opened_bounds n (Import m arguments bound) h = refl

      import_kept : (m : ℕ) (arguments : List ℕ) (bound : List ℕ) → ImportHolds before k s.names m arguments bound → ImportHolds after k s.names m arguments bound
      import_kept m arguments bound h = record {
        effects = λ x j a e. h.effects x j a (effect_back (type_of (slice_get s.names x.argument)) true a (handed_in x.argument) e);
        safe = λ x j u r f l.
            let b = walks_back r.0 (type_of (slice_get s.names x.argument)) u (handed_in x.argument) r.1 in
            h.safe x j u (r.0, b.0, r.2) f (subst (λ ms. In f ms) (sym (agree i before after k s w at writes u b.1)) l);
        types = λ x j.
            plain_below (erased (type_of (slice_get s.names x.argument))) (erased x.parameter.typ)
            (erased_not i before after k s w at writes (type_of (slice_get s.names x.argument)) (handed_in x.argument))
            (erased_not i before after k s w at writes x.parameter.typ (handed_not m arguments x j)) (h.types x j);
        module_holds = plain_kept m h.module_holds;
      }

      line_kept : (o : Origin) → LineHolds before k s.names o → LineHolds after k s.names o
      line_kept (Parameter bare) h = tt
      line_kept Grant h = tt
      line_kept (Use m) h = h
      line_kept (Instance m arguments) h = instance_kept m arguments h
      line_kept (Import m arguments bound) h = (record { plain = h.0.plain; numbers = h.0.numbers }, import_kept m arguments bound h.1)

      scope_kept : ScopeAccepted before k s → ScopeAccepted after k s
      scope_kept h = record {
        pure = h.pure;
        bodies = scopes_hold_without_type i before after k s w at (left k s at).fits writes h.bodies;
        seal = (seal_kept (is_plain s.kind) s.ascribed refl h.seal.0, members_kept (is_plain s.kind) h.seal.1);
        lines = λ n j. line_kept n.origin (h.lines n j);
      }

    accepted_kept : Accepted before → Accepted after
    accepted_kept h = record { scopes = λ k s at. scope_kept k s at (h.scopes k s at) }

pub accepted_without_type : AcceptedWithoutType
accepted_without_type i p other w left h =
    let same : record { declarations = other.declarations; scopes = p.scopes } ≡ other =
    ap (λ (ss : List Scope). let q : Program = record { declarations = other.declarations; scopes = ss } in q) w.scopes in
    let onward : DiffersAt i p (record { declarations = other.declarations; scopes = p.scopes }) =
    record { scopes = refl; declarations = w.declarations; named_not = w.named_not } in
    subst Accepted same (accepted_kept i p.declarations other.declarations p.scopes onward left h)
